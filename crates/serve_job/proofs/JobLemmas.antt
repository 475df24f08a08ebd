-- What a fleet printed, and why its job ended.
use Rattle.std.proofs.Common.{◌≡◌, ℕ, ◌≤◌, List, [], ◌++◌, ◌⊎◌, inl, inr, refl, sym, subst, ap, ◌∙◌, append-nil, arith}
use Rattle.std.specs.Prelude.{◌≢◌, Bool, true, false, ◌&&◌, Option, None, Some}
use Rattle.std.proofs.lemmas.List.{append_assoc}
use Rattle.std.specs.Io.KnownBytes.{Appends}
use Rattle.std.proofs.KnownBytes.{Appends-nil, Appends-trans}
use Rattle.tsd_io.specs.Causes.{Rose}
use Rattle.link_acceptor.specs.Accepting.{IsNoneLeft}
use Rattle.cell_model.specs.declared.answers.Tally.{Tally}
use Rattle.cell_model.specs.Store.{Store}
use Rattle.cell_region.specs.DividedStore.{DividedStore}
use Rattle.cell_model.specs.Sound.{IsSound}
use Rattle.cell_laws.proofs.CallerLemmas.{sound_after}
use Rattle.listing_print.specs.GivenTexts.{GaveFront}
use Rattle.tsd_daemon.specs.declared.served.Served.{Served}
use Rattle.tsd_fleet.specs.declared.fleet_end.FleetEnd.{FleetEnd}
use Rattle.tsd_fleet.specs.declared.fleet_end.FleetEnd.TheVariants as end
use Rattle.tsd_fleet.specs.Devices.{FleetDevices, NoneFalls, OutputTold, Terms}
use Rattle.tsd_fleet.specs.FleetServes.{BeginsToListen, CountsLinks, FleetDoes, FleetKeeps, HasFleetReason, HasListened, IsFirstFront, KeepsRows, Listens, Outcome, listening_line}
use Rattle.serve_job.specs.FleetRuns.{EndsJob, EndsSo, FinishesJob, FleetCauses, FleetPrints, IsFleetFront, IsLast, RunsFleet, WriteCause, has_no_more, is_too_large, last_lines}
use Rattle.serve_job.specs.declared.last_lines.LastLines.{LastLines}

-- ---- the last lines

pub no_more : (e : FleetEnd) → (e ≡ end.Closed) ⊎ (e ≡ end.Died) → has_no_more e ≡ true
no_more e (inl closed) = ap has_no_more closed
no_more e (inr died) = ap has_no_more died

-- a fleet that no connection could come to any more printed nothing behind its first line
pub finish_early : (served : FleetEnd) (save : Bool) (held : Option (List ℕ)) (links : ℕ) (tally : Tally) (store : Store) → has_no_more served ≡ false → FinishesJob served served false save held held links tally store
finish_early served save held links tally store last = record {
  job = record {
    printed = [];
    rest = last_lines links tally save store;
    gives = Appends-nil held;
    front = refl;
    whole = λ is. let t : false ≡ true = sym last ∙ is in absurd cc;
    nothing = λ is. refl;
    memory = λ is. refl;
    so = inl refl;
  };
  refused_is = ap (λ (b : Bool). b && is_too_large save store) (sym last);
}

-- nothing was printed for want of memory
pub finish_none : (served : FleetEnd) (save : Bool) (held : Option (List ℕ)) (links : ℕ) (tally : Tally) (store : Store) → has_no_more served ≡ true → FinishesJob served end.OutOfMemory false save held held links tally store
finish_none served save held links tally store more = record {
  job = record {
    printed = [];
    rest = last_lines links tally save store;
    gives = Appends-nil held;
    front = refl;
    whole = λ is. let t : false ≡ true = is in absurd cc;
    nothing = λ is. refl;
    memory = λ is. refl;
    so = inr (more, inl refl);
  };
  refused_is = refl;
}

-- the rows that are left are those that were handed back
pub finish_kept : (served result : FleetEnd) (refused save : Bool) (held held' : Option (List ℕ)) (links : ℕ) (tally : Tally) (rows : Option DividedStore) (d left : DividedStore) → has_no_more served ≡ true → rows ≡ Some d
    → (served ≢ end.OutOfMemory → rows ≡ Some left) → FinishesJob served result refused save held held' links tally d.content → FinishesJob served result refused save held held' links tally left.content
finish_kept served result refused save held held' links tally rows d left more is kept f =
    subst (λ (x : DividedStore). FinishesJob served result refused save held held' links tally x.content) (ap value (sym is ∙ kept (λ memory. let t : false ≡ true = sym (ap has_no_more memory) ∙ more in absurd cc))) f
  where
    value : Option DividedStore → DividedStore
    value None = d
    value (Some x) = x

-- all was printed
pub finish_whole : (served : FleetEnd) (save : Bool) (held held' : Option (List ℕ)) (links : ℕ) (tally : Tally) (store : Store) (l : LastLines) → has_no_more served ≡ true → IsLast (last_lines links tally save store) (is_too_large save store) l
    → Appends held held' (l.text.items ++ l.cells.items) → FinishesJob served served l.refused save held held' links tally store
finish_whole served save held held' links tally store l more is gave = record {
  job = record {
    printed = l.text.items ++ l.cells.items;
    rest = [];
    gives = gave;
    front = append-nil (l.text.items ++ l.cells.items) ∙ sym is.lines_are;
    whole = λ last. sym is.lines_are;
    nothing = λ last. let t : true ≡ false = sym more ∙ last in absurd cc;
    memory = λ out. let t : false ≡ true = sym (ap has_no_more out) ∙ more in absurd cc;
    so = inl refl;
  };
  refused_is = is.refused_is ∙ ap (λ (b : Bool). b && is_too_large save store) (sym more);
}

-- a front was printed, and the output failed
pub finish_failed : (served : FleetEnd) (save : Bool) (held held' : Option (List ℕ)) (links : ℕ) (tally : Tally) (store : Store) (l : LastLines) → has_no_more served ≡ true → IsLast (last_lines links tally save store) (is_too_large save store) l
    → GaveFront held held' (l.text.items ++ l.cells.items) → FinishesJob served end.WriteFault false save held held' links tally store
finish_failed served save held held' links tally store l more is f = record {
  job = record {
    printed = f.front;
    rest = f.rest;
    gives = f.gives;
    front = sym f.text_is ∙ sym is.lines_are;
    whole = λ last. let t : false ≡ true = last in absurd cc;
    nothing = λ last. let t : true ≡ false = sym more ∙ last in absurd cc;
    memory = λ out. let t : end.WriteFault ≡ end.OutOfMemory = out in absurd cc;
    so = inr (more, inr refl);
  };
  refused_is = refl;
}

-- what is handed back of a sound store
pub left_sound : (served : FleetEnd) (n : ℕ) (store : Store) (rows : Option DividedStore) → IsSound store → KeepsRows served store n rows → (left : DividedStore) → served ≢ end.OutOfMemory → rows ≡ Some left → IsSound left.content
left_sound served n store rows sound keeps left memory is =
    subst (λ (x : DividedStore). IsSound x.content) (ap value (sym (keeps.kept memory) ∙ is)) sound
  where
    value : Option DividedStore → DividedStore
    value None = record { data_regions = n; content = store }
    value (Some x) = x

-- ---- what the job printed

-- nothing was printed behind the first line, but where no more came or the output failed
early_by : {served result : FleetEnd} {held held' : Option (List ℕ)} {lines : List ℕ} (e : EndsJob served result held held' lines) → EndsSo served result → has_no_more result ≡ false → result ≢ end.WriteFault → e.printed ≡ []
early_by e (inl same) last not_write = e.nothing (sym (ap has_no_more same) ∙ last)
early_by e (inr (more, inl memory)) last not_write = e.memory memory
early_by e (inr (more, inr write)) last not_write = absurd (not_write write)

early : {served result : FleetEnd} {held held' : Option (List ℕ)} {lines : List ℕ} (e : EndsJob served result held held' lines) → has_no_more result ≡ false → result ≢ end.WriteFault → e.printed ≡ []
early e last not_write = early_by e e.so last not_write

-- behind the line of the port
after_line : {served result : FleetEnd} (before after : FleetDevices) (o : OutputTold) (asked : ℕ) (lines : List ℕ) → Listens asked before.output.held after.output.held after.doors.counts
    → EndsJob served result after.output.held o.held lines → FleetPrints asked lines before (record after { output = o }) result
after_line {result = result} before after o asked lines l e =
    let line : has_no_more result ≡ false → result ≢ end.WriteFault → listening_line l.0 ++ e.printed ≡ listening_line l.0 =
    λ last not_write. ap (λ (x : List ℕ). listening_line l.0 ++ x) (early e last not_write) ∙ append-nil (listening_line l.0) in
    record {
      printed = listening_line l.0 ++ e.printed;
      gives = Appends-trans before.output.held after.output.held o.held (listening_line l.0) e.printed l.2 e.gives;
      front = inr (l.0, e.rest, l.1, append_assoc (listening_line l.0) e.printed e.rest ∙ ap (λ (x : List ℕ). listening_line l.0 ++ x) e.front);
      whole = λ is. (l.0, l.1, ap (λ (x : List ℕ). listening_line l.0 ++ x) (e.whole is));
      first = λ last not_write. inr (l.0, [], l.1, append-nil (listening_line l.0 ++ e.printed) ∙ line last not_write);
      stopped = λ is. (l.0, l.1, line (ap has_no_more is) (λ write. let t : end.Stopped ≡ end.WriteFault = sym is ∙ write in absurd cc));
    }

-- a front of the first line is one of all lines
front_of_all : (given lines : List ℕ) (asked : ℕ) (bound : Option ℕ) → IsFirstFront given asked bound → IsFleetFront given asked bound lines
front_of_all given lines asked bound (inl nothing) = inl nothing
front_of_all given lines asked bound (inr (port, rest, is, line)) = inr (port, rest ++ lines, is, sym (append_assoc given rest lines) ∙ ap (λ (x : List ℕ). x ++ lines) line)

-- where not even that was written whole
after_front : {served result : FleetEnd} (before after : FleetDevices) (o : OutputTold) (asked : ℕ) (lines : List ℕ) → BeginsToListen asked before.output.held after.output.held after.doors.counts
    → (e : EndsJob served result after.output.held o.held lines) → e.printed ≡ [] → has_no_more result ≡ false → result ≢ end.Stopped → FleetPrints asked lines before (record after { output = o }) result
after_front before after o asked lines (given, gives, begun) e none more no_stop =
    let all : given ++ e.printed ≡ given = ap (λ (x : List ℕ). given ++ x) none ∙ append-nil given in
    record {
      printed = given;
      gives = subst (Appends before.output.held o.held) all (Appends-trans before.output.held after.output.held o.held given e.printed gives e.gives);
      front = front_of_all given lines asked after.doors.counts.port begun;
      whole = λ is. let t : false ≡ true = sym more ∙ is in absurd cc;
      first = λ last not_write. begun;
      stopped = λ is. absurd (no_stop is);
    }

-- an end that isn't for want of more stays
same_end : {served result : FleetEnd} → EndsSo served result → has_no_more served ≡ false → result ≡ served
same_end (inl same) last = same
same_end (inr (more, why)) last = let t : false ≡ true = sym last ∙ more in absurd cc

prints : (served : FleetEnd) {result : FleetEnd} (before after : FleetDevices) (o : OutputTold) (asked : ℕ) (lines : List ℕ) → HasListened asked before after served → EndsJob served result after.output.held o.held lines
    → FleetPrints asked lines before (record after { output = o }) result
prints end.Closed before after o asked lines l e = after_line before after o asked lines (l.closed refl) e
prints end.Died before after o asked lines l e = after_line before after o asked lines (l.died refl) e
prints end.Stopped before after o asked lines l e = after_line before after o asked lines (l.stopped refl) e
prints end.DoorFault before after o asked lines l e = after_front before after o asked lines l.begun e (e.nothing refl) (ap has_no_more (same_end e.so refl)) (λ is. let t : end.DoorFault ≡ end.Stopped = sym (same_end e.so refl) ∙ is in absurd cc)
prints end.WriteFault before after o asked lines l e = after_front before after o asked lines l.begun e (e.nothing refl) (ap has_no_more (same_end e.so refl)) (λ is. let t : end.WriteFault ≡ end.Stopped = sym (same_end e.so refl) ∙ is in absurd cc)
prints end.OutOfMemory before after o asked lines l e = after_front before after o asked lines l.begun e (e.nothing refl) (ap has_no_more (same_end e.so refl)) (λ is. let t : end.OutOfMemory ≡ end.Stopped = sym (same_end e.so refl) ∙ is in absurd cc)

-- ---- how it ended

-- an end other than for want of memory or a failure of the output is that of the fleet
ended : (want : FleetEnd) {served result : FleetEnd} → EndsSo served result → want ≢ end.OutOfMemory → want ≢ end.WriteFault → result ≡ want → served ≡ want
ended want (inl same) not_memory not_write is = sym same ∙ is
ended want (inr (more, inl memory)) not_memory not_write is = absurd (not_memory (sym is ∙ memory))
ended want (inr (more, inr write)) not_memory not_write is = absurd (not_write (sym is ∙ write))

ended_closed : {served result : FleetEnd} → EndsSo served result → result ≡ end.Closed → served ≡ end.Closed
ended_closed e is = ended end.Closed e (λ t. absurd cc) (λ t. absurd cc) is

ended_died : {served result : FleetEnd} → EndsSo served result → result ≡ end.Died → served ≡ end.Died
ended_died e is = ended end.Died e (λ t. absurd cc) (λ t. absurd cc) is

ended_stopped : {served result : FleetEnd} → EndsSo served result → result ≡ end.Stopped → served ≡ end.Stopped
ended_stopped e is = ended end.Stopped e (λ t. absurd cc) (λ t. absurd cc) is

ended_door_fault : {served result : FleetEnd} → EndsSo served result → result ≡ end.DoorFault → served ≡ end.DoorFault
ended_door_fault e is = ended end.DoorFault e (λ t. absurd cc) (λ t. absurd cc) is

-- an end that no refusal and no want of memory brought about follows on none of these
other_before : {served result : FleetEnd} (it : FleetEnd) → has_no_more it ≡ false → EndsSo served result → result ≢ it → served ≢ it
other_before it may_have (inl same) other is = other (same ∙ is)
other_before it may_have (inr (more, why)) other is = let t : true ≡ false = sym more ∙ ap has_no_more is ∙ may_have in absurd cc

-- want of memory stays one
counted : {served result : FleetEnd} {links ends : ℕ} (before after : FleetDevices) (o : OutputTold) → EndsSo served result → CountsLinks before after served links ends → CountsLinks before (record after { output = o }) result links ends
counted before after o e c = record {
  links_are = c.links_are;
  returned = c.returned;
  all = λ no_memory. c.all (λ memory. no_memory (same_end e (ap has_no_more memory) ∙ memory));
}

none_left : (result : FleetEnd) {served : FleetEnd} {ends : List Served} (before after : FleetDevices) → EndsSo served result → HasFleetReason before after served ends → has_no_more result ≡ true → IsNoneLeft before.doors.waiting after.doors.waiting
none_left end.Closed before after e r is = (r.closed (ended_closed e refl)).0
none_left end.Died before after e r is = (r.died (ended_died e refl)).0
none_left end.Stopped before after e r is = let t : false ≡ true = is in absurd cc
none_left end.DoorFault before after e r is = let t : false ≡ true = is in absurd cc
none_left end.WriteFault before after e r is = let t : false ≡ true = is in absurd cc
none_left end.OutOfMemory before after e r is = let t : false ≡ true = is in absurd cc

-- the output failed before or now
rose_by_now : (before mid now : ℕ) → Rose before mid → mid ≤ now → Rose before now
rose_by_now before mid now before_mid later = grind (arith)

rose_since : (before mid now : ℕ) → before ≤ mid → Rose mid now → Rose before now
rose_since before mid now earlier mid_now = grind (arith)

write_rose : (served : FleetEnd) (before mid now : ℕ) → before ≤ mid → mid ≤ now → (served ≡ end.WriteFault → Rose before mid) → (served ≡ end.WriteFault) ⊎ Rose mid now → Rose before now
write_rose served before mid now earlier later fault (inl is) = rose_by_now before mid now (fault is) later
write_rose served before mid now earlier later fault (inr rose) = rose_since before mid now earlier rose

-- no count fell
falls_none : (before after : FleetDevices) (o : OutputTold) → NoneFalls before after → after.output.faults ≤ o.faults → NoneFalls before (record after { output = o })
falls_none before after o n later = record { writes = up before.output.faults after.output.faults o.faults n.writes later; clock = n.clock; doors = n.doors; stops = n.stops }
  where
    up : (x y z : ℕ) → x ≤ y → y ≤ z → x ≤ z
    up x y z first then_ = omega (arith, first, then_)

-- ---- all of it

module _ {H : Type 0} (answers : H → Bool → H → Type 0) where
  pub causes : (terms : Terms) (before after : FleetDevices) (w : OutputTold) (old new : H) (o : Outcome) (result : FleetEnd) → FleetDoes answers terms before after old new o → EndsSo o.end result → WriteCause o.end result after.output.faults w.faults
      → FleetCauses before (record after { output = w }) result
  causes terms before after w old new o result d e c = record {
    none_left = none_left result before after e d.reason;
    stopped = λ is. d.reason.stopped (ended_stopped e is);
    heeded = λ no_stop enough. d.reason.heeded (other_before end.Stopped refl e no_stop) (other_before end.OutOfMemory refl e enough);
    door_fault = λ is. d.reason.door_fault (ended_door_fault e is);
    write_fault = λ is. write_rose o.end before.output.faults after.output.faults w.faults d.later.writes c.later d.reason.write_fault (c.cause is);
    later = falls_none before after w d.later c.later;
  }

  -- what a fleet left is sound
  pub left_is_sound : (terms : Terms) (before after : FleetDevices) (old new : H) (o : Outcome) (n : ℕ) (rows : Option DividedStore) → FleetKeeps answers terms before after old new o n rows
      → (left : DividedStore) → o.end ≢ end.OutOfMemory → rows ≡ Some left → IsSound left.content
  left_is_sound terms before after old new o n rows k =
      let s = k.does.serves.stands in
      left_sound o.end n k.does.serves.store rows (subst IsSound (sym s.store_is) (sound_after s.history s.lawful)) k.keeps

  pub runs : (terms : Terms) (save : Bool) (before after : FleetDevices) (w : OutputTold) (old new : H) (o : Outcome) (n : ℕ) (rows : Option DividedStore) (result : FleetEnd) (refused : Bool) → FleetKeeps answers terms before after old new o n rows
      → ((left : DividedStore) → (o.end ≢ end.OutOfMemory → rows ≡ Some left) → FinishesJob o.end result refused save after.output.held w.held o.links o.tally left.content)
      → RunsFleet terms save before (record after { output = w }) result refused
  runs terms save before after w old new o n rows result refused k finish =
      let d = k.does in
      let f = finish (record { data_regions = n; content = d.serves.store }) k.keeps.kept in
      let e = f.job in
      let s = d.serves.stands in
      record {
        ends = o.ends;
        links = o.links;
        tally = o.tally;
        serves = record {
          store = d.serves.store;
          stands = record {
            history = s.history;
            lawful = s.lawful;
            base_is = s.base_is;
            store_is = s.store_is;
            callers = s.callers;
            different = s.different;
            served = s.served;
            given = s.given;
            nothing_else = s.nothing_else;
          };
          tally_is = d.serves.tally_is;
        };
        counted = counted before after w e.so d.counts;
        closed = λ is. (d.reason.closed (ended_closed e.so is)).1;
        died = λ is. (d.reason.died (ended_died e.so is)).1;
        prints = prints o.end before after w terms.port (last_lines o.links o.tally save d.serves.store) d.listens e;
        refused_is = f.refused_is;
      }

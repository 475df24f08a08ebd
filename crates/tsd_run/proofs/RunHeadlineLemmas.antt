-- The headline follows of what a run says.
use Rattle.std.proofs.Common.{◌≡◌, ◌≢◌, inl, inr, ℕ, ◌+◌, ◌≤◌, Bool, true, false, List, [], ◌++◌, refl, sym, ap, subst, ◌∙◌, arith, rules}
use Rattle.std.specs.Prelude.{All, Option, None, Some, MatchOption, nat_le, if◌then◌else◌, option_and_then}
use Rattle.std.specs.Io.KnownBytes.{Appends}
use Rattle.std.proofs.lemmas.List.{append-nil}
use Rattle.std.proofs.lemmas.List.Elements.{All-nil}
use Rattle.row_key.specs.Made.{three}
use Rattle.tsd_doors.specs.Links.{Shut}
use Rattle.link_workers.specs.Returns.{AllEnd}
use Rattle.cell_model.specs.declared.answers.Tally.{Tally}
use Rattle.cell_model.specs.History.{History, base_of, len, first}
use Rattle.cell_model.specs.History.History.{Base, Then}
use Rattle.cell_model.specs.IdRows.{NameOf, IsResolved, id_number, name_row}
use Rattle.cell_model.specs.Lawful.{IsLawful}
use Rattle.cell_model.specs.Machine.{kind_qual}
use Rattle.cell_model.specs.Readings.{Reading, Accepted, point_row}
use Rattle.cell_model.specs.declared.row.Row.{Row}
use Rattle.cell_model.specs.Store.{Store, no_cells, value_at}
use Rattle.cell_laws.proofs.CallerLemmas.{empty_base, no_cell}
use Rattle.list_lemmas.proofs.BoolTests.{not_Some}
use Rattle.list_lemmas.proofs.ListMembers.{all_in}
use Rattle.list_lemmas.proofs.ListParts.{all_of}
use Rattle.tsd_daemon.specs.TakenInTurn.{InTurn}
use Rattle.tsd_daemon.specs.TakenInTurn.InTurn.{none_yet, then_one}
use Rattle.tsd_daemon.proofs.CallerLemmas.{one_id_each, served_headline}
use Rattle.conn_workers.specs.ServedLinks.{LinkServed, OnlyServed, ServedInTurn, ServedLink, ServingTerms}
use Rattle.conn_workers.specs.ServedLinks.ServedInTurn.{none_yet as none_served, then_served}
use Rattle.worker_returns.specs.GatheredLinks.{AllInTurn, CallerLinks}
use Rattle.tsd_fleet.specs.Devices.{DoorsTold, served_by}
use Rattle.tsd_fleet.specs.FleetServes.{IsTally, listening_line}
use Rattle.tsd_fleet.specs.declared.fleet_end.FleetEnd.{FleetEnd}
use Rattle.tsd_fleet.specs.declared.fleet_end.FleetEnd.TheVariants as end
use Rattle.serve_job.specs.FleetRuns.{RunsFleet, has_no_more, last_lines}
use Rattle.command_words.specs.CommandWords.{Asked, Serve, Stdio, fleet_asked}
use Rattle.command_words.specs.CommandWords.Asked.{BatchAsked, StdioAsked, ServeAsked, ImportAsked, DumpAsked, FsckAsked, FixAsked, WeaveAsked, PackAsked, UnpackAsked}
use Rattle.batch_run.specs.declared.status.Status.{Status}
use Rattle.batch_run.specs.declared.status.Status.TheVariants.{Done, Memory}
use Rattle.tsd_run.specs.FleetStatuses.{BeginsWith, LacksStore, ServesFleet, TakesStore, fleet_status, terms_of}
use Rattle.tsd_run.specs.RunDevices.{Devices, LoneDevices, fleet, lone}
use Rattle.tsd_run.specs.RunHeadlines.{BeginsSo, FleetHeadline, IsOwnHistory, LinkHeadline, LoneHeadline, RunHeadline, StdioHeadline}
use Rattle.tsd_run.specs.RunPromises.{RanAlone, Runs}
use Rattle.tsd_run.specs.Runs.{RunsAlone, ServesStdio}
use Rattle.batch_run.proofs.PlainBatches.{batch_headline}

-- ---- a store of one's own

first_none : (h : History) → first 0 h ≡ Base (base_of h)
first_none (Base base) = refl
first_none (Then h e) = at (nat_le (len h + 1) 0) refl (first_none h)
  where
    at : (b : Bool) → nat_le (len h + 1) 0 ≡ b → first 0 h ≡ Base (base_of h) → (if b then Then h e else first 0 h) ≡ Base (base_of h)
    at true is rest = let most : len h + 1 ≤ 0 = search (rules, is) in absurd (omega (arith, most))
    at false is rest = rest

-- such is one over a store without a cell
module _ (s : Store) (no_cell : (row : Row) (qual : List ℕ) → value_at s row qual ≡ None) where
  no_name_in : (n : NameOf) → IsResolved (Base s) n → ⊥
  no_name_in n w = not_Some w.0 (sym w.1 ∙ ap (option_and_then id_number) (no_cell (name_row n.1) (kind_qual n.0)))

  no_point_in : (r : Reading) → Accepted (Base s) r → ⊥
  no_point_in r (inl based) = not_Some based.value (sym based.stands ∙ no_cell (point_row based.row) based.qual)
  no_point_in r (inr w) = not_Some w.0 (sym w.1.1)

  own_history : (h : History) → IsLawful h → base_of h ≡ s → IsOwnHistory h
  own_history h lawful base =
      let begins : first 0 h ≡ Base s = first_none h ∙ ap Base base in
      record {
        lawful = lawful;
        no_name = λ n w. no_name_in n (subst (λ (g : History). IsResolved g n) begins w);
        no_point = λ r w. no_point_in r (subst (λ (g : History). Accepted g r) begins w);
      }

-- ---- one connection

stdio_headline : (s : Stdio) (status : Status) (input output times : List ℕ) → ServesStdio s status input output times → StdioHeadline s.publish status input output times
stdio_headline s status input output times w =
    let alone = w.1.alone in
    record {
      history = alone.history;
      own = own_history (no_cells s.widths) (no_cell s.widths) alone.history alone.lawful alone.base;
      replies = w.1.replies;
      given = w.1.given;
      output_is = w.1.output_is;
      ended = w.1.ended;
      headline = served_headline _ alone.history 1 1 (len alone.history) input w.1.replies times w.1.ended alone.lawful alone.served;
      result = w.0;
      behind = w.1.behind;
      status_is = w.2;
    }

-- ---- what waits for nobody

pub lone_headline : (before after : LoneDevices) (status : Status) (asked : Option Asked) → RunsAlone asked before after status → LoneHeadline asked before after status
lone_headline before after status (Some (BatchAsked batch)) p = record {
  input = p.0.input;
  output = p.0.output;
  times = [];
  takes = p.0.bytes.takes;
  leaves = p.0.bytes.leaves;
  gives = p.0.gives;
  ticks = p.1;
  so = batch_headline batch p.0.input p.0.ended p.0.output status [] p.0.answers;
}
lone_headline before after status (Some (StdioAsked s)) p = record {
  input = p.input;
  output = p.output;
  times = p.times;
  takes = p.takes;
  leaves = p.leaves;
  gives = p.gives;
  ticks = p.ticks;
  so = stdio_headline s status p.input p.output p.times p.so;
}
lone_headline before after status (Some (ServeAsked s)) p = tt
lone_headline before after status (Some (ImportAsked i)) p = tt
lone_headline before after status (Some (DumpAsked widths)) p = tt
lone_headline before after status (Some (FsckAsked widths)) p = tt
lone_headline before after status (Some (FixAsked widths)) p = tt
lone_headline before after status (Some (WeaveAsked w)) p = tt
lone_headline before after status (Some (PackAsked widths)) p = tt
lone_headline before after status (Some UnpackAsked) p = tt
lone_headline before after status None p = tt

-- of the words that ask for it
pub ran_headline : (before after : LoneDevices) (status : Status) (asked other : Option Asked) → asked ≡ other → RanAlone asked before after status → LoneHeadline other before after status
ran_headline before after status asked other same ran = subst (λ (a : Option Asked). LoneHeadline a before after status) same (lone_headline before after status asked ran.runs)

-- ---- a fleet

module _ (terms : ServingTerms) (h : History) (lawful : IsLawful h) where
  link_headline : (caller n n2 : ℕ) (link : ServedLink) → LinkServed terms h caller n n2 link → LinkHeadline terms.inlets_tell terms.outlets_tell terms.moments h n n2 link
  link_headline caller n n2 link s = record {
    input = s.input;
    output = s.output;
    times = s.times;
    taken = s.taken;
    given = s.given;
    clock = s.clock;
    headline = served_headline terms.admission h caller n n2 s.input s.output s.times link.1 lawful s.served;
  }

  links_headline : (caller : ℕ) {links : List ServedLink} {last : ℕ} → ServedInTurn terms h caller links last → InTurn (LinkHeadline terms.inlets_tell terms.outlets_tell terms.moments h) 0 links last
  links_headline caller (none_served last alone) = none_yet (omega arith)
  links_headline caller (then_served {n = n} {n2 = n2} link before a b d none_before none_behind served) = then_one link (links_headline caller before) a b d (link_headline caller n n2 link served)

  all_headline : (callers : List CallerLinks) → AllInTurn terms h callers → All (λ (k : CallerLinks). InTurn (LinkHeadline terms.inlets_tell terms.outlets_tell terms.moments h) 0 k.links k.last) callers
  all_headline callers all = all_of (λ (k : CallerLinks). InTurn (LinkHeadline terms.inlets_tell terms.outlets_tell terms.moments h) 0 k.links k.last) callers
      (λ k i. links_headline k.caller (all_in (λ (k : CallerLinks). OnlyServed terms h k.caller k.last k.links) k callers all i).in_turn)

nothing_back : (back : Option (List Shut)) → AllEnd back back []
nothing_back None = tt
nothing_back (Some all) = ap Some (sym (append-nil all))

ended_done : (ended : FleetEnd) (refused : Bool) → Done ≡ fleet_status ended refused → has_no_more ended ≡ true
ended_done ended true is = absurd cc
ended_done end.Closed false is = refl
ended_done end.Died false is = refl
ended_done end.Stopped false is = absurd cc
ended_done end.DoorFault false is = absurd cc
ended_done end.WriteFault false is = absurd cc
ended_done end.OutOfMemory false is = absurd cc

done_memory : Done ≡ Memory → ⊥
done_memory e = cc

module _ (s : Serve) (inlets_tell outlets_tell : Type 0) (before after : Devices) (status : Status) where
  empty_begins : (image : Bool) → BeginsSo image before.input after.input [] (Base (no_cells three))
  empty_begins true = inl refl
  empty_begins false = own_history (no_cells three) (no_cell three) (Base (no_cells three)) (empty_base three) refl

  -- no connection was served
  idle_headline : after.doors.back ≡ before.doors.back → status ≢ Done → FleetHeadline s inlets_tell outlets_tell before after status
  idle_headline same not_done = record {
    history = Base (no_cells three);
    lawful = empty_base three;
    ids = one_id_each (Base (no_cells three)) (empty_base three);
    callers = [];
    begins = empty_begins s.image;
    given_back = subst (λ (b : Option (List Shut)). AllEnd before.doors.back b []) (sym same) (nothing_back before.doors.back);
    each = All-nil (λ (k : CallerLinks). InTurn (LinkHeadline inlets_tell outlets_tell before.clock.moments (Base (no_cells three))) 0 k.links k.last);
    printed = λ is. absurd (not_done is);
  }

  store_begins : (image : Bool) (base : Store) (callers : List CallerLinks) (h : History) → IsLawful h → base_of h ≡ base → BeginsWith image before.input after.input base → BeginsSo image before.input after.input callers h
  store_begins true base callers h lawful is takes = inr (subst (TakesStore before.input after.input) (sym is) takes)
  store_begins false base callers h lawful is empty = own_history (no_cells three) (no_cell three) h lawful (is ∙ empty.1)

  served_so : (base : Store) (ended : FleetEnd) (refused : Bool) → BeginsWith s.image before.input after.input base → status ≡ fleet_status ended refused
      → RunsFleet (terms_of s inlets_tell outlets_tell base) s.save (fleet before) (fleet after) ended refused → FleetHeadline s inlets_tell outlets_tell before after status
  served_so base ended refused begins status_is runs =
      let stands = runs.serves.stands in
      record {
        history = stands.history;
        lawful = stands.lawful;
        ids = one_id_each stands.history stands.lawful;
        callers = stands.callers;
        begins = store_begins s.image base stands.callers stands.history stands.lawful stands.base_is begins;
        given_back = stands.given.doors;
        each = all_headline (served_by (terms_of s inlets_tell outlets_tell base) before.clock.moments) stands.history stands.lawful stands.callers stands.served;
        printed = λ is.
            let all = runs.prints.whole (ended_done ended refused (sym is ∙ status_is)) in
            subst
            (λ (store : Store). (tally : Tally) × IsTally store tally × ((links : ℕ) × (front : List ℕ) × Appends before.output.held after.output.held (front ++ last_lines links tally s.save store)))
            stands.store_is
            (runs.tally, runs.serves.tally_is, (runs.links, listening_line all.0, subst (Appends before.output.held after.output.held) all.2 runs.prints.gives));
      }

  lacks_done : LacksStore s.image before.input after.input before.output.held after.output.held status → status ≢ Done
  lacks_done (inl w) = w.2
  lacks_done (inr w) = λ is. done_memory (sym is ∙ w.0)

  pub fleet_headline : ServesFleet s inlets_tell outlets_tell before after status → FleetHeadline s inlets_tell outlets_tell before after status
  fleet_headline (inl w) = served_so w.0 w.2.0 w.2.1 w.1 w.2.2 w.2.3
  fleet_headline (inr w) = idle_headline (ap (λ (d : DoorsTold). d.back) w.1.doors) (lacks_done w.0)

-- ---- any words

matched : (o : Option Serve) (A A2 : Type 0) (F F2 : Serve → Type 0) → (A → A2) → ((s : Serve) → F s → F2 s) → MatchOption o A F → MatchOption o A2 F2
matched None A A2 F F2 a f m = a m
matched (Some s) A A2 F F2 a f m = f s m

pub run_headline : (asked : Option Asked) (inlets_tell outlets_tell : Type 0) (before after : Devices) (status : Status) → Runs asked inlets_tell outlets_tell before after status → RunHeadline asked inlets_tell outlets_tell before after status
run_headline asked inlets_tell outlets_tell before after status runs =
    matched (fleet_asked asked) (RunsAlone asked (lone before) (lone after) status) (LoneHeadline asked (lone before) (lone after) status)
    (λ s. ServesFleet s inlets_tell outlets_tell before after status) (λ s. FleetHeadline s inlets_tell outlets_tell before after status)
    (lone_headline (lone before) (lone after) status asked) (λ s. fleet_headline s inlets_tell outlets_tell before after status) runs

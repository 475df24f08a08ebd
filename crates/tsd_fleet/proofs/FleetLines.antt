-- The line of a fleet, why it ended, and the numbers of the store that it leaves.
use Rattle.std.proofs.Common.{◌≡◌, ℕ, ◌+◌, ◌-◌, ◌^◌, ◌≤◌, List, [], ◌∷◌, length, take, drop, inl, inr, refl, sym, subst, ap, ◌∙◌, take-append-drop, append-nil, arith}
use Rattle.std.specs.Prelude.{◌≢◌, ◌⊎◌, Bool, Option, None, min, filter, map}
use Rattle.std.specs.Option.{option_map_or}
use Rattle.std.specs.Int.{w64, from_be_bytes}
use Rattle.std.specs.List.{list_any}
use Rattle.std.specs.FinMap.{empty, entries, from_entries, keys, len-empty, len-entries}
use Rattle.row_key.specs.Made.{three}
use Rattle.std.specs.Io.KnownBytes.{Appends}
use Rattle.std.proofs.KnownBytes.{Appends-nil}
use Rattle.tsd_io.specs.Causes.{Rose}
use Rattle.tsd_doors.specs.Links.{Counts, accepted}
use Rattle.tsd_base.specs.declared.kinds.Kind.{Kind}
use Rattle.tsd_base.specs.declared.kinds.Kind.TheVariants.{Metric, TagKey, TagValue}
use Rattle.link_acceptor.specs.declared.accept_loop.AcceptEnd.{AcceptEnd}
use Rattle.link_acceptor.specs.declared.accept_loop.AcceptEnd.TheVariants as accept_end
use Rattle.link_acceptor.specs.Accepting.{AsksEach, AsksHalt, HasReason, IsNoneLeft, lost_by}
use Rattle.cell_model.specs.declared.answers.Tally.{Tally}
use Rattle.cell_model.specs.declared.row.Row.{Row}
use Rattle.cell_model.specs.PlaceOrder.{place_cmp}
use Rattle.cell_model.specs.declared.events.Place.{Place}
use Rattle.cell_model.specs.declared.events.Content.{Content}
use Rattle.cell_model.specs.Store.{Store, no_cells, row_cmp}
use lib.ListN.{length-map}
use Rattle.cell_model.specs.Machine.{counter_of, counter_row, kind_qual}
use Rattle.cell_model.specs.Counts.{point_entries, point_rows}
use Rattle.cell_model.specs.Seen.{Seen}
use Rattle.cell_region.specs.DividedStore.{DividedStore}
use Rattle.step_count.specs.declared.view.Named.{Named}
use Rattle.step_count.specs.CounterRule.{store_in}
use Rattle.region_locks.specs.SiteEnds.{EndsAt}
use Rattle.cell_model.specs.Sound.{IsBase}
use Rattle.cell_laws.proofs.CallerLemmas.{no_cell}
use Rattle.point_put.specs.Admissions.{Admission}
use Rattle.tsd_daemon.specs.declared.served.Served.{Served}
use Rattle.tsd_fleet.specs.declared.fleet_end.FleetEnd.{FleetEnd}
use Rattle.tsd_fleet.specs.declared.fleet_end.FleetEnd.TheVariants as end
use Rattle.site_workers.specs.ServedSites.{SiteCounts}
use Rattle.tsd_fleet.specs.Devices.{DoorsTold, FleetDevices, NoneFalls, Terms, returns_told}
use Rattle.fleet_threads.specs.WorkedSites.{SiteWorked}
use Rattle.tsd_fleet.specs.FleetStands.{FleetStands}
use Rattle.tsd_fleet.specs.FleetServes.{AsksAccepts, BeginsToListen, BindsAsked, CountsLinks, FleetDoes, FleetKeeps, HasFleetReason, HasListened, IsListenFault, IsTally, KeepsRows, Listens, Outcome, ServesKept, is_die, listening_line, outcome_none}
use Rattle.tsd_fleet.proofs.FleetHistories.{none_back, stands, stands_from}

-- ---- the line

-- a front of the line was written
pub begins_front : (asked : ℕ) (held held' : Option (List ℕ)) (now : Counts) (bound n : ℕ) (piece : List ℕ) → BindsAsked asked now.port bound → piece ≡ listening_line bound → Appends held held' (take n piece) → BeginsToListen asked held held' now
begins_front asked held held' now bound n piece port is more = (take n piece, more, inr (bound, drop n piece, port, take-append-drop n piece ∙ is))

-- nothing was written
pub begins_nothing : (asked : ℕ) (held : Option (List ℕ)) (now : Counts) → BeginsToListen asked held held now
begins_nothing asked held now = ([], Appends-nil held, inl refl)

-- the port stays
still : (asked port : ℕ) (x y : Counts) → y.port ≡ x.port → BindsAsked asked x.port port → BindsAsked asked y.port port
still asked port x y same binds = record { bound_is = same ∙ binds.bound_is; asked_is = binds.asked_is }

pub listens_still : (asked : ℕ) (held held' : Option (List ℕ)) (x y : Counts) → y.port ≡ x.port → Listens asked held held' x → Listens asked held held' y
listens_still asked held held' x y same l = (l.0, still asked l.0 x y same l.1, l.2)

pub begins_still : (asked : ℕ) (held held' : Option (List ℕ)) (x y : Counts) → y.port ≡ x.port → BeginsToListen asked held held' x → BeginsToListen asked held held' y
begins_still asked held held' x y same (given, more, inl none) = (given, more, inl none)
begins_still asked held held' x y same (given, more, inr (port, rest, is, front)) = (given, more, inr (port, rest, still asked port x y same is, front))

-- ---- why it ended

-- an end that lost no connection
not_lost : (e : AcceptEnd) (r : FleetEnd) → (e ≡ accept_end.OutOfMemory → r ≡ end.OutOfMemory) → r ≢ end.OutOfMemory → lost_by e ≡ 0
not_lost accept_end.NoneLeft r memory other = refl
not_lost accept_end.Stopped r memory other = refl
not_lost accept_end.DoorFault r memory other = refl
not_lost accept_end.OutOfMemory r memory other = absurd (other (memory refl))

counts_links : (before after : FleetDevices) (e : AcceptEnd) (r : FleetEnd) (links ends : ℕ) → (e ≡ accept_end.OutOfMemory → r ≡ end.OutOfMemory) → SiteCounts e links ends before.doors.counts after.doors.counts → CountsLinks before after r links ends
counts_links before after e r links ends memory s = record { links_are = s.links_are; returned = s.returned; all = λ other. s.all (not_lost e r memory other) }

-- as many were accepted, where the port alone changed
same_accepted : (x y : Counts) → y.returned ≡ x.returned → y.out ≡ x.out → accepted y ≡ accepted x
same_accepted x y returned out = omega (arith, returned, out)

-- the port alone changed before
counts_from : (before after : FleetDevices) (d : DoorsTold) (r : FleetEnd) (links ends : ℕ) → d.counts.returned ≡ before.doors.counts.returned → d.counts.out ≡ before.doors.counts.out
    → CountsLinks (record before { doors = d }) after r links ends → CountsLinks before after r links ends
counts_from before after d r links ends returned out c = record {
  links_are = c.links_are ∙ ap (λ n. min (accepted after.doors.counts - n) (2 ^ 64 - 1)) same;
  returned = c.returned ∙ ap (λ n. n + ends) returned;
  all = λ other. c.all other ∙ ap (λ n. n + ends) same;
}
  where
    same : accepted d.counts ≡ accepted before.doors.counts
    same = same_accepted before.doors.counts d.counts returned out

-- no connection was accepted
counts_none : (before after : FleetDevices) (r : FleetEnd) → after.doors.counts.returned ≡ before.doors.counts.returned → accepted after.doors.counts ≡ accepted before.doors.counts → CountsLinks before after r 0 0
counts_none before after r returned same = record { links_are = none (accepted after.doors.counts) (accepted before.doors.counts) same; returned = omega (arith, returned); all = λ other. omega (arith, same) }
  where
    none : (now earlier : ℕ) → now ≡ earlier → 0 ≡ min (now - earlier) (2 ^ 64 - 1)
    none now earlier is = omega (arith, is)

fleet_reason : (before after : FleetDevices) (e : AcceptEnd) (r : FleetEnd) (ends : List Served) → (r ≡ end.Closed → (e ≡ accept_end.NoneLeft) × (list_any is_die ends ≡ Bool.false))
    → (r ≡ end.Died → (e ≡ accept_end.NoneLeft) × (list_any is_die ends ≡ Bool.true)) → (r ≡ end.Stopped → e ≡ accept_end.Stopped) → (e ≡ accept_end.Stopped → r ≡ end.Stopped) → (e ≡ accept_end.OutOfMemory → r ≡ end.OutOfMemory)
    → (r ≡ end.DoorFault → e ≡ accept_end.DoorFault) → r ≢ end.WriteFault
    → HasReason e before.doors.waiting after.doors.waiting before.stops after.stops before.doors.faults after.doors.faults → HasFleetReason before after r ends
fleet_reason before after e r ends closed died stopped stops memory door no_write reason = record {
  closed = λ is. (reason.none (closed is).0, (closed is).1);
  died = λ is. (reason.none (died is).0, (died is).1);
  stopped = λ is. reason.stopped (stopped is);
  heeded = λ no_stop enough. reason.heeded (λ is. no_stop (stops is)) (λ is. enough (memory is));
  door_fault = λ is. reason.fault (door is);
  write_fault = λ is. absurd (no_write is);
}

-- what was before the accepting changed no more than how often the doors failed
reason_from : (before after : FleetDevices) (d : DoorsTold) (r : FleetEnd) (ends : List Served) → d.waiting ≡ before.doors.waiting → before.doors.faults ≤ d.faults → HasFleetReason (record before { doors = d }) after r ends → HasFleetReason before after r ends
reason_from before after d r ends same le reason = record {
  closed = λ is. (subst (λ (o : Option (List (List ℕ))). IsNoneLeft o after.doors.waiting) same (reason.closed is).0, (reason.closed is).1);
  died = λ is. (subst (λ (o : Option (List (List ℕ))). IsNoneLeft o after.doors.waiting) same (reason.died is).0, (reason.died is).1);
  stopped = λ is. reason.stopped is;
  heeded = reason.heeded;
  door_fault = λ is. later before.doors.faults d.faults after.doors.faults le (reason.door_fault is);
  write_fault = λ is. reason.write_fault is;
}
  where
    later : (c d' e : ℕ) → c ≤ d' → Rose d' e → Rose c e
    later c d' e up rose = omega (arith, up, rose)

-- listening failed
fault_reason : (before after : FleetDevices) (r : FleetEnd) (ends : List Served) → IsListenFault r before.doors.faults after.doors.faults before.output.faults after.output.faults → after.stops ≡ before.stops → HasFleetReason before after r ends
fault_reason before after r ends fault same = record {
  closed = λ is. absurd (at is);
  died = λ is. absurd (at is);
  stopped = λ is. absurd (at is);
  heeded = λ no_stop enough. same;
  door_fault = λ is. at is;
  write_fault = λ is. at is;
}
  where
    at : {e : FleetEnd} → r ≡ e → IsListenFault e before.doors.faults after.doors.faults before.output.faults after.output.faults
    at is = subst (λ (e : FleetEnd). IsListenFault e before.doors.faults after.doors.faults before.output.faults after.output.faults) is fault

-- ---- what the halt was asked

-- an end of accepting that isn't want of memory is the one that is told
told_end : (e a : AcceptEnd) → (e ≡ a) ⊎ (e ≡ accept_end.OutOfMemory) → lost_by e ≡ 0 → a ≡ e
told_end e a (inl is) none = sym is
told_end e a (inr out) none = absurd (let one : 1 ≡ 0 = sym (ap lost_by out) ∙ none in omega (arith, one))

-- an end of listening is one of three
vain : (r : FleetEnd) (d d' k k' : ℕ) → IsListenFault r d d' k k' → (r ≡ end.DoorFault) ⊎ ((r ≡ end.WriteFault) ⊎ (r ≡ end.OutOfMemory))
vain end.Closed d d' k k' fault = absurd fault
vain end.Died d d' k k' fault = absurd fault
vain end.Stopped d d' k k' fault = absurd fault
vain end.DoorFault d d' k k' fault = inl refl
vain end.WriteFault d d' k k' fault = inr (inl refl)
vain end.OutOfMemory d d' k k' fault = inr (inr refl)

module _ {H : Type 0} (answers : H → Bool → H → Type 0) where
  fleet_asks : (before after : FleetDevices) (old new : H) (e : AcceptEnd) (r : FleetEnd) → (r ≡ end.Closed → e ≡ accept_end.NoneLeft) → (r ≡ end.Died → e ≡ accept_end.NoneLeft) → (r ≡ end.Stopped → e ≡ accept_end.Stopped)
      → (r ≡ end.DoorFault → e ≡ accept_end.DoorFault) → AsksHalt answers e before.doors.counts after.doors.counts old new → AsksAccepts answers before after old new r
  fleet_asks before after old new e r closed died stopped door a = record {
    accepting = a.end;
    asked = a.asked;
    closed = λ is. told_end e a.end a.is (ap lost_by (closed is)) ∙ closed is;
    died = λ is. told_end e a.end a.is (ap lost_by (died is)) ∙ died is;
    stopped = λ is. told_end e a.end a.is (ap lost_by (stopped is)) ∙ stopped is;
    door_fault = λ is. told_end e a.end a.is (ap lost_by (door is)) ∙ door is;
  }

  -- the port alone changed before
  asks_from : (before after : FleetDevices) (d : DoorsTold) (old new : H) (r : FleetEnd) → accepted d.counts ≡ accepted before.doors.counts → AsksAccepts answers (record before { doors = d }) after old new r → AsksAccepts answers before after old new r
  asks_from before after d old new r same a = record {
    accepting = a.accepting;
    asked = subst (λ n. AsksEach answers a.accepting (accepted after.doors.counts - n) old new) same a.asked;
    closed = a.closed;
    died = a.died;
    stopped = a.stopped;
    door_fault = a.door_fault;
  }

-- ---- the line, at the end

fault_listened : (asked : ℕ) (before after : FleetDevices) (r : FleetEnd) → IsListenFault r before.doors.faults after.doors.faults before.output.faults after.output.faults → (r ≡ end.DoorFault → Appends before.output.held after.output.held [])
    → BeginsToListen asked before.output.held after.output.held after.doors.counts → HasListened asked before after r
fault_listened asked before after r fault silent begun = record {
  fault = λ is. inl (silent is);
  closed = λ is. absurd (at is);
  died = λ is. absurd (at is);
  stopped = λ is. absurd (at is);
  begun = begun;
}
  where
    at : {e : FleetEnd} → r ≡ e → IsListenFault e before.doors.faults after.doors.faults before.output.faults after.output.faults
    at is = subst (λ (e : FleetEnd). IsListenFault e before.doors.faults after.doors.faults before.output.faults after.output.faults) is fault

has_listened : (asked : ℕ) (before after : FleetDevices) (r : FleetEnd) → Listens asked before.output.held after.output.held after.doors.counts → HasListened asked before after r
has_listened asked before after r l = record {
  closed = λ is. l;
  died = λ is. l;
  stopped = λ is. l;
  fault = λ is. inr l;
  begun = (listening_line l.0, l.2, inr (l.0, [], l.1, append-nil (listening_line l.0)));
}

-- ---- the store that is left

no_elements : {X : Type 0} (xs : List X) → length xs ≡ 0 → xs ≡ []
no_elements [] none = refl
no_elements (x ∷ xs) none = absurd (omega (arith, none))

no_counter : (kind : Kind) → counter_of (no_cells three) kind ≡ 0
no_counter kind = ap (λ (o : Option (List ℕ)). option_map_or (from_be_bytes w64) o 0) (no_cell three counter_row (kind_qual kind))

no_point_cells : point_entries (no_cells three) ≡ []
no_point_cells = ap (filter _) (no_elements (entries (empty {R = place_cmp})) (sym (len-entries (empty {R = place_cmp})) ∙ len-empty place_cmp _))

no_point_rows : length (point_rows (no_cells three)) ≡ 0
no_point_rows =
    ap (λ (es : List (Place × Content)). length (keys (from_entries {R = row_cmp} (map (λ (e : Place × Content). (e.0.row, e.0.qual)) es)))) no_point_cells
    ∙ length-map (entries (empty {K = Row} {X = List ℕ} {R = row_cmp})) (λ (e : Row × List ℕ). e.0) ∙ sym (len-entries (empty {R = row_cmp})) ∙ len-empty row_cmp _

-- the numbers of the store without a cell
pub empty_tally : (tally : Tally) → tally.ids ≡ 0 ∷ 0 ∷ 0 ∷ [] → tally.point_rows ≡ 0 → tally.point_cells ≡ 0 → IsTally (no_cells three) tally
empty_tally tally ids rows cells = record {
  ids = ids ∙ sym (rw (no_counter Metric, no_counter TagKey, no_counter TagValue) refl);
  rows = rows ∙ sym no_point_rows;
  cells = cells ∙ sym (ap length no_point_cells);
}

-- the site's history is one in which all was served
fleet_stands : (terms : Terms) (before after : FleetDevices) (opened : List ℕ) (s : Seen) (name given : Named) (c : Admission) (moments : Option (List ℕ)) (d : DividedStore) (ends : List Served)
    → given ≡ name → terms.base ≡ store_in given → terms.admission ≡ c → before.clock.moments ≡ moments → EndsAt name opened s d
    → SiteWorked (record { admission = c; moments = moments; inlets_tell = terms.inlets_tell; outlets_tell = terms.outlets_tell }) opened s (returns_told before) (returns_told after) ends → FleetStands terms before after d.content ends
fleet_stands terms before after opened s name given c moments d ends same base admits gave e w =
    stands terms before after opened s d.content ends e.history e.lawful e.fits (e.base_is ∙ sym (base ∙ ap store_in same)) e.store_is e.own e.mine e.callers
    (subst (λ (m : Option (List ℕ)). Worked terms.admission m) (sym gave) (subst (λ (a : Admission). Worked a moments) (sym admits) w))
  where
    Worked : Admission → Option (List ℕ) → Type 0
    Worked a m = SiteWorked (record { admission = a; moments = m; inlets_tell = terms.inlets_tell; outlets_tell = terms.outlets_tell }) opened s (returns_told before) (returns_told after) ends

-- ---- all of it

module _ {H : Type 0} (answers : H → Bool → H → Type 0) where
  -- a site's workers served connections
  pub serves_kept : (terms : Terms) (before after : FleetDevices) (old new : H) (o : Outcome) (opened : List ℕ) (s : Seen) (name given : Named) (c : Admission) (moments : Option (List ℕ)) (d : DividedStore) (e : AcceptEnd) (ends : List Served) (rows : Option DividedStore)
      → given ≡ name → terms.base ≡ store_in given → terms.admission ≡ c → before.clock.moments ≡ moments → EndsAt name opened s d
      → SiteWorked (record { admission = c; moments = moments; inlets_tell = terms.inlets_tell; outlets_tell = terms.outlets_tell }) opened s (returns_told before) (returns_told after) o.ends → IsTally d.content o.tally → ends ≡ o.ends
      → (o.end ≡ end.Closed → (e ≡ accept_end.NoneLeft) × (list_any is_die ends ≡ Bool.false)) → (o.end ≡ end.Died → (e ≡ accept_end.NoneLeft) × (list_any is_die ends ≡ Bool.true))
      → (o.end ≡ end.Stopped → e ≡ accept_end.Stopped) → (e ≡ accept_end.Stopped → o.end ≡ end.Stopped) → (e ≡ accept_end.OutOfMemory → o.end ≡ end.OutOfMemory) → (o.end ≡ end.DoorFault → e ≡ accept_end.DoorFault) → o.end ≢ end.WriteFault
      → SiteCounts e o.links (length o.ends) before.doors.counts after.doors.counts → HasReason e before.doors.waiting after.doors.waiting before.stops after.stops before.doors.faults after.doors.faults
      → AsksHalt answers e before.doors.counts after.doors.counts old new → KeepsRows o.end d.content d.data_regions rows → ServesKept answers terms before after old new o given.data_regions rows
  serves_kept terms before after old new o opened s name given c moments d e ends rows same base admits gave site w t are closed died stopped stops memory door no_write counted reason asked kept = record {
    served = record {
      serves = record { store = d.content; stands = fleet_stands terms before after opened s name given c moments d o.ends same base admits gave site w; tally_is = t };
      counts = counts_links before after e o.end o.links (length o.ends) memory counted;
      reason = subst (λ (l : List Served). HasFleetReason before after o.end l) are (fleet_reason before after e o.end ends closed died stopped stops memory door no_write reason);
      asked = fleet_asks answers before after old new e o.end (λ is. (closed is).0) (λ is. (died is).0) stopped door asked;
    };
    keeps = subst (λ (n : ℕ). KeepsRows o.end d.content n rows) (site.regions_are ∙ ap (λ (x : Named). x.data_regions) (sym same)) kept;
  }

  -- connections were served once the port was bound
  pub keeps_links : (terms : Terms) (b : Store) (before after : FleetDevices) (d : DoorsTold) (old new : H) (o : Outcome) (n m : ℕ) (rows : Option DividedStore)
      → b ≡ terms.base → n ≡ m → d.waiting ≡ before.doors.waiting → d.back ≡ before.doors.back → d.counts.returned ≡ before.doors.counts.returned → d.counts.out ≡ before.doors.counts.out → before.doors.faults ≤ d.faults
      → Listens terms.port before.output.held after.output.held after.doors.counts → NoneFalls before after
      → ServesKept answers (record terms { base = b }) (record before { doors = d }) after old new o n rows → FleetKeeps answers terms before after old new o m rows
  keeps_links terms b before after d old new o n m rows same_base regions waiting back returned out le listens later k = record {
    does = record {
      serves = record { store = k.served.serves.store; stands = stands_from terms b before after d k.served.serves.store o.ends same_base back k.served.serves.stands; tally_is = k.served.serves.tally_is };
      counts = counts_from before after d o.end o.links (length o.ends) returned out k.served.counts;
      reason = reason_from before after d o.end o.ends waiting le k.served.reason;
      listens = has_listened terms.port before after o.end listens;
      asked = inl (listens, asks_from answers before after d old new o.end (same_accepted before.doors.counts d.counts returned out) k.served.asked);
      later = later;
    };
    keeps = subst (λ (i : ℕ). KeepsRows o.end k.served.serves.store i rows) regions k.keeps;
  }

  -- no connection was served
  pub keeps_none : (terms : Terms) (before after : FleetDevices) (old new : H) (o : Outcome) (r : FleetEnd) (tally : Tally) (n : ℕ) (rows kept : Option DividedStore)
      → o ≡ outcome_none r tally → rows ≡ kept → KeepsRows r terms.base n kept → IsBase terms.base → IsTally terms.base tally
      → after.doors.back ≡ before.doors.back → after.doors.counts.returned ≡ before.doors.counts.returned → after.doors.counts.out ≡ before.doors.counts.out → after.clock.faults ≡ before.clock.faults → new ≡ old → after.stops ≡ before.stops
      → before.output.faults ≤ after.output.faults → before.doors.faults ≤ after.doors.faults → BeginsToListen terms.port before.output.held after.output.held after.doors.counts
      → IsListenFault r before.doors.faults after.doors.faults before.output.faults after.output.faults → (r ≡ end.DoorFault → Appends before.output.held after.output.held []) → FleetKeeps answers terms before after old new o n rows
  keeps_none terms before after old new o r tally n rows kept is same_rows k base t back returned out still unasked stops writes doors begun fault silent =
      subst (λ (x : Outcome). FleetKeeps answers terms before after old new x n rows) (sym is) (record {
        does = record {
          serves = record { store = terms.base; stands = none_back terms before after [] base back still refl; tally_is = t };
          counts = counts_none before after r returned same;
          reason = fault_reason before after r [] fault stops;
          listens = fault_listened terms.port before after r fault silent begun;
          asked = inr (record { none = same; unasked = unasked; vain = vain r before.doors.faults after.doors.faults before.output.faults after.output.faults fault; unbound = silent });
          later = record { writes = writes; clock = least before.clock.faults after.clock.faults still; doors = doors; stops = least before.stops after.stops stops };
        };
        keeps = subst (λ (x : Option DividedStore). KeepsRows r terms.base n x) (sym same_rows) k;
      })
    where
      same : accepted after.doors.counts ≡ accepted before.doors.counts
      same = same_accepted before.doors.counts after.doors.counts returned out

      least : (x y : ℕ) → y ≡ x → x ≤ y
      least x y eq = omega (arith, eq)

  -- memory ran out before any was
  pub keeps_starved : (terms : Terms) (before after : FleetDevices) (old new : H) (o : Outcome) (tally : Tally) (n : ℕ) (rows : Option DividedStore) → o ≡ outcome_none end.OutOfMemory tally → rows ≡ None → IsBase terms.base → IsTally terms.base tally
      → after.doors.back ≡ before.doors.back → after.doors.counts.returned ≡ before.doors.counts.returned → after.doors.counts.out ≡ before.doors.counts.out → after.clock.faults ≡ before.clock.faults → new ≡ old → after.stops ≡ before.stops
      → before.output.faults ≤ after.output.faults → before.doors.faults ≤ after.doors.faults → BeginsToListen terms.port before.output.held after.output.held after.doors.counts → FleetKeeps answers terms before after old new o n rows
  keeps_starved terms before after old new o tally n rows is none base t back returned out still unasked stops writes doors begun =
      keeps_none terms before after old new o end.OutOfMemory tally n rows None is none (record { none = λ e. refl; kept = λ other. absurd (other refl) }) base t back returned out still unasked stops writes doors begun tt
      (λ e. let t : end.OutOfMemory ≡ end.DoorFault = e in absurd cc)

  -- the same over another name of the base
  pub does_from : (terms : Terms) (b : Store) (before after : FleetDevices) (old new : H) (o : Outcome) → b ≡ terms.base → FleetDoes answers (record terms { base = b }) before after old new o → FleetDoes answers terms before after old new o
  does_from terms b before after old new o same f = subst (λ (x : Store). FleetDoes answers (record terms { base = x }) before after old new o) same f

-- Connections that a worker serves one after the other.
use Rattle.std.proofs.Common.{◌≡◌, inl, ℕ, ◌+◌, ◌-◌, ◌^◌, ◌<◌, ◌≤◌, Bool, true, false, List, [], ◌∷◌, ◌++◌, length, refl, sym, subst, ap, ◌∙◌, length-append, arith}
use Rattle.std.specs.Prelude.{Option, None, Some, IsSome, min, filter, cond}
use Rattle.std.proofs.lemmas.List.Elements.{filter-append}
use Rattle.std.proofs.lemmas.Bool.{true≢false}
use Rattle.std.specs.Io.KnownBytes.{Appends, IsAtEnd}
use Rattle.tsd_io.specs.Causes.{Rose}
use Rattle.tsd_doors.specs.Links.{AreFresh, IsNothing, Shut}
use Rattle.cell_model.specs.History.{History}
use Rattle.cell_model.specs.Lawful.{IsLawful}
use Rattle.cell_model.specs.Seen.{Seen, Fits, HasSeenOpening}
use Rattle.region_locks.specs.CallerViews.{SawOpeningsAlone}
use Rattle.point_put.specs.Admissions.{Admission}
use Rattle.tsd_daemon.specs.declared.served.Served.{Served}
use Rattle.tsd_daemon.specs.declared.served.Served.TheVariants as answer
use Rattle.tsd_daemon.specs.ConnClocks.{Gave}
use Rattle.tsd_daemon.specs.ServedConns.{ConnCauses, ConnFaults, Fills, IsServed, Passes, Serves, ServesBytes}
use Rattle.conn_workers.specs.ServedLinks.{AllTell, ClockFaultsWithin, ClockTold, HasEndCause, LinkServed, MadeNone, OnlyServed, ServedLink, ServingTerms, WorkerServed, clock_fault_count, is_clock_fault}
use Rattle.conn_workers.specs.ServedLinks.ServedInTurn.{none_yet, then_served}

-- ---- bytes and moments

-- what is told from nothing on is all
pub told_all : (told told' : Option (List ℕ)) (bytes : List ℕ) → IsSome told → IsNothing told → Appends told told' bytes → told' ≡ Some bytes
told_all None told' bytes some none more = absurd (true≢false (sym some))
told_all (Some xs) None bytes some none more = absurd more
told_all (Some xs) (Some ys) bytes some none more = ap (λ (l : List ℕ). Some l) (more ∙ ap (λ (l : List ℕ). l ++ bytes) (none xs refl))

-- some moments, and then more
gave_more : (a b c : Option (List ℕ)) (xs ys : List ℕ) → Gave a xs b → Gave b ys c → Gave a (xs ++ ys) c
gave_more a b c [] ys same more = subst (λ (o : Option (List ℕ)). Gave o ys c) same more
gave_more a b c (x ∷ xs) ys (next, tick, given) more = (next, tick, gave_more next b c xs ys given more)

-- ---- causes

rose_above : (before now : ℕ) → Rose before now → 0 < now
rose_above before now rose = omega (arith, rose)

-- an end has its cause, where nothing had failed before and no step was stopped
pub end_cause : (shut : Shut) (reads writes ticks ticks' count : ℕ) (end : Served) → (end ≡ answer.End → IsAtEnd shut.left)
    → ConnCauses (record { reads = reads; writes = writes; stops = 0; ticks = ticks }) (record { reads = shut.source_faults; writes = shut.sink_faults; stops = 0; ticks = ticks' }) end → Fills end count → HasEndCause shut count end
end_cause shut reads writes ticks ticks' count answer.End left causes fills = left refl
end_cause shut reads writes ticks ticks' count answer.Exit left causes fills = tt
end_cause shut reads writes ticks ticks' count answer.Die left causes fills = tt
end_cause shut reads writes ticks ticks' count answer.Closed left causes fills = tt
end_cause shut reads writes ticks ticks' count answer.ReadFault left causes fills = rose_above reads shut.source_faults causes.cause
end_cause shut reads writes ticks ticks' count answer.WriteFault left causes fills = rose_above writes shut.sink_faults causes.cause
end_cause shut reads writes ticks ticks' count answer.ClockFault left causes fills = tt
end_cause shut reads writes ticks ticks' count answer.Stopped left causes fills = let rose : Rose 0 0 = causes.cause in omega (arith, rose)
end_cause shut reads writes ticks ticks' count answer.SessionFull left causes fills = fills
end_cause shut reads writes ticks ticks' count answer.OutOfMemory left causes fills = tt

clock_rose : (before after : ConnFaults) (end : Served) → ConnCauses before after end → is_clock_fault end ≡ true → Rose before.ticks after.ticks
clock_rose before after answer.ClockFault causes is = causes.cause
clock_rose before after answer.End causes is = absurd (true≢false (sym is))
clock_rose before after answer.Exit causes is = absurd (true≢false (sym is))
clock_rose before after answer.Die causes is = absurd (true≢false (sym is))
clock_rose before after answer.Closed causes is = absurd (true≢false (sym is))
clock_rose before after answer.ReadFault causes is = absurd (true≢false (sym is))
clock_rose before after answer.WriteFault causes is = absurd (true≢false (sym is))
clock_rose before after answer.Stopped causes is = absurd (true≢false (sym is))
clock_rose before after answer.SessionFull causes is = absurd (true≢false (sym is))
clock_rose before after answer.OutOfMemory causes is = absurd (true≢false (sym is))

-- the causes of an end where no step was ever stopped
pub unstopped : (before after : ConnFaults) (end : Served) → before.stops ≡ 0 → after.stops ≡ 0 → ConnCauses before after end → ConnCauses (record before { stops = 0 }) (record after { stops = 0 }) end
unstopped before after end none none' causes =
    subst (λ (n : ℕ). ConnCauses (record before { stops = 0 }) (record after { stops = n }) end) none' (subst (λ (n : ℕ). ConnCauses (record before { stops = n }) after end) none causes)

-- ---- how many connections ended because the clock failed

abbrev bump : Bool → ℕ
bump true = 1
bump false = 0

one_length : {X : Type 0} (b : Bool) (x : X) → length (cond b (x ∷ []) []) ≡ bump b
one_length true x = refl
one_length false x = refl

count_more : (links : List ServedLink) (link : ServedLink) → clock_fault_count (links ++ link ∷ []) ≡ clock_fault_count links + bump (is_clock_fault link.1)
count_more links link =
    let test = λ (l : ServedLink). is_clock_fault l.1 in
    ap length (filter-append test links (link ∷ [])) ∙ length-append (filter test links) (filter test (link ∷ [])) ∙ ap (λ n. clock_fault_count links + n) (one_length (is_clock_fault link.1) link)

within_by : (b : Bool) (count count' old new : ℕ) → count' ≡ count + bump b → min count (2 ^ 64 - 1) ≤ old → old ≤ new → (b ≡ true → Rose old new) → min count' (2 ^ 64 - 1) ≤ new
within_by true count count' old new is within later rose = let r = rose refl in omega (arith, is, within, later, r)
within_by false count count' old new is within later rose = omega (arith, is, within, later)

within_more : (links : List ServedLink) (link : ServedLink) (old new : ℕ) → ClockFaultsWithin links old → old ≤ new → (is_clock_fault link.1 ≡ true → Rose old new) → ClockFaultsWithin (links ++ link ∷ []) new
within_more links link old new within later rose =
    within_by (is_clock_fault link.1) (clock_fault_count links) _ old new (count_more links link) within later rose

-- ---- one more connection

-- a worker that served no connection yet, and whose clock wasn't asked
pub none_served : (terms : ServingTerms) (by : Admission) (s : Seen) (clock : ClockTold) → by ≡ terms.admission → clock.moments ≡ terms.moments → HasSeenOpening s → SawOpeningsAlone s → WorkerServed terms by s clock []
none_served terms by s clock is same opened alone = record {
  same = is;
  served = λ h law fits. record {
    opened = (opened.0, fits.seen opened.0 _ opened.1);
    within = fits.long;
    in_turn = none_yet s.length (λ place e le own at. alone place e (fits.no_other place e le (inl own) at));
  };
  times = [];
  ticks = same;
  clock_faults = omega arith;
}

-- what is to be told of one more connection, as its serving tells it
pub record OneServed (inlets_tell outlets_tell : Type 0) (c : Admission) (old new : Seen) (clock clock' : ClockTold) (link : ServedLink) : Type 0 where
  pub input : List ℕ
  pub output : List ℕ
  pub times : List ℕ
  pub taken : inlets_tell → link.0.taken ≡ Some input
  pub given : outlets_tell → link.0.held ≡ Some output
  pub ticks : Gave clock.moments times clock'.moments
  pub serves : Serves c old input output times link.1 new
  pub cause : HasEndCause link.0 (length input) link.1
  pub later : clock.faults ≤ clock'.faults
  pub rose : is_clock_fault link.1 ≡ true → Rose clock.faults clock'.faults

pub one_more_link : (terms : ServingTerms) (by : Admission) (old new : Seen) (clock clock' : ClockTold) (link : ServedLink) → OneServed terms.inlets_tell terms.outlets_tell by old new clock clock' link
    → (links : List ServedLink) → WorkerServed terms by old clock links → WorkerServed terms by new clock' (links ++ link ∷ [])
one_more_link terms by old new clock clock' link one links w = record {
  same = w.same;
  served = λ h law fits. subst (λ (k : ℕ). OnlyServed terms h k new.length (links ++ link ∷ [])) (sym one.serves.since.caller) (turn h law fits);
  times = w.times ++ one.times;
  ticks = gave_more terms.moments clock.moments clock'.moments w.times one.times w.ticks one.ticks;
  clock_faults = within_more links link clock.faults clock'.faults w.clock_faults one.later one.rose;
}
  where
    here : (h : History) → IsLawful h → Fits new h → LinkServed terms h old.caller old.length new.length link
    here h law fits = record {
      input = one.input;
      output = one.output;
      times = one.times;
      taken = one.taken;
      given = one.given;
      clock = record { earlier = w.times; before = clock.moments; after = clock'.moments; until = w.ticks; then_ = one.ticks };
      served = subst (λ (a : Admission). IsServed a h old.caller old.length new.length one.input one.output one.times link.1) w.same (one.serves.served h law fits);
      cause = one.cause;
    }

    none_between : (h : History) (n : ℕ) → MadeNone h old.caller n n
    none_between h n place e above below own at = omega (arith, above, below)

    turn : (h : History) → IsLawful h → Fits new h → OnlyServed terms h old.caller new.length (links ++ link ∷ [])
    turn h law fits =
        let before = w.served h law (one.serves.since.extends.fits h fits) in
        record {
          opened = before.opened;
          within = fits.long;
          in_turn = then_served link before.in_turn (omega arith) one.serves.since.extends.length (omega arith) (none_between h old.length) (none_between h new.length) (here h law fits);
        }

-- what the serving of a connection says, where it was fresh and its caller is never stopped
pub one_served : {I O : Type 0} (taken left : I → Option (List ℕ)) (held : O → Option (List ℕ)) (c : Admission) (inlet inlet' : I) (outlet outlet' : O) (number number' reads reads' writes writes' : ℕ) (shut_number : ℕ)
    (old new : Seen) (clock clock' : ClockTold) (end : Served) → AreFresh number number reads (taken inlet) number' writes (held outlet)
    → Passes (record { taken = taken inlet; left = left inlet; held = held outlet; moments = clock.moments }) (record { taken = taken inlet'; left = left inlet'; held = held outlet'; moments = clock'.moments }) (ServesBytes c old end new) → (end ≡ answer.End → IsAtEnd (left inlet'))
    → ConnCauses (record { reads = reads; writes = writes; stops = 0; ticks = clock.faults }) (record { reads = reads'; writes = writes'; stops = 0; ticks = clock'.faults }) end
    → OneServed (AllTell taken) (AllTell held) c old new clock clock' (record { number = shut_number; source_faults = reads'; sink_faults = writes'; taken = taken inlet'; left = left inlet'; held = held outlet' }, end)
one_served taken left held c inlet inlet' outlet outlet' number number' reads reads' writes writes' shut_number old new clock clock' end fresh p left_none causes = record {
  input = p.input;
  output = p.output;
  times = p.times;
  taken = λ tell. told_all (taken inlet) (taken inlet') p.input (tell inlet) fresh.none_taken p.takes;
  given = λ tell. told_all (held outlet) (held outlet') p.output (tell outlet) fresh.none_held p.gives;
  ticks = p.ticks;
  serves = p.so.0;
  cause = end_cause shut reads writes clock.faults clock'.faults (length p.input) end left_none causes p.so.1;
  later = causes.clock;
  rose = clock_rose _ _ end causes;
}
  where
    shut : Shut
    shut = record { number = shut_number; source_faults = reads'; sink_faults = writes'; taken = taken inlet'; left = left inlet'; held = held outlet' }

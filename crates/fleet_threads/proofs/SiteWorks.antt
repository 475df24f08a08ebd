-- What the workers of a site did, by the names that the serving has for it.
use Rattle.std.proofs.Common.{◌≡◌, ℕ, ◌+◌, ◌≤◌, List, [], ◌++◌, length, sym, ap, ◌∙◌, subst, arith}
use Rattle.std.specs.Prelude.{Contains}
use Rattle.std.proofs.lemmas.List.Elements.{Contains-append_left, Contains-append_right}
use Rattle.cell_model.specs.Seen.{Seen}
use Rattle.step_count.specs.CounterRule.{AreDifferent}
use Rattle.step_count.proofs.CallerLemmas.{different_among}
use Rattle.region_locks.specs.CallerViews.{numbers_of}
use Rattle.tsd_daemon.specs.declared.served.Served.{Served}
use Rattle.row_compactors.specs.Upkeep.{TakesPlaces}
use Rattle.conn_workers.specs.ServedLinks.{ServingTerms}
use Rattle.worker_returns.specs.GatheredLinks.{Gathered, ReturnsTold, callers_of}
use Rattle.worker_returns.proofs.CallerLemmas.{gathered_later}
use Rattle.fleet_threads.specs.WorkedSites.{SiteWorked}
use Rattle.fleet_threads.proofs.CallerLemmas.{own_number}

-- what was gathered, and then the places of those taken that only compacted
worked : (terms : ServingTerms) (opened : List ℕ) (s s' : Seen) (count others : ℕ) (first told : ReturnsTold) (n : ℕ) (ends : List Served) → length opened ≡ count + others → AreDifferent (numbers_of s') → told.clock_faults ≤ n
    → Gathered terms s (numbers_of s) count first told ends → TakesPlaces s others s' → SiteWorked terms opened s' first (record told { clock_faults = n }) ends
worked terms opened s s' count others first told n ends all apart later g t = record {
  count = count;
  gathered = record {
    callers = still.callers;
    count_is = still.count_is;
    different = still.different;
    among = λ number has. subst (λ (l : List ℕ). Contains l number) (sym t.numbers) (in_front number (still.among number has));
    served = still.served;
    none_behind = still.none_behind;
    given = still.given;
  };
  others = t.callers;
  all = all ∙ ap (λ m. count + m) (sym t.count_is);
  different = different_among (numbers_of s) t.behind (callers_of still.callers) t.callers (subst AreDifferent t.numbers apart) still.different t.different still.among t.among;
  among = λ number has. subst (λ (l : List ℕ). Contains l number) (sym t.numbers) (Contains-append_right (numbers_of s) t.behind number (t.among number has));
  nothing_new = t.nothing_new;
}
  where
    still : Gathered terms s' (numbers_of s) count first (record told { clock_faults = n }) ends
    still = gathered_later terms s s' (numbers_of s) (numbers_of s) count first told n ends (λ number has. has) (own_number s) t.later t.made later g

    in_front : (number : ℕ) → Contains (numbers_of s) number → Contains (numbers_of s ++ t.behind) number
    in_front number has = Contains-append_left (numbers_of s) t.behind number has

-- nobody had opened before the compactors, and behind them opened as many as served
pub worked_by : (terms : ServingTerms) (none opened_first opened : List ℕ) (s own own' s' : Seen) (compactors daemons : ℕ) (first told : ReturnsTold) (n : ℕ) (ends : List Served)
    → none ≡ [] → length opened_first ≡ length none + daemons → compactors ≡ daemons → own ≡ s → s' ≡ own' → AreDifferent (numbers_of own') → told.clock_faults ≤ n
    → ((count : ℕ) × (length opened ≡ length opened_first + count) × Gathered terms s (numbers_of s) count first told ends) → TakesPlaces own compactors own' → SiteWorked terms opened s' first (record told { clock_faults = n }) ends
worked_by terms none opened_first opened s own own' s' compactors daemons first told n ends nobody begun as_many of_is part_is apart later (count, more, g) t =
    subst (λ (x : Seen). SiteWorked terms opened x first (record told { clock_faults = n }) ends) (sym part_is)
    (worked terms opened s own' count compactors first told n ends all apart later g (subst (λ (x : Seen). TakesPlaces x compactors own') of_is t))
  where
    before : length none ≡ 0
    before = ap length nobody

    all : length opened ≡ count + compactors
    all = omega (arith, before, begun, more, as_many)

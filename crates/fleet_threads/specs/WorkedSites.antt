-- What the callers of a site did.
use Rattle.std.specs.Prelude.{◌≡◌, ℕ, ◌+◌, List, ◌++◌, length, Contains}
use Rattle.cell_model.specs.Seen.{Seen}
use Rattle.step_count.specs.CounterRule.{AreDifferent}
use Rattle.region_locks.specs.CallerViews.{numbers_of}
use Rattle.tsd_daemon.specs.declared.served.Served.{Served}
use Rattle.row_compactors.specs.Upkeep.{BroughtNothing}
use Rattle.conn_workers.specs.ServedLinks.{ServingTerms}
use Rattle.worker_returns.specs.GatheredLinks.{Gathered, ReturnsTold, callers_of}

-- Of the callers that opened, so many served connections, and the others brought nothing new. One caller has the places of all, and has seen this.
pub record SiteWorked (terms : ServingTerms) (opened : List ℕ) (s : Seen) (before after : ReturnsTold) (ends : List Served) : Type 0 where
  pub count : ℕ
  pub gathered : Gathered terms s (numbers_of s) count before after ends
  pub others : List ℕ
  pub all : length opened ≡ count + length others
  pub different : AreDifferent (callers_of gathered.callers ++ others)
  pub among : (number : ℕ) → Contains others number → Contains (numbers_of s) number
  pub nothing_new : (number : ℕ) → Contains others number → BroughtNothing s number

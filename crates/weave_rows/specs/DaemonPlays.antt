-- What is seen of the rows of a daemon, and what holds of them while it works.
use Rattle.std.specs.Prelude.{◌≡◌, ℕ, ◌+◌, ◌≤◌, [], Option, None, Some, IsSome}
use Rattle.row_key.specs.Made.{three}
use Rattle.cell_model.specs.History.{History}
use Rattle.cell_solo.specs.Turns.{history_of}
use Rattle.weave_rows.specs.WovenHistories.{IsLater}
use Rattle.weave_rows.specs.Looms.{Loomed}

-- the store, and how often the daemon was stopped
pub record DaemonPlay : Type 0 where
  pub loom : Loomed
  pub stops : ℕ

-- no store
abbrev pub no_loom : Loomed
no_loom = record { play = record { lines = record { widths = three; lines = [] }; turns = []; callers = 0; caller = 0; room = 0 }; accepted = 0; room = 0 }

-- the store that stands beside the daemon behind
abbrev pub loom_in : {N : Type 0} → Option (Loomed × N) → Loomed
loom_in (Some inner) = inner.0
loom_in None = no_loom

-- it is this caller's turn, and since its operation began only callers from it on have stepped; so many daemons are behind it
pub record IsAtWork {N : Type 0} (began : History) (caller depth : ℕ) (inner : Option (Loomed × N)) : Type 0 where
  pub there : IsSome inner
  pub turn : (loom_in inner).play.caller ≡ caller
  pub least : 1 ≤ caller
  pub most : caller + depth ≤ 3
  pub later : IsLater caller began (history_of (loom_in inner).play)

-- What an operation leaves of its daemon's queue, however it ends.
use Rattle.std.specs.Prelude.{◌≡◌, ◌≤◌, ◌⊎◌, List, [], ◌∷◌, length}
use Rattle.cell_model.specs.declared.answers.Stored.{Stored}
use Rattle.compactor.specs.Queues.{HasRows}

-- a put leaves what was queued, and adds at most one row
pub record GainsOne (before after : List Stored) : Type 0 where
  pub rows : List Stored
  pub has : HasRows before rows after
  pub few : length rows ≤ 1

-- a compaction takes out the first row, if there is one, and nothing else
abbrev pub LosesFirst : List Stored → List Stored → Type 0
LosesFirst before after = ((before ≡ []) × (after ≡ [])) ⊎ ((first : Stored) × (before ≡ first ∷ after))

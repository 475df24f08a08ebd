-- The laws of parts.
use Rattle.std.specs.Prelude.{◌≡◌, ℕ, ◌+◌, ◌<◌, ◌≤◌, Bool, true, false, List}
use Rattle.cell_model.specs.declared.row.Row.{Row}
use Rattle.cell_model.specs.declared.events.Step.{Step}
use Rattle.cell_model.specs.declared.events.Step.TheVariants.{NextRow}
use Rattle.row_key.specs.declared.widths.Widths.{Widths}
use Rattle.row_key.specs.declared.tables.Table.{Table}
use Rattle.row_key.specs.declared.regions.TheConstants.{NAME_REGIONS}
use Rattle.row_key.specs.Regions.{region_number}
use Rattle.cell_model.specs.Store.{Store}
use Rattle.cell_model.specs.Machine.{after, reply_of}
use Rattle.cell_model.specs.History.{History, store_after, base_of}
use Rattle.cell_model.specs.Ranges.{InOneRange}
use Rattle.cell_laws.specs.StoreParts.{is_in, part, is_mine, StaysWithin, picked, replayed}

-- a step of these rows is the step on their part, and another step leaves the part
pub record StepsApart : Type 0 where
  pub mine : (mine : Row → Bool) (s : Store) (place : ℕ) (step : Step) → is_mine mine step ≡ true → part mine (after s place step) ≡ after (part mine s) place step
  pub other : (mine : Row → Bool) (s : Store) (place : ℕ) (step : Step) → is_mine mine step ≡ false → part mine (after s place step) ≡ part mine s

-- the part of the store after a history is the replay of these rows' entries with their places, over the part of the base
abbrev pub HistoryApart : Type 0
HistoryApart = (mine : Row → Bool) (h : History) → part mine (store_after h) ≡ replayed (part mine (base_of h)) (picked (λ e. is_mine mine e.step) h)

-- a step of these rows has the reply that it has on their part
abbrev pub RepliesApart : Type 0
RepliesApart = (mine : Row → Bool) (s : Store) (place : ℕ) (step : Step) → is_mine mine step ≡ true → StaysWithin mine step → reply_of (part mine s) place step ≡ reply_of s place step

-- a next row that meets its condition looks at one region
abbrev pub LooksInOne : Type 0
LooksInOne = (w : Widths) (D : ℕ) (table : Table) (from to : List ℕ) → InOneRange w table from to → StaysWithin (is_in w D (region_number w D table from)) (NextRow table from to)

-- stores with the same widths and the same parts are one
abbrev pub PartsTellStore : Type 0
PartsTellStore = (w : Widths) (D : ℕ) (a b : Store) → 1 ≤ D → a.widths ≡ b.widths → ((k : ℕ) → k < NAME_REGIONS + D → part (is_in w D k) a ≡ part (is_in w D k) b) → a ≡ b

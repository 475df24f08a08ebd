-- What the one caller of an empty store has seen at first.
use Rattle.std.specs.Prelude.{◌≡◌, true}
use Rattle.row_key.specs.declared.widths.Widths.{Widths}
use Rattle.cell_model.specs.Store.{no_cells}
use Rattle.cell_model.specs.Seen.{Seen, IsPossible}
use Rattle.cell_solo.specs.Turns.{opened, whole_seen}

-- The store is empty, its ids have these widths, and nothing was done but that caller 1, who steps alone, has opened.
pub record IsFresh (w : Widths) (s : Seen) : Type 0 where
  pub seen : s ≡ whole_seen (opened (no_cells w) 1) 1 true
  pub possible : IsPossible s

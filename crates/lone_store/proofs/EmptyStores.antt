-- The store without a cell, as its first caller finds it.
use Rattle.std.proofs.Common.{refl}
use Rattle.row_key.specs.declared.widths.Widths.{Widths}
use Rattle.cell_model.specs.Store.{no_cells}
use Rattle.cell_model.specs.Lawful.{IsLawful}
use Rattle.cell_laws.proofs.CallerLemmas.{empty_base}
use Rattle.cell_solo.specs.Turns.{opened}

-- lawful is the history in which nothing was done but that caller 1 has opened
pub begun_lawful : (w : Widths) → IsLawful (opened (no_cells w) 1)
begun_lawful w = (empty_base w, record { opened = tt; may = refl }, refl)

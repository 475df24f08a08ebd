-- What a caller's proof cites of the store's words.
-- ---- the orders of rows and of places
-- they are total, and what ties in them is one
pub use Rattle.cell_model.proofs.Stores.{rows_total, places_total, exact_rows, exact_places}
-- stores that have the same widths and the same at each place are one
pub use Rattle.cell_model.proofs.Stores.{same_store, stamped_widths}
-- two places are one, or they are not
pub use Rattle.cell_model.proofs.Stores.{same_or_not}
-- ---- what a store has at a place
-- after a write: what was written there, and elsewhere what it had
pub use Rattle.cell_model.proofs.Stores.{content-written, content-written_other}
-- after a removal and a drop: what it had elsewhere, and no more than it had
pub use Rattle.cell_model.proofs.Stores.{get-removed_other, get-dropped_other, get-dropped}
-- the cells of a row have what the store has
pub use Rattle.cell_model.proofs.Shown.{value_among-cells_of}
-- ---- a step on an owned body, and then its stamp
-- they are the step at its place
pub use Rattle.cell_model.proofs.Stamps.{bump_stamped, claim_stamped, put_stamped, append_stamped}
-- a step that changed nothing is so at each place
pub use Rattle.cell_model.proofs.Stamps.{bump_full, claim_held}
-- the cell that a step wrote is there
pub use Rattle.cell_model.proofs.Stamps.{bump_there, claim_there, put_there, append_there}
-- ---- ids of a kind
-- its width is one, each id fits four bytes, and the number of an id's bytes is the id
pub use Rattle.cell_model.proofs.KindLemmas.{kind_fits, greatest_fits, number-bytes}

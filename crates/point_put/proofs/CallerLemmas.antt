-- What a caller's proof cites of the entries of puts.
use Rattle.std.proofs.Common.{ℕ, Bool, true, false, List, refl}
use Rattle.tsd_base.specs.Points.{DataPoint}
use Rattle.cell_model.specs.declared.row.Row.{Row}
use Rattle.cell_model.specs.Readings.{IsPut, reading_of, store_step}
-- names for which nothing was made
pub use Rattle.point_put.proofs.Asking.{none_in_turn}
-- the entries in turn, and those up to the name that is told, are entries for all names
pub use Rattle.point_put.proofs.Asking.{names_in_turn, names_to_end}

-- the step that stores a point puts or appends its reading
pub step_puts : (appends : Bool) (point : DataPoint) (row : Row) (qual value : List ℕ) → IsPut (store_step appends point row qual value) (reading_of point)
step_puts true point row qual value = refl
step_puts false point row qual value = refl

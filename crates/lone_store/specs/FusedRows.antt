-- Rows under a halt, as callers see them, and what a step of them comes to.
use Rattle.std.specs.Prelude.{◌≡◌, ◌≢◌, ℕ, Bool, true, false}
use Rattle.tsd_io.specs.Causes.{Rose}
use Rattle.tsd_io.specs.Halts.{CountsStops}

pub record FusedRows (R H : Type 0) : Type 0 where
  pub rows : R
  pub halt : H

-- the halt was asked once: where it refused, the rows stand as they were and the caller is stopped, and where it allowed the step, only the rows stop the caller, who is told of it
pub record AsksOnce {R H : Type 0} (answers : H → Bool → H → Type 0) (halt_stops : H → ℕ) (rows_stops : R → ℕ) (old new : FusedRows R H) (stopped : Type 0) : Type 0 where
  pub may : Bool
  pub asked : answers old.halt may new.halt
  pub counts : CountsStops (halt_stops old.halt) (halt_stops new.halt) may
  pub refused : may ≡ false → stopped × (new.rows ≡ old.rows)
  pub allowed : may ≡ true → stopped → Rose (rows_stops old.rows) (rows_stops new.rows)
  pub told : rows_stops new.rows ≢ rows_stops old.rows → stopped

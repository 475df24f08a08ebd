-- Rows that a call which ended early may have queued.
use Rattle.std.specs.Prelude.{◌≡◌, ◌⊎◌, ℕ, Bool, List, Contains}
use Rattle.tsd_base.specs.Points.{DataPoint}
use Rattle.cell_model.specs.declared.answers.Stored.{Stored}
use Rattle.cell_model.specs.declared.events.Placed.{Placed}
use Rattle.cell_model.specs.Layout.{base_time}
use Rattle.cell_model.specs.Readings.{store_step}

-- the row of a put or an append among these entries
pub record IsPutRow (own : List Placed) (s : Stored) : Type 0 where
  pub entry : Placed
  pub among : Contains own entry
  pub appends : Bool
  pub point : DataPoint
  pub qual : List ℕ
  pub value : List ℕ
  pub step : entry.entry.step ≡ store_step appends point s.row qual value
  pub base : s.base ≡ base_time point.time

-- it holds what it held, these rows, and perhaps rows of later puts and appends
pub record MayHaveRows (before rows : List Stored) (later : List Placed) (after : List Stored) : Type 0 where
  pub kept : (s : Stored) → Contains before s ⊎ Contains rows s → Contains after s
  pub most : (s : Stored) → Contains after s → (Contains before s ⊎ Contains rows s) ⊎ IsPutRow later s

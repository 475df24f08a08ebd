-- A step as it is asked of a region.
use Rattle.std.specs.Prelude.{◌≡◌, ◌≢◌, ℕ, Bool, true, false, IsTrue}
use Rattle.tsd_base.specs.Points.{data_point}
use Rattle.row_key.specs.declared.widths.Widths.{Widths}
use Rattle.cell_model.specs.declared.row.Row.{Row}
use Rattle.cell_model.specs.declared.events.Step.{Step}
use Rattle.cell_model.specs.declared.events.Step.TheVariants as step
use Rattle.cell_model.specs.declared.events.Reply.{Reply}
use Rattle.cell_model.specs.declared.events.Reply.TheVariants.{Shown, Next, BumpReply, ClaimReply, Removed}
use Rattle.cell_model.specs.declared.answers.Bumped.TheVariants.{Given}
use Rattle.cell_model.specs.declared.answers.Claimed.TheVariants.{Done}
use Rattle.cell_model.specs.Store.{Store, is_between}
use Rattle.cell_model.specs.Machine.{after, reply_of, counter_row}
use Rattle.cell_model.specs.Ranges.{InOneRange}
use Rattle.region_locks.specs.declared.step_order.Order.{Order}
use Rattle.region_locks.specs.declared.step_order.Order.TheVariants as order

-- the step that is asked for
abbrev pub step_of : Order → Step
step_of (order.Read row) = step.Read row.now
step_of (order.NextRow table from to) = step.NextRow table from.now to.now
step_of (order.Bump kind) = step.Bump kind
step_of (order.Claim row qual value) = step.Claim row.now qual.now value.now
step_of (order.PutPoint point row qual value) = step.PutPoint (data_point point.now) row.now qual.now value.now
step_of (order.AppendPoint point row piece) = step.AppendPoint (data_point point.now) row.now piece.now
step_of (order.PutMerged row qual value) = step.PutMerged row.now qual.now value.now
step_of (order.DropCells row which) = step.DropCells row.now which.now

-- a body over these rows can make the step, where ids have these widths
abbrev pub Covered : Widths → (Row → Bool) → Step → Type 0
Covered w covers step.Open = ⊥
Covered w covers (step.Read row) = IsTrue (covers row)
Covered w covers (step.NextRow table from to) = InOneRange w table from to × ((row : Row) → IsTrue (is_between table from to row) → IsTrue (covers row))
Covered w covers (step.Bump kind) = IsTrue (covers counter_row)
Covered w covers (step.Claim row qual value) = IsTrue (covers row) × (row ≢ counter_row)
Covered w covers (step.PutPoint point row qual value) = IsTrue (covers row) × (row ≢ counter_row)
Covered w covers (step.AppendPoint point row piece) = IsTrue (covers row) × (row ≢ counter_row)
Covered w covers (step.PutMerged row qual value) = IsTrue (covers row) × (row ≢ counter_row)
Covered w covers (step.DropCells row which) = IsTrue (covers row) × (row ≢ counter_row)

-- the step takes memory
abbrev pub TakesMemory : Step → Type 0
TakesMemory (step.Bump kind) = ⊥
TakesMemory (step.DropCells row which) = ⊥
TakesMemory _ = Unit {0}

-- the step was made on this store, without a stamp
pub record Applied (s : Store) (step : Step) (reply : Reply) (content : Store) : Type 0 where
  pub content_is : content ≡ after s 0 step
  pub reply_is : reply ≡ reply_of s 0 step

-- an id was given
abbrev pub gave : Reply → Bool
gave (BumpReply (Given id)) = true
gave _ = false

-- a claim was done
abbrev pub did : Reply → Bool
did (ClaimReply Done) = true
did _ = false

-- the reply is the machine's on some store
pub record Answers (step : Step) (reply : Reply) : Type 0 where
  pub store : Store
  pub place : ℕ
  pub is : reply ≡ reply_of store place step

-- what a reply is of
abbrev pub is_shown : Reply → Bool
is_shown (Shown cells) = true
is_shown _ = false

abbrev pub is_next : Reply → Bool
is_next (Next found) = true
is_next _ = false

abbrev pub is_bump : Reply → Bool
is_bump (BumpReply bumped) = true
is_bump _ = false

abbrev pub is_claim : Reply → Bool
is_claim (ClaimReply claimed) = true
is_claim _ = false

abbrev pub is_removed : Reply → Bool
is_removed (Removed count) = true
is_removed _ = false

-- A step under a region's lock, and its entry.
use Rattle.std.specs.Prelude.{◌≡◌, ℕ, ◌<◌, Bool, true, Result, IfOk, OnErr}
use Rattle.atomic_table.specs.Seated.{TableId}
use Rattle.row_key.specs.declared.widths.Widths.{Widths}
use Rattle.cell_model.specs.declared.events.Step.{Step}
use Rattle.cell_model.specs.declared.events.Step.TheVariants.{NextRow}
use Rattle.cell_model.specs.declared.events.Reply.{Reply}
use Rattle.cell_model.specs.declared.events.Entry.{Entry}
use Rattle.cell_model.specs.Ranges.{InOneRange}
use Rattle.cell_model.specs.Seen.{Knows, Stepped, IsPossible}
use Rattle.cell_laws.specs.StoreParts.{is_in, is_mine}
use Rattle.step_count.specs.declared.view.Named.{Named}
use Rattle.step_count.specs.declared.view.View.{View}
use Rattle.step_count.specs.declared.steps.Pass.{Pass}
use Rattle.step_count.specs.CounterRule.{region_count}
use Rattle.step_count.specs.Tokens.{counter_of_pass, view_of_pass}
use Rattle.region_locks.specs.StepOrders.{Answers, TakesMemory}
use Rattle.region_locks.specs.CallerViews.{head_of, seen_of, IsCaller}

-- the entry of the view's first caller
abbrev pub entry_of : View → Step → Reply → Entry
entry_of v step reply = record { caller = head_of v.callers; step = step; reply = reply }

-- a next row looks at one range, where ids have these widths
abbrev pub InRange : Widths → Step → Type 0
InRange w (NextRow table from to) = InOneRange w table from to
InRange w _ = Unit {0}

-- some gate was called for the region
abbrev pub WasLetIn : {G : Type 0} → (G → ℕ → Bool) → ℕ → Type 0
WasLetIn {G} lets_in region = (gate : G) × (lets_in gate region ≡ true)

-- the pass is of the counter and may make the step, which is on this region
pub record MayRun (counter : TableId) (name : Named) (region : ℕ) (pass : Pass) (step : Step) : Type 0 where
  pub counter_is : counter_of_pass pass ≡ counter
  pub caller : IsCaller name (view_of_pass pass)
  pub among : region < region_count name
  pub mine : is_mine (is_in name.widths name.data_regions region) step ≡ true
  pub range : InRange name.widths step
  pub knows : Knows (seen_of (view_of_pass pass)) step

-- the step was made, with the machine's reply
pub record WasMade (old : View) (step : Step) (reply : Reply) (new : View) : Type 0 where
  pub stepped : Stepped (seen_of old) step reply (seen_of new)
  pub answers : Answers step reply
  pub possible : IsPossible (seen_of new)

-- the step was made, or there was no memory for it and nothing was seen
pub record HasRun {E : Type 0} (counter : TableId) (name : Named) (old : View) (step : Step) (result : Result Reply E) (new : Pass) : Type 0 where
  pub counter_is : counter_of_pass new ≡ counter
  pub caller : IsCaller name (view_of_pass new)
  pub made : IfOk result (λ reply. WasMade old step reply (view_of_pass new))
  pub failed : OnErr result ((view_of_pass new ≡ old) × TakesMemory step)

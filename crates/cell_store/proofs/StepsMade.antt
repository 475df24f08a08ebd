-- What a caller has seen behind a step.
use Rattle.std.proofs.Common.{sym, subst}
use Rattle.std.specs.Prelude.{Result, Ok, Err, OnErr}
use Rattle.atomic_table.specs.Seated.{TableId}
use Rattle.cell_model.specs.declared.events.Step.{Step}
use Rattle.cell_model.specs.declared.events.Reply.{Reply}
use Rattle.cell_model.specs.Seen.{Waited}
use Rattle.cell_laws.proofs.CallerLemmas.{nothing_waited}
use Rattle.step_count.specs.declared.view.Named.{Named}
use Rattle.step_count.specs.declared.view.View.{View}
use Rattle.step_count.specs.declared.steps.Pass.{Pass}
use Rattle.step_count.specs.Tokens.{view_of_pass}
use Rattle.region_locks.specs.CallerViews.{seen_of}
use Rattle.region_locks.specs.StepEntries.{HasRun}

-- where memory was refused nothing was seen
pub failed_waited : {E : Type 0} (counter : TableId) (name : Named) (old : View) (step : Step) (result : Result Reply E) (new : Pass) → HasRun counter name old step result new → OnErr result (Waited (seen_of old) (seen_of (view_of_pass new)))
failed_waited counter name old step (Ok reply) new run = tt
failed_waited counter name old step (Err e) new run = subst (λ (v : View). Waited (seen_of old) (seen_of v)) (sym run.failed.0) (nothing_waited (seen_of old))

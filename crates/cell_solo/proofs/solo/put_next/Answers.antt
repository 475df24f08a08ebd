use Rattle.std.proofs.Common.{ap, ◌∙◌, ℕ, ◌+◌, List, length}
use Rattle.cell_model.specs.declared.events.Step.TheVariants.{PutMerged}
use Rattle.cell_model.specs.Machine.{after}
use Rattle.cell_solo.specs.Turns.{Turn}
use Rattle.cell_solo.proofs.Plays.{on_ok}
use Rattle.cell_solo.proofs.solo.put_next.Goals as goal

pub returns-clause-ok : goal.returns-clause-ok
returns-clause-ok g c =
    on_ok c.put_at.result
    (λ put. put ∙ ap (λ (place : ℕ). after (g.B.Body.content c.args.body.now) (place + 1) (PutMerged c.args.row.now c.args.qual.now c.args.value.now)) (c.len-place.ensures.len ∙ ap (λ (ts : List Turn). length ts) c.reserve.ensures.list))
    c.put_at.ensures.ok

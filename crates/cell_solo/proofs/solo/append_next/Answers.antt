use Rattle.std.proofs.Common.{ap, ◌∙◌, ℕ, ◌+◌, ◌%◌, ◌^◌, List, length}
use Rattle.cell_model.specs.Store.{appended}
use Rattle.cell_solo.specs.Turns.{Turn}
use Rattle.cell_solo.proofs.Plays.{on_ok}
use Rattle.cell_solo.proofs.solo.append_next.Goals as goal

pub returns-clause-ok : goal.returns-clause-ok
returns-clause-ok g c =
    on_ok c.append_at.result
    (λ append. append ∙ ap (λ (place : ℕ). appended (g.B.Body.content c.args.body.now) c.args.row.now c.args.piece.now ((place + 1) % 2 ^ 64)) (c.len-place.ensures.len ∙ ap (λ (ts : List Turn). length ts) c.reserve.ensures.list))
    c.append_at.ensures.ok

use Rattle.std.proofs.Common.{subst}
use Rattle.std.proofs.lemmas.Result.{IfOk-weaker}
use Rattle.cell_model.specs.KindWidths.{Widths}
use Rattle.http_assign.specs.AssignLists.{outcome_of}
use Rattle.http_assign.specs.AssignTexts.{Tells}
use Rattle.http_assign.proofs.TextRuns.{name_says}
use Rattle.http_assign.proofs.assign_lists.assign_name.Goals as goal

pub returns-clause-ok : goal.returns-clause-ok
returns-clause-ok g c =
    IfOk-weaker c.told.result _ _ (λ out tells. name_says c.args.rule.now.patterns c.args.kind c.args.name.now (g.R.Rows.seen c.args.names.now.rows) (g.R.Rows.seen c.assign-answer.new.self.rows) c.assign-answer.result _ c.assign-answer.ensures.made c.assign-answer.ensures.id (subst (λ (w : Widths). Tells w c.args.kind c.args.name.now c.assign-answer.result (outcome_of out)) c.widths.ensures tells)) c.told.ensures.ok

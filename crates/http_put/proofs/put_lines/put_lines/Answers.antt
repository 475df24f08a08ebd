use Rattle.point_put.specs.Admissions.{admission}
use Rattle.http_put.proofs.ElementRuns.{may_have_put}
use Rattle.http_put.proofs.OneElement.{at_err}
use Rattle.http_put.proofs.BodyTexts.{list_of_lines}
use Rattle.http_put.proofs.put_lines.put_lines.Goals as goal

pub put_items-requires : goal.put_items-requires
put_items-requires g c = list_of_lines c.args.body.now c.in-Ok.text.now c.in-Some.lines c.in-Ok.ensures.cases.0 c.in-Ok.ensures.cases.1 c.in-Some.ensures

pub returns-in_err-outs-clause-queue : goal.returns-in_err-outs-clause-queue
returns-in_err-outs-clause-queue g c =
    let b = c.in_err-outs.ensures.err in
    at_err c.from_residual.result (may_have_put (admission c.args.config.now c.args.rule.now.patterns) b.0 (g.R.Rows.seen c.args.names.now.rows) (g.R.Rows.seen c.put_items.new.names.rows) c.args.queue.now c.put_items.new.queue b.2)

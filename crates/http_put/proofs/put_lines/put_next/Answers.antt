use Rattle.std.proofs.Common.{refl}
use Rattle.std.proofs.lemmas.Result.{IfOk-weaker}
use Rattle.point_put.specs.Admissions.{admission}
use Rattle.http_put.proofs.LineTurns.{first_ahead, if_told, none_ahead, turn_begun, turn_of}
use Rattle.http_put.proofs.OneElement.{err_as}
use Rattle.http_put.proofs.put_lines.put_next.Goals as goal

pub returns-in-Some-clause-ok : goal.returns-in-Some-clause-ok
returns-in-Some-clause-ok g c elements goes =
    let n = first_ahead c.args.lines.now c.args.at c.in-Some.line.now elements c.in-Some.ensures.0 c.in-Some.ensures.1 goes in
    IfOk-weaker c.put_line.result _ _ (λ turn put. turn_of (admission c.args.config.now c.args.rule.now.patterns) elements c.in-Some.line.now (g.R.Rows.seen c.args.names.now.rows) (g.R.Rows.seen c.put_line.new.names.rows) c.args.queue.now c.put_line.new.queue turn _ n.d n.rest n.is n.of n.goes put) c.put_line.ensures.ok

pub returns-in-Some-clause-err : goal.returns-in-Some-clause-err
returns-in-Some-clause-err g c elements goes =
    let n = first_ahead c.args.lines.now c.args.at c.in-Some.line.now elements c.in-Some.ensures.0 c.in-Some.ensures.1 goes in
    err_as c.put_line.result (turn_begun (admission c.args.config.now c.args.rule.now.patterns) elements c.in-Some.line.now (g.R.Rows.seen c.args.names.now.rows) (g.R.Rows.seen c.put_line.new.names.rows) n.d n.rest n.is n.of) c.put_line.ensures.err

pub returns-in-Some-clause-within : goal.returns-in-Some-clause-within
returns-in-Some-clause-within g c = if_told c.put_line.result c.in-Some.ensures.0

pub returns-in-None-clause-ok : goal.returns-in-None-clause-ok
returns-in-None-clause-ok g c elements goes = (none_ahead c.args.lines.now c.args.at elements c.in-None.ensures goes, refl, refl)

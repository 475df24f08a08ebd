use Rattle.std.proofs.Common.{None, refl, sym, subst}
use Rattle.point_put.specs.Admissions.{admission}
use Rattle.http_put.specs.PutLines.{LineBegun, LinePut}
use Rattle.http_put.specs.declared.put_lines.Turn.TheVariants.{Told}
use Rattle.http_put.proofs.LineTurns.{denied_begun, denied_stops, in_points, line_denied, line_stored, stored_begun}
use Rattle.http_put.proofs.OneElement.{at_err}
use Rattle.http_put.proofs.put_lines.put_line.Goals as goal

pub queue_stored-requires-clause-points : goal.queue_stored-requires-clause-points
queue_stored-requires-clause-points g c =
    in_points (admission c.args.config.now c.args.rule.now.patterns) c.args.line.now (g.R.Rows.seen c.args.names.now.rows) (g.R.Rows.seen c.put_text.new.names.rows) c.in-Ok.stored c.in-Ok.ensures.says c.in-Ok.ensures.leaves.possible

pub returns-in_ok-queue_stored-in-Ok-clause-ok : goal.returns-in_ok-queue_stored-in-Ok-clause-ok
returns-in_ok-queue_stored-in-Ok-clause-ok g c =
    let a = admission c.args.config.now c.args.rule.now.patterns in
    let old = g.R.Rows.seen c.args.names.now.rows in
    subst (λ names. LinePut a c.args.line.now old c.args.queue.now (Told None) (g.R.Rows.seen names.rows) c.queue_stored.new.queue) (sym c.queue_stored.ensures.names)
    (line_stored a c.args.line.now old (g.R.Rows.seen c.put_text.new.names.rows) c.args.queue.now c.queue_stored.new.queue c.in-Ok.stored c.in-Ok.ensures.says c.in_ok-queue_stored-in-Ok.ensures.ok)

pub returns-in_err-queue_stored-in-Ok-clause-err : goal.returns-in_err-queue_stored-in-Ok-clause-err
returns-in_err-queue_stored-in-Ok-clause-err g c =
    let a = admission c.args.config.now c.args.rule.now.patterns in
    let old = g.R.Rows.seen c.args.names.now.rows in
    at_err c.from_residual.result (subst (λ names. LineBegun a c.args.line.now old (g.R.Rows.seen names.rows)) (sym c.queue_stored.ensures.names) (stored_begun a c.args.line.now old (g.R.Rows.seen c.put_text.new.names.rows) c.in-Ok.stored c.in-Ok.ensures.says))

pub returns-in-Err-clause-ok : goal.returns-in-Err-clause-ok
returns-in-Err-clause-ok g c =
    line_denied (admission c.args.config.now c.args.rule.now.patterns) c.args.line.now (g.R.Rows.seen c.args.names.now.rows) (g.R.Rows.seen c.put_text.new.names.rows) c.args.queue.now c.args.queue.now c.in-Err.fault c.denied.result c.in-Err.ensures.says refl c.denied.ensures.ok

pub returns-in-Err-clause-err : goal.returns-in-Err-clause-err
returns-in-Err-clause-err g c =
    denied_begun (admission c.args.config.now c.args.rule.now.patterns) c.args.line.now (g.R.Rows.seen c.args.names.now.rows) (g.R.Rows.seen c.put_text.new.names.rows) c.in-Err.fault c.denied.result c.in-Err.ensures.says c.denied.ensures.err

pub returns-in-Err-clause-stops : goal.returns-in-Err-clause-stops
returns-in-Err-clause-stops g c = record {
  grows = c.put_text.ensures.leaves.grows;
  rose = denied_stops (g.R.Rows.stops c.args.names.now.rows) (g.R.Rows.stops c.put_text.new.names.rows) c.in-Err.fault c.denied.result c.denied.ensures.stopped c.in-Err.ensures.leaves.rose;
}

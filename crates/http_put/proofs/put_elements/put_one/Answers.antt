use Rattle.std.proofs.lemmas.Result.{IfOk-weaker}
use Rattle.tsd_base.specs.Points.{data_point}
use Rattle.point_put.specs.Admissions.{admission}
use Rattle.http_put.proofs.OneElement.{at_err, point_begun, point_refused, point_stored, stopped_put}
use Rattle.http_put.proofs.put_elements.put_one.Goals as goal

pub returns-in-Ok-clause-ok : goal.returns-in-Ok-clause-ok
returns-in-Ok-clause-ok g c = point_stored (admission c.args.config.now c.args.rule.now.patterns) (data_point c.args.point.now) (g.R.Rows.seen c.args.names.now.rows) (g.R.Rows.seen c.put_queued.new.names.rows) c.args.queue.now c.put_queued.new.queue c.in-Ok.ensures.ok

pub returns-in-Err-clause-ok : goal.returns-in-Err-clause-ok
returns-in-Err-clause-ok g c =
    IfOk-weaker c.refused.result _ _ (λ out told. point_refused (admission c.args.config.now c.args.rule.now.patterns) (data_point c.args.point.now) (g.R.Rows.seen c.args.names.now.rows) (g.R.Rows.seen c.put_queued.new.names.rows) c.args.queue.now c.put_queued.new.queue c.in-Err.fault _ c.in-Err.ensures.err told c.in-Err.ensures.same) c.refused.ensures.ok

pub returns-in-Err-clause-err : goal.returns-in-Err-clause-err
returns-in-Err-clause-err g c =
    at_err c.refused.result (point_begun (admission c.args.config.now c.args.rule.now.patterns) (data_point c.args.point.now) (g.R.Rows.seen c.args.names.now.rows) (g.R.Rows.seen c.put_queued.new.names.rows) c.in-Err.fault c.in-Err.ensures.err)

pub returns-in-Err-clause-stops : goal.returns-in-Err-clause-stops
returns-in-Err-clause-stops g c = record {
  grows = c.put_queued.ensures.leaves.grows;
  rose = stopped_put (g.R.Rows.stops c.args.names.now.rows) (g.R.Rows.stops c.put_queued.new.names.rows) c.in-Err.fault c.refused.result c.refused.ensures.stopped c.in-Err.ensures.leaves.rose;
}

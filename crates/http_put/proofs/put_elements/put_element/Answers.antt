use Rattle.std.proofs.Common.{arith}
use Rattle.std.proofs.lemmas.Result.{IfOk-weaker}
use Rattle.serde_json.specs.View.{view}
use Rattle.tsd_base.specs.Points.{data_point}
use Rattle.point_put.specs.Admissions.{admission}
use Rattle.http_put.proofs.OneElement.{at_err, element_begun, element_put, element_unread, err_as, memory_alone, unread_begun}
use Rattle.http_put.proofs.put_elements.put_element.Goals as goal

pub returns-in-Ok-clause-ok : goal.returns-in-Ok-clause-ok
returns-in-Ok-clause-ok g c =
    IfOk-weaker c.put_one.result _ _ (λ out put. element_put (admission c.args.config.now c.args.rule.now.patterns) (view c.args.element.now) (data_point c.in-Ok.point) (g.R.Rows.seen c.args.names.now.rows) (g.R.Rows.seen c.put_one.new.names.rows) c.args.queue.now c.put_one.new.queue _ c.in-Ok.ensures.gives put) c.put_one.ensures.ok

pub returns-in-Ok-clause-err : goal.returns-in-Ok-clause-err
returns-in-Ok-clause-err g c =
    err_as c.put_one.result (element_begun (admission c.args.config.now c.args.rule.now.patterns) (view c.args.element.now) (data_point c.in-Ok.point) (g.R.Rows.seen c.args.names.now.rows) (g.R.Rows.seen c.put_one.new.names.rows) c.in-Ok.ensures.gives) c.put_one.ensures.err

pub returns-in-Err-clause-ok : goal.returns-in-Err-clause-ok
returns-in-Err-clause-ok g c =
    IfOk-weaker c.unread.result _ _ (λ out told. element_unread (admission c.args.config.now c.args.rule.now.patterns) (view c.args.element.now) c.in-Err.fault (g.R.Rows.seen c.args.names.now.rows) c.args.queue.now _ c.in-Err.ensures.gives told) c.unread.ensures.ok

pub returns-in-Err-clause-err : goal.returns-in-Err-clause-err
returns-in-Err-clause-err g c = at_err c.unread.result (unread_begun (admission c.args.config.now c.args.rule.now.patterns) (view c.args.element.now) (g.R.Rows.seen c.args.names.now.rows))

pub returns-in-Err-clause-stops : goal.returns-in-Err-clause-stops
returns-in-Err-clause-stops g c = record { grows = omega arith; rose = memory_alone (g.R.Rows.stops c.args.names.now.rows) c.unread.result c.unread.ensures.err }

use Rattle.tsd_base.specs.Points.{data_point}
use Rattle.point_put.specs.Admissions.{admission}
use Rattle.point_put.specs.PutPoint.{PutSays}
use Rattle.point_put.proofs.Asking.{passed_on}
use Rattle.point_put.proofs.Outcomes.{put_failed, put_done, few_failed, few_done}
use Rattle.point_put.proofs.put_point.put.Goals as goal

pub returns-in_err-key-clause-says : goal.returns-in_err-key-clause-says
returns-in_err-key-clause-says g c =
    passed_on (λ r. PutSays (admission c.args.config.now c.args.rule.now.patterns) (data_point c.args.point.now) (g.R.Rows.seen c.args.names.now.rows) r (g.R.Rows.seen c.key_for.new.names.rows)) c.in_err-key.field-0.0 c.from_residual.result c.from_residual.ensures.1
    (put_failed (admission c.args.config.now c.args.rule.now.patterns) (data_point c.args.point.now) _ _ c.in_err-key.field-0.0 c.in_err-key.ensures.asked)

pub returns-in_err-key-clause-few : goal.returns-in_err-key-clause-few
returns-in_err-key-clause-few g c = few_failed (admission c.args.config.now c.args.rule.now.patterns) (data_point c.args.point.now) _ _ _ c.in_err-key.ensures.asked

pub returns-clause-says : goal.returns-clause-says
returns-clause-says g c = put_done (admission c.args.config.now c.args.rule.now.patterns) (data_point c.args.point.now) _ _ _ c.in_ok-key.key c.store.result c.in_ok-key.ensures.asked c.store.ensures.made

pub returns-clause-few : goal.returns-clause-few
returns-clause-few g c = few_done (admission c.args.config.now c.args.rule.now.patterns) (data_point c.args.point.now) _ _ _ c.in_ok-key.key c.store.result c.in_ok-key.ensures.asked c.store.ensures.made

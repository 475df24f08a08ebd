use Rattle.tsd_base.specs.Points.{data_point}
use Rattle.point_put.specs.Admissions.{admission}
use Rattle.compactor.proofs.CallerLemmas.{added_row}
use Rattle.queued_put.proofs.Putting.{put_failed, unqueued}
use Rattle.queued_put.proofs.queued_point.put_queued.Goals as goal

pub returns-in_err-stored-clause-err : goal.returns-in_err-stored-clause-err
returns-in_err-stored-clause-err g c =
    put_failed (admission c.args.config.now c.args.rule.now.patterns) (data_point c.args.point.now) (g.R.Rows.seen c.args.names.now.rows) (g.R.Rows.seen c.put.new.names.rows) c.in_err-stored.field-0.0 c.from_residual.result c.from_residual.ensures.1 c.in_err-stored.ensures.says

pub returns-in_err-add-clause-err : goal.returns-in_err-add-clause-err
returns-in_err-add-clause-err g c =
    unqueued (admission c.args.config.now c.args.rule.now.patterns) (data_point c.args.point.now) (g.R.Rows.seen c.args.names.now.rows) (g.R.Rows.seen c.put.new.names.rows) c.in_ok-stored.stored c.from_residual-in_err-add.result c.from_residual-in_err-add.ensures.1 c.in_ok-stored.ensures.says

pub returns-clause-ok : goal.returns-clause-ok
returns-clause-ok g c = record { stored = c.in_ok-stored.stored; says = c.in_ok-stored.ensures.says; rows = added_row c.args.queue.now c.in_ok-stored.stored c.in_ok-add.field-0 c.add.new.self c.in_ok-add.ensures.ok }

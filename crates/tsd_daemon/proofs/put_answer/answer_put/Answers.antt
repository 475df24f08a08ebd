use Rattle.std.proofs.Common.{subst, sym}
use Rattle.std.specs.Prelude.{None, Ok, Err}
use Rattle.point_put.specs.Admissions.{admission}
use Rattle.tsd_daemon.specs.PutAnswers.{put_of}
use Rattle.tsd_daemon.specs.Talks.{Replied, WasBegun}
use Rattle.tsd_daemon.proofs.Giving.{at_err}
use Rattle.tsd_daemon.proofs.Points.{stored_in_points, text_accepted, text_begun, text_denied}
use Rattle.tsd_daemon.proofs.put_answer.answer_put.Goals as goal

pub queue_stored-requires-clause-points : goal.queue_stored-requires-clause-points
queue_stored-requires-clause-points g c =
    stored_in_points (admission c.args.config.now c.args.rule.now.patterns) c.args.text.now (g.R.Rows.seen c.args.names.now.rows) (g.R.Rows.seen c.put_text.new.names.rows) c.in-Ok.stored c.in-Ok.ensures.says c.in-Ok.ensures.leaves.possible

pub returns-in_ok-queue_stored-in-Ok-clause-ok : goal.returns-in_ok-queue_stored-in-Ok-clause-ok
returns-in_ok-queue_stored-in-Ok-clause-ok g c = λ counts.
    let a = admission c.args.config.now c.args.rule.now.patterns in
    let old = g.R.Rows.seen c.args.names.now.rows in
    subst (λ names. Replied a counts None (put_of c.args.text.now) old c.args.queue.now c.accepted.result.reply.items c.accepted.result.counted (g.R.Rows.seen names.rows) c.queue_stored.new.queue) (sym c.queue_stored.ensures.names)
    (text_accepted a counts c.args.text.now old (g.R.Rows.seen c.put_text.new.names.rows) c.args.queue.now c.queue_stored.new.queue c.in-Ok.stored c.accepted.result c.in-Ok.ensures.says c.in_ok-queue_stored-in-Ok.ensures.ok c.accepted.ensures.reply c.accepted.ensures.counted)

pub returns-in_err-queue_stored-in-Ok-clause-err : goal.returns-in_err-queue_stored-in-Ok-clause-err
returns-in_err-queue_stored-in-Ok-clause-err g c =
    let a = admission c.args.config.now c.args.rule.now.patterns in
    let old = g.R.Rows.seen c.args.names.now.rows in
    at_err c.from_residual.result (subst (λ names. WasBegun a None (put_of c.args.text.now) old c.args.queue.now (g.R.Rows.seen names.rows) c.queue_stored.new.queue) (sym c.queue_stored.ensures.names)
    (subst (λ queue. WasBegun a None (put_of c.args.text.now) old c.args.queue.now (g.R.Rows.seen c.put_text.new.names.rows) queue) (sym c.in_err-queue_stored-in-Ok.ensures.same)
    (text_begun a c.args.text.now old (g.R.Rows.seen c.put_text.new.names.rows) c.args.queue.now (Ok c.in-Ok.stored) c.in-Ok.ensures.says)))

pub returns-in-Err-clause-ok : goal.returns-in-Err-clause-ok
returns-in-Err-clause-ok g c =
    text_denied (admission c.args.config.now c.args.rule.now.patterns) c.args.text.now (g.R.Rows.seen c.args.names.now.rows) (g.R.Rows.seen c.put_text.new.names.rows) c.args.queue.now c.in-Err.fault c.denied.result c.in-Err.ensures.says c.denied.ensures.ok c.denied.ensures.counted

pub returns-in-Err-clause-err : goal.returns-in-Err-clause-err
returns-in-Err-clause-err g c =
    at_err c.denied.result (text_begun (admission c.args.config.now c.args.rule.now.patterns) c.args.text.now (g.R.Rows.seen c.args.names.now.rows) (g.R.Rows.seen c.put_text.new.names.rows) c.args.queue.now (Err c.in-Err.fault) c.in-Err.ensures.says)

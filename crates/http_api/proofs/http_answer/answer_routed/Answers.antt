use Rattle.std.proofs.Common.{Option, Vec, ℕ, Global, Ok, ap, subst}
use Rattle.std.specs.Prelude.{IfSome}
use Rattle.std.proofs.lemmas.Result.{IfOk-weaker}
use Rattle.cell_model.specs.Stops.{CountsStops, is_stop}
use Rattle.point_put.specs.Admissions.{admission}
use Rattle.http_api.specs.HttpAnswers.{CallBroken, CallReplied}
use Rattle.http_api.proofs.Answering.{in_error, of_error}
use Rattle.http_api.proofs.http_answer.answer_routed.Goals as goal

pub returns-in-Some-clause-ok : goal.returns-in-Some-clause-ok
returns-in-Some-clause-ok g c =
    subst (λ (o : Option (Vec ℕ Global)). IfSome o (λ reply. CallReplied (admission c.args.config.now c.args.rule.now.patterns) c.args.now c.args.call.now (g.R.Rows.seen c.args.names.now.rows) c.args.queue.now reply.items (g.R.Rows.seen c.answer_list.new.names.rows) c.answer_list.new.queue)) c.in-Some.is (c.in_ok-found.ensures.ok c.args.now)

pub returns-in-None-clause-ok : goal.returns-in-None-clause-ok
returns-in-None-clause-ok g c =
    let same = c.in_ok-found.ensures.nothing (ap (λ o. Ok o) c.in-None.is) in
    IfOk-weaker c.answer_task.result _ _ (λ reply done.
    subst (λ names. CallReplied (admission c.args.config.now c.args.rule.now.patterns) c.args.now c.args.call.now (g.R.Rows.seen names.rows) c.args.queue.now reply.items (g.R.Rows.seen c.answer_task.new.names.rows) c.answer_task.new.queue) same.0
    (subst (λ queue. CallReplied (admission c.args.config.now c.args.rule.now.patterns) c.args.now c.args.call.now (g.R.Rows.seen c.answer_list.new.names.rows) queue reply.items (g.R.Rows.seen c.answer_task.new.names.rows) c.answer_task.new.queue) same.1 done))
    c.answer_task.ensures.ok

pub returns-in-None-clause-err : goal.returns-in-None-clause-err
returns-in-None-clause-err g c =
    let same = c.in_ok-found.ensures.nothing (ap (λ o. Ok o) c.in-None.is) in
    of_error c.answer_task.result (λ broken.
    subst (λ names. CallBroken (admission c.args.config.now c.args.rule.now.patterns) c.args.now c.args.call.now (g.R.Rows.seen names.rows) c.args.queue.now (g.R.Rows.seen c.answer_task.new.names.rows) c.answer_task.new.queue) same.0
    (subst (λ queue. CallBroken (admission c.args.config.now c.args.rule.now.patterns) c.args.now c.args.call.now (g.R.Rows.seen c.answer_list.new.names.rows) queue (g.R.Rows.seen c.answer_task.new.names.rows) c.answer_task.new.queue) same.1 broken))
    c.answer_task.ensures.err

pub returns-in-None-clause-stops : goal.returns-in-None-clause-stops
returns-in-None-clause-stops g c =
    let same = c.in_ok-found.ensures.nothing (ap (λ o. Ok o) c.in-None.is) in
    subst (λ names. CountsStops is_stop c.answer_task.result (g.R.Rows.stops names.rows) (g.R.Rows.stops c.answer_task.new.names.rows)) same.0 c.answer_task.ensures.stops

pub returns-in_err-found-clause-err : goal.returns-in_err-found-clause-err
returns-in_err-found-clause-err g c = in_error (CallBroken (admission c.args.config.now c.args.rule.now.patterns) c.args.now c.args.call.now (g.R.Rows.seen c.args.names.now.rows) c.args.queue.now (g.R.Rows.seen c.answer_list.new.names.rows) c.answer_list.new.queue) c.from_residual.result
    (c.in_err-found.ensures.err c.args.now)

use Rattle.std.proofs.Common.{sym, subst}
use Rattle.point_put.specs.Admissions.{admission}
use Rattle.http_api.specs.CallTasks.{IsTask}
use Rattle.http_api.specs.CallWork.{Work}
use Rattle.http_api.specs.HttpAnswers.{WorkBroken}
use Rattle.http_api.proofs.Answering.{in_error, nothing, of_error}
use Rattle.http_api.proofs.http_answer.perform.Goals as goal

pub returns-in-Say-clause-err : goal.returns-in-Say-clause-err
returns-in-Say-clause-err g c = in_error ((work : Work) → IsTask work c.args.task.now → WorkBroken (admission c.args.config.now c.args.rule.now.patterns) work (g.R.Rows.seen c.args.names.now.rows) c.args.queue.now (g.R.Rows.seen c.args.names.now.rows) c.args.queue.now) c.say.result
    (λ work is. nothing (admission c.args.config.now c.args.rule.now.patterns) work (g.R.Rows.seen c.args.names.now.rows) c.args.queue.now)

pub returns-in-Assign-clause-err : goal.returns-in-Assign-clause-err
returns-in-Assign-clause-err g c = of_error c.assign.result
    (λ broken work is. subst (λ (w : Work). WorkBroken (admission c.args.config.now c.args.rule.now.patterns) w (g.R.Rows.seen c.args.names.now.rows) c.args.queue.now (g.R.Rows.seen c.assign.new.names.rows) c.args.queue.now) (sym (subst (IsTask work) c.in-Assign.is is)) (broken c.args.config.now c.args.queue.now))
    c.assign.ensures.err

pub returns-in-Suggest-clause-err : goal.returns-in-Suggest-clause-err
returns-in-Suggest-clause-err g c = of_error c.suggest.result
    (λ broken work is. subst (λ (w : Work). WorkBroken (admission c.args.config.now c.args.rule.now.patterns) w (g.R.Rows.seen c.args.names.now.rows) c.args.queue.now (g.R.Rows.seen c.suggest.new.names.rows) c.args.queue.now) (sym (subst (IsTask work) c.in-Suggest.is is).0) (broken (admission c.args.config.now c.args.rule.now.patterns) c.args.queue.now))
    c.suggest.ensures.err

pub returns-in-Ask-clause-err : goal.returns-in-Ask-clause-err
returns-in-Ask-clause-err g c = of_error c.answer_query.result
    (λ broken work is. subst (λ (w : Work). WorkBroken (admission c.args.config.now c.args.rule.now.patterns) w (g.R.Rows.seen c.args.names.now.rows) c.args.queue.now (g.R.Rows.seen c.answer_query.new.names.rows) c.args.queue.now) (sym (subst (IsTask work) c.in-Ask.is is).0) (broken (admission c.args.config.now c.args.rule.now.patterns) c.args.queue.now))
    c.answer_query.ensures.err

pub returns-in-LookUp-clause-err : goal.returns-in-LookUp-clause-err
returns-in-LookUp-clause-err g c = of_error c.reply_lookup.result
    (λ broken work is. subst (λ (w : Work). WorkBroken (admission c.args.config.now c.args.rule.now.patterns) w (g.R.Rows.seen c.args.names.now.rows) c.args.queue.now (g.R.Rows.seen c.reply_lookup.new.names.rows) c.args.queue.now) (sym (subst (IsTask work) c.in-LookUp.is is)) (broken (admission c.args.config.now c.args.rule.now.patterns) c.args.queue.now))
    c.reply_lookup.ensures.err

pub returns-in-AskLast-clause-err : goal.returns-in-AskLast-clause-err
returns-in-AskLast-clause-err g c = of_error c.reply_lasts.result
    (λ broken work is. subst (λ (w : Work). WorkBroken (admission c.args.config.now c.args.rule.now.patterns) w (g.R.Rows.seen c.args.names.now.rows) c.args.queue.now (g.R.Rows.seen c.reply_lasts.new.names.rows) c.args.queue.now) (sym (subst (IsTask work) c.in-AskLast.is is).0) (broken (admission c.args.config.now c.args.rule.now.patterns) c.args.queue.now))
    c.reply_lasts.ensures.err

use Rattle.std.proofs.Common.{◌∙◌, ap, sym, subst}
use Rattle.std.specs.Prelude.{IfOk, OnErr}
use Rattle.http_requests.specs.declared.http_call.Call.{Call}
use Rattle.point_put.specs.Admissions.{admission}
use Rattle.http_api.specs.CallWork.{call_route}
use Rattle.http_api.specs.HttpAnswers.{CallBroken, CallReplied}
use Rattle.http_api.proofs.http_answer.answer.Goals as goal

pub answer_routed-requires : goal.answer_routed-requires
answer_routed-requires g c = c.route-route.ensures ∙ ap call_route (sym c.call.ensures)

pub returns-clause-ok : goal.returns-clause-ok
returns-clause-ok g c = subst
    (λ (call : Call). IfOk c.answer_routed.result (λ reply. CallReplied (admission c.args.config.now c.args.rule.now.patterns) c.args.now call (g.R.Rows.seen c.args.names.now.rows) c.args.queue.now reply.items (g.R.Rows.seen c.answer_routed.new.names.rows) c.answer_routed.new.queue))
    c.call.ensures c.answer_routed.ensures.ok

pub returns-clause-err : goal.returns-clause-err
returns-clause-err g c = subst
    (λ (call : Call). OnErr c.answer_routed.result (CallBroken (admission c.args.config.now c.args.rule.now.patterns) c.args.now call (g.R.Rows.seen c.args.names.now.rows) c.args.queue.now (g.R.Rows.seen c.answer_routed.new.names.rows) c.answer_routed.new.queue))
    c.call.ensures c.answer_routed.ensures.err

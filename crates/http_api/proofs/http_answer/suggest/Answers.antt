use Rattle.std.proofs.Common.{◌≡◌, ◌∙◌, ap, List, ℕ, subst, IfOk}
use Rattle.cell_model.specs.declared.answers.Stored.{Stored}
use Rattle.cell_model.specs.Seen.{InEach}
use Rattle.http_assign.specs.SuggestNames.{SuggestAsked}
use Rattle.point_put.specs.Admissions.{Admission}
use Rattle.json_reply.specs.Texts.{names_text}
use Rattle.http_reply.specs.declared.reply_status.Status.TheVariants as status
use Rattle.http_reply.specs.ReplyBytes.{reply_bytes}
use Rattle.name_requests.specs.SuggestRequests.{suggestion}
use Rattle.http_api.specs.CallWork.Work.{Suggests}
use Rattle.http_api.specs.HttpAnswers.{WorkBroken, WorkReplied}
use Rattle.http_api.proofs.Answering.{in_error, suggestion_broken, suggestion_replied, suggestion_untold, with_bytes}
use Rattle.http_api.proofs.http_answer.suggest.Goals as goal

pub returns-in_err-found-clause-err : goal.returns-in_err-found-clause-err
returns-in_err-found-clause-err g c = in_error ((a : Admission) (queue : List Stored) → WorkBroken a (Suggests (suggestion c.args.request.now)) (g.R.Rows.seen c.args.names.now.rows) queue (g.R.Rows.seen c.suggest_names.new.names.rows) queue) c.from_residual.result
    (λ a queue. suggestion_broken a (suggestion c.args.request.now) (g.R.Rows.seen c.args.names.now.rows) (g.R.Rows.seen c.suggest_names.new.names.rows) queue c.in_err-found.ensures.since c.in_err-found.ensures.err)

pub returns-in-Ok-clause-ok : goal.returns-in-Ok-clause-ok
returns-in-Ok-clause-ok g c =
    let names = c.in_ok-found.found.items in
    let bytes = reply_bytes status.Ok c.args.closing (names_text names) in
    with_bytes (λ (b : List ℕ). (a : Admission) (queue : List Stored) → WorkReplied a (Suggests (suggestion c.args.request.now)) c.args.closing (g.R.Rows.seen c.args.names.now.rows) queue b (g.R.Rows.seen c.suggest_names.new.names.rows) queue)
    bytes c.told.result
    (c.told.ensures.ok bytes (subst (λ (body : List ℕ). IfOk c.reply.result (λ r. r.items ≡ reply_bytes status.Ok c.args.closing body)) (c.as_slice-in-Ok.ensures.value ∙ c.in-Ok.ensures ∙ ap names_text c.as_slice.ensures.value) c.reply.ensures))
    (λ a queue. suggestion_replied a (suggestion c.args.request.now) c.args.closing (g.R.Rows.seen c.args.names.now.rows) (g.R.Rows.seen c.suggest_names.new.names.rows) queue names c.in_ok-found.ensures.since
    (subst (λ (prefix : List ℕ). InEach (g.R.Rows.seen c.suggest_names.new.names.rows) (λ h. SuggestAsked h (g.R.Rows.seen c.args.names.now.rows).caller (g.R.Rows.seen c.args.names.now.rows).length c.args.request.now.kind prefix c.args.request.now.max c.in_ok-found.found.items (g.R.Rows.seen c.suggest_names.new.names.rows).length)) c.list.ensures c.in_ok-found.ensures.ok))

pub returns-in-Ok-clause-err : goal.returns-in-Ok-clause-err
returns-in-Ok-clause-err g c = in_error ((a : Admission) (queue : List Stored) → WorkBroken a (Suggests (suggestion c.args.request.now)) (g.R.Rows.seen c.args.names.now.rows) queue (g.R.Rows.seen c.suggest_names.new.names.rows) queue) c.told.result
    (λ a queue. suggestion_untold a (suggestion c.args.request.now) (g.R.Rows.seen c.args.names.now.rows) (g.R.Rows.seen c.suggest_names.new.names.rows) queue c.in_ok-found.found.items c.in_ok-found.ensures.since
    (subst (λ (prefix : List ℕ). InEach (g.R.Rows.seen c.suggest_names.new.names.rows) (λ h. SuggestAsked h (g.R.Rows.seen c.args.names.now.rows).caller (g.R.Rows.seen c.args.names.now.rows).length c.args.request.now.kind prefix c.args.request.now.max c.in_ok-found.found.items (g.R.Rows.seen c.suggest_names.new.names.rows).length)) c.list.ensures c.in_ok-found.ensures.ok))

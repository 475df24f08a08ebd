use Rattle.std.proofs.Common.{◌≡◌, ◌∙◌, ap, subst, List, ℕ}
use Rattle.std.specs.Prelude.{IfOk}
use Rattle.json_reply.specs.ErrorBodies.{error_body}
use Rattle.http_reply.specs.ReplyBytes.{reply_bytes}
use Rattle.http_reply.proofs.response.refusal.Goals as goal

pub returns : goal.returns
returns c =
    let told = c.deref.ensures.value ∙ c.in_ok-body.ensures ∙ ap (λ (code : ℕ). error_body code c.args.message.now) c.code.ensures in
    subst (λ (body : List ℕ). IfOk c.reply.result (λ reply. reply.items ≡ reply_bytes c.args.status c.args.closing body)) told c.reply.ensures

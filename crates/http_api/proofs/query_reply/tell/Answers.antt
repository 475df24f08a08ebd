use Rattle.std.proofs.Common.{List, ℕ, map, refl, sym, subst, Result}
use Rattle.http_reply.specs.ReplyBytes.{reply_bytes}
use Rattle.http_reply.specs.declared.reply_status.Status.TheVariants as status
use Rattle.json_reply.specs.Replies.{plain, text_of}
use Rattle.json_reply.specs.declared.reply.Reply.{Reply}
use Rattle.query_run.specs.AskedQueries.{plain_result}
use Rattle.metric_scan.specs.declared.fault.AskFault.{AskFault}
use Rattle.http_api.specs.HttpAnswers.{IsReplyTo, told}
use Rattle.http_api.proofs.Answering.{with_bytes}
use Rattle.http_api.proofs.query_reply.tell.Goals as goal

pub returns-in-Ok-clause-ok : goal.returns-in-Ok-clause-ok
returns-in-Ok-clause-ok c =
    let text = text_of (map plain c.in-Ok.reply.groups.items) in
    let bytes = reply_bytes status.Ok c.args.closing text in
    with_bytes (λ (b : List ℕ). IsReplyTo (plain_result c.args.asked) c.args.closing b) bytes c.told.result (c.told.ensures.ok bytes c.tell_groups.ensures)
    (subst (λ (asked : Result Reply AskFault). IsReplyTo (plain_result asked) c.args.closing bytes) (sym c.in-Ok.is) (told status.Ok text, refl, refl))

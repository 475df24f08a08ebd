use Rattle.http_reply.specs.ReplyBytes.{reply_bytes}
use Rattle.http_reply.specs.ReplyStatuses.{code_of}
use Rattle.http_reply.specs.declared.reply_status.Status.TheVariants as status
use Rattle.json_reply.specs.ErrorBodies.{error_body}
use Rattle.metric_scan.specs.AskFaultTexts.{ask_fault_text}
use Rattle.http_api.proofs.QueryTellings.{fault_told, not_stopped}
use Rattle.http_api.proofs.query_reply.tell_fault.Goals as goal

pub returns-in_default : goal.returns-in_default
returns-in_default c =
    let bytes = reply_bytes status.BadRequest c.args.closing (error_body (code_of status.BadRequest) (ask_fault_text c.args.fault.now)) in
    record {
      ok = fault_told c.args.fault.now c.args.closing c.told.result c.in_default.not-Stopped (λ given. c.tell_text.ensures.told (c.told.ensures.given given)) (c.told.ensures.ok bytes c.tell_text.ensures.text);
      stops = not_stopped c.args.fault.now c.told.result c.in_default.not-Stopped c.told.ensures.err;
    }

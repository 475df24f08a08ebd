-- What is told of a query.
use Rattle.std.proofs.Common.{◌≡◌, ◌∙◌, ℕ, Bool, false, refl, sym, ap, Result, Ok, Err, Vec, Global}
use Rattle.std.specs.Prelude.{◌≢◌, IfErr, IfOk, IsOk}
use Rattle.cell_model.specs.Stops as rows_stops
use Rattle.cell_model.specs.declared.answers.RowsFault.{RowsFault}
use Rattle.cell_model.specs.declared.answers.RowsFault.TheVariants as rows
use Rattle.http_reply.specs.ReplyBytes.{reply_bytes}
use Rattle.http_reply.specs.ReplyStatuses.{code_of}
use Rattle.http_reply.specs.declared.reply_status.Status.TheVariants as status
use Rattle.json_reply.specs.ErrorBodies.{error_body}
use Rattle.metric_scan.specs.AskFaultTexts.{ask_fault_text}
use Rattle.metric_scan.specs.AskFaults.{is_stop}
use Rattle.metric_scan.specs.declared.fault.AskFault.{AskFault}
use Rattle.metric_scan.specs.declared.fault.AskFault.TheVariants.{TooManyBuckets, BadFilter, Unknown, Duplicate, Overflow, OutOfMemory, Stopped}
use Rattle.http_api.specs.HttpAnswers.{IsReplyTo, QueryTells, told}

-- the text of a fault is told but for want of memory and a stop
fault_tells : (fault : AskFault) → fault ≢ Stopped → fault ≢ OutOfMemory → QueryTells (Err fault) (told status.BadRequest (error_body (code_of status.BadRequest) (ask_fault_text fault)))
fault_tells (TooManyBuckets count) stop want = refl
fault_tells (BadFilter index) stop want = refl
fault_tells (Unknown kind name) stop want = refl
fault_tells (Duplicate time a b) stop want = refl
fault_tells (Overflow time) stop want = refl
fault_tells OutOfMemory stop want = absurd (want refl)
fault_tells Stopped stop want = absurd (stop refl)

-- so the bytes of this text are the reply to the fault
pub fault_told : {E : Type 0} (fault : AskFault) (closing : Bool) (reply : Result (Vec ℕ Global) E) → fault ≢ Stopped → (IsOk reply → fault ≢ OutOfMemory)
    → IfOk reply (λ r. r.items ≡ reply_bytes status.BadRequest closing (error_body (code_of status.BadRequest) (ask_fault_text fault)))
    → IfOk reply (λ r. IsReplyTo (Err fault) closing r.items)
fault_told fault closing (Ok reply) stop want is = (told status.BadRequest (error_body (code_of status.BadRequest) (ask_fault_text fault)), fault_tells fault stop (want refl), is)
fault_told fault closing (Err failed) stop want is = tt

no_stop : (fault : AskFault) → fault ≢ Stopped → is_stop fault ≡ false
no_stop (TooManyBuckets count) stop = refl
no_stop (BadFilter index) stop = refl
no_stop (Unknown kind name) stop = refl
no_stop (Duplicate time a b) stop = refl
no_stop (Overflow time) stop = refl
no_stop OutOfMemory stop = refl
no_stop Stopped stop = absurd (stop refl)

-- want of memory is no stop, as the fault is none
pub not_stopped : {T : Type 0} (fault : AskFault) (reply : Result T RowsFault) → fault ≢ Stopped → IfErr reply (λ failed. failed ≡ rows.OutOfMemory) → IfErr reply (λ failed. rows_stops.is_stop failed ≡ is_stop fault)
not_stopped fault (Ok reply) stop is = tt
not_stopped fault (Err failed) stop is = ap rows_stops.is_stop is ∙ sym (no_stop fault stop)

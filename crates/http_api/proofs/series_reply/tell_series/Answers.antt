use Rattle.std.proofs.Common.{◌≡◌, IfOk, List, ℕ, refl, sym, subst, Result, Vec, Global}
use Rattle.http_reply.specs.ReplyBytes.{reply_bytes}
use Rattle.http_reply.specs.declared.reply_status.Status.TheVariants as status
use Rattle.series_meta.specs.declared.meta_faults.MetaFault.{MetaFault}
use Rattle.http_series.specs.SeriesAnswers.{plain_text}
use Rattle.http_api.specs.HttpAnswers.{IsSeriesReply, told}
use Rattle.http_api.proofs.Answering.{with_bytes}
use Rattle.http_api.proofs.SeriesTellings.{series_stops}
use Rattle.http_api.proofs.series_reply.tell_series.Goals as goal

pub returns-in-Ok-clause-ok : goal.returns-in-Ok-clause-ok
returns-in-Ok-clause-ok c =
    let text = c.in-Ok.text.items in
    let bytes = reply_bytes status.Ok c.args.closing text in
    with_bytes (λ (b : List ℕ). IsSeriesReply (plain_text c.args.answer) c.args.closing b) bytes c.told.result (c.told.ensures.ok bytes (subst (λ (t : List ℕ). IfOk c.reply.result (λ r. r.items ≡ reply_bytes status.Ok c.args.closing t)) c.as_slice.ensures.value c.reply.ensures))
    (subst (λ (answer : Result (Vec ℕ Global) MetaFault). IsSeriesReply (plain_text answer) c.args.closing bytes) (sym c.in-Ok.is) (told status.Ok text, refl, refl))

use Rattle.std.proofs.Common.{List, ℕ, Vec, Global}
use Rattle.cell_model.specs.declared.answers.Stored.{Stored}
use Rattle.point_put.specs.Admissions.{Admission}
use Rattle.http_series.specs.SeriesAnswers.{plain_text}
use Rattle.http_series.specs.SeriesRequests.{lookup_asked}
use Rattle.http_api.specs.CallWork.Work.{LooksUp}
use Rattle.http_api.specs.HttpAnswers.{IsSeriesReply, WorkBroken, WorkReplied}
use Rattle.http_api.proofs.Answering.{in_error, of_reply, lookup_replied, lookup_untold}
use Rattle.http_api.proofs.series_reply.reply_lookup.Goals as goal

pub returns-clause-ok : goal.returns-clause-ok
returns-clause-ok g c =
    let old = g.R.Rows.seen c.args.names.now.rows in
    let new = g.R.Rows.seen c.answer_lookup-answer.new.names.rows in
    of_reply (λ (reply : Vec ℕ Global). IsSeriesReply (plain_text c.answer_lookup-answer.result) c.args.closing reply.items)
    (λ (reply : Vec ℕ Global). (a : Admission) (queue : List Stored) → WorkReplied a (LooksUp (lookup_asked c.args.request.now)) c.args.closing (g.R.Rows.seen c.args.names.now.rows) queue reply.items (g.R.Rows.seen c.answer_lookup-answer.new.names.rows) queue)
    c.tell_series.result (λ reply is a queue. lookup_replied a (lookup_asked c.args.request.now) c.args.closing old new queue (plain_text c.answer_lookup-answer.result) reply.items c.answer_lookup-answer.ensures.tells is) c.tell_series.ensures.ok

pub returns-clause-err : goal.returns-clause-err
returns-clause-err g c = in_error ((a : Admission) (queue : List Stored) → WorkBroken a (LooksUp (lookup_asked c.args.request.now)) (g.R.Rows.seen c.args.names.now.rows) queue (g.R.Rows.seen c.answer_lookup-answer.new.names.rows) queue) c.tell_series.result
    (λ a queue. lookup_untold a (lookup_asked c.args.request.now) (g.R.Rows.seen c.args.names.now.rows) (g.R.Rows.seen c.answer_lookup-answer.new.names.rows) queue (plain_text c.answer_lookup-answer.result) c.answer_lookup-answer.ensures.tells)

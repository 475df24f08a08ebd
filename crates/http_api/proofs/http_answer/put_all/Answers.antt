use Rattle.std.proofs.Common.{List, ℕ, map, sym, subst, Vec, Global}
use Rattle.std.specs.Prelude.{Option}
use Rattle.serde_json.specs.View.{view}
use Rattle.point_put.specs.Admissions.{admission}
use Rattle.http_put.specs.PutElements.{ElementsPut, texts_of}
use Rattle.http_reply.specs.PutReplies.{put_body, put_status}
use Rattle.http_reply.specs.ReplyBytes.{reply_bytes}
use Rattle.http_api.specs.CallWork.{PutFlags}
use Rattle.http_api.specs.CallWork.Work.{Puts}
use Rattle.http_api.specs.HttpAnswers.{WorkBroken, WorkReplied}
use Rattle.http_api.proofs.Answering.{elements_replied, elements_untold, in_error, with_bytes}
use Rattle.http_api.proofs.http_answer.put_all.Goals as goal

pub returns-clause-ok : goal.returns-clause-ok
returns-clause-ok g c =
    let flags : PutFlags = record { details = c.args.details; summary = c.args.summary } in
    let outs = texts_of c.as_slice.result.now in
    let bytes = reply_bytes (put_status flags.details flags.summary outs) c.args.closing (put_body flags.details flags.summary outs) in
    with_bytes (λ (b : List ℕ). WorkReplied (admission c.args.config.now c.args.rule.now.patterns) (Puts flags (map view c.args.elements.now)) c.args.closing (g.R.Rows.seen c.args.names.now.rows) c.args.queue.now b (g.R.Rows.seen c.put_elements.new.names.rows) c.put_elements.new.queue)
    bytes c.told.result (c.told.ensures.ok bytes c.put_reply.ensures)
    (elements_replied (admission c.args.config.now c.args.rule.now.patterns) flags (map view c.args.elements.now) c.args.closing (g.R.Rows.seen c.args.names.now.rows) (g.R.Rows.seen c.put_elements.new.names.rows) c.args.queue.now c.put_elements.new.queue outs c.in_ok-outcomes.ensures.since
    (subst (λ (items : List (Option (Vec ℕ Global))). ElementsPut (admission c.args.config.now c.args.rule.now.patterns) (map view c.args.elements.now) (g.R.Rows.seen c.args.names.now.rows) c.args.queue.now (texts_of items) (g.R.Rows.seen c.put_elements.new.names.rows) c.put_elements.new.queue) (sym c.as_slice.ensures.value) c.in_ok-outcomes.ensures.ok))

pub returns-clause-err : goal.returns-clause-err
returns-clause-err g c =
    let flags : PutFlags = record { details = c.args.details; summary = c.args.summary } in
    let outs = texts_of c.as_slice.result.now in
    in_error (WorkBroken (admission c.args.config.now c.args.rule.now.patterns) (Puts flags (map view c.args.elements.now)) (g.R.Rows.seen c.args.names.now.rows) c.args.queue.now (g.R.Rows.seen c.put_elements.new.names.rows) c.put_elements.new.queue) c.told.result
    (elements_untold (admission c.args.config.now c.args.rule.now.patterns) flags (map view c.args.elements.now) (g.R.Rows.seen c.args.names.now.rows) (g.R.Rows.seen c.put_elements.new.names.rows) c.args.queue.now c.put_elements.new.queue outs c.in_ok-outcomes.ensures.since
    (subst (λ (items : List (Option (Vec ℕ Global))). ElementsPut (admission c.args.config.now c.args.rule.now.patterns) (map view c.args.elements.now) (g.R.Rows.seen c.args.names.now.rows) c.args.queue.now (texts_of items) (g.R.Rows.seen c.put_elements.new.names.rows) c.put_elements.new.queue) (sym c.as_slice.ensures.value) c.in_ok-outcomes.ensures.ok))

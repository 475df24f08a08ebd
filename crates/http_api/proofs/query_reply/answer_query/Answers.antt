use Rattle.std.proofs.Common.{List, ℕ, Vec, Global}
use Rattle.cell_model.specs.declared.answers.Stored.{Stored}
use Rattle.point_put.specs.Admissions.{Admission}
use Rattle.query_run.specs.AskedQueries.{plain_result}
use Rattle.http_api.specs.CallWork.Work.{Asks}
use Rattle.http_api.specs.HttpAnswers.{IsReplyTo, WorkBroken, WorkReplied}
use Rattle.http_api.proofs.Answering.{in_error, of_reply, query_replied, query_untold}
use Rattle.http_api.proofs.query_reply.answer_query.Goals as goal

pub returns-clause-ok : goal.returns-clause-ok
returns-clause-ok g c =
    let old = g.R.Rows.seen c.args.names.now.rows in
    let new = g.R.Rows.seen c.ask-asked.new.names.rows in
    of_reply (λ (reply : Vec ℕ Global). IsReplyTo (plain_result c.ask-asked.result) c.args.closing reply.items)
    (λ (reply : Vec ℕ Global). (a : Admission) (queue : List Stored) → WorkReplied a (Asks c.args.query.now) c.args.closing (g.R.Rows.seen c.args.names.now.rows) queue reply.items (g.R.Rows.seen c.ask-asked.new.names.rows) queue)
    c.tell.result (λ reply is a queue. query_replied a c.args.query.now c.args.closing old new queue c.ask-asked.result reply.items c.ask-asked.ensures.says is) c.tell.ensures.ok

pub returns-clause-err : goal.returns-clause-err
returns-clause-err g c = in_error ((a : Admission) (queue : List Stored) → WorkBroken a (Asks c.args.query.now) (g.R.Rows.seen c.args.names.now.rows) queue (g.R.Rows.seen c.ask-asked.new.names.rows) queue) c.tell.result
    (λ a queue. query_untold a c.args.query.now (g.R.Rows.seen c.args.names.now.rows) (g.R.Rows.seen c.ask-asked.new.names.rows) queue c.ask-asked.result c.ask-asked.ensures.says)

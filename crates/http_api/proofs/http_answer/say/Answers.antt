use Rattle.std.proofs.Common.{List, ℕ}
use Rattle.cell_model.specs.declared.answers.Stored.{Stored}
use Rattle.cell_model.specs.Seen.{Seen}
use Rattle.point_put.specs.Admissions.{Admission}
use Rattle.http_reply.specs.ReplyBytes.{reply_bytes}
use Rattle.http_api.specs.CallWork.Work.{Says}
use Rattle.http_api.specs.HttpAnswers.{WorkReplied}
use Rattle.http_api.proofs.Answering.{said, with_bytes}
use Rattle.http_api.proofs.http_answer.say.Goals as goal

pub returns-clause-ok : goal.returns-clause-ok
returns-clause-ok c = with_bytes (λ (bytes : List ℕ). (a : Admission) (seen : Seen) (queue : List Stored) → WorkReplied a (Says c.args.status c.args.body.now) c.args.closing seen queue bytes seen queue)
    (reply_bytes c.args.status c.args.closing c.args.body.now) c.told.result (c.told.ensures.ok (reply_bytes c.args.status c.args.closing c.args.body.now) c.reply.ensures)
    (λ a seen queue. said a c.args.status c.args.body.now c.args.closing seen queue)

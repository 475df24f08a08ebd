use Rattle.point_put.specs.Admissions.{admission}
use Rattle.http_api.specs.CallWork.{work_of}
use Rattle.http_api.proofs.Answering.{nothing, of_error}
use Rattle.http_api.proofs.http_answer.answer_task.Goals as goal

pub returns-in-Ok-clause-err : goal.returns-in-Ok-clause-err
returns-in-Ok-clause-err g c = of_error c.perform.result (λ broken. broken (work_of c.args.now c.args.call.now) c.in-Ok.ensures) c.perform.ensures.err

pub returns-in-Err-clause-err : goal.returns-in-Err-clause-err
returns-in-Err-clause-err g c = nothing (admission c.args.config.now c.args.rule.now.patterns) (work_of c.args.now c.args.call.now) (g.R.Rows.seen c.args.names.now.rows) c.args.queue.now

use Rattle.stdio_job.proofs.Fronts.{front_first, then_err}
use Rattle.stdio_job.proofs.publication.give_both.Goals as goal

pub returns-in-Ok-clause-err : goal.returns-in-Ok-clause-err
returns-in-Ok-clause-err g c = then_err c.give_all-in-Ok.result _ _ _ c.args.first.now c.args.second.now c.in-Ok.ensures.ok c.give_all-in-Ok.ensures.err

pub returns-in-Err-clause-err : goal.returns-in-Err-clause-err
returns-in-Err-clause-err g c = front_first _ _ c.args.first.now c.args.second.now c.in-Err.ensures.err

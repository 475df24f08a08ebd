use Rattle.serve_job.proofs.JobLemmas.{finish_failed, finish_none, finish_whole}
use Rattle.serve_job.proofs.fleet_job.print_last.Goals as goal

pub returns-in_default-clause-prints : goal.returns-in_default-clause-prints
returns-in_default-clause-prints g c = finish_none _ _ _ _ _ _ c.requires.more

pub returns-in-Ok-give-clause-prints : goal.returns-in-Ok-give-clause-prints
returns-in-Ok-give-clause-prints g c = finish_whole _ _ _ _ _ _ _ c.in-Ok.lines c.requires.more c.in-Ok.ensures c.in-Ok-give.ensures.ok

pub returns-clause-prints : goal.returns-clause-prints
returns-clause-prints g c = finish_failed _ _ _ _ _ _ _ c.in-Ok.lines c.requires.more c.in-Ok.ensures c.in-Err.ensures.err

use Rattle.std.proofs.Common.{rules, sym, ap, ◌∙◌}
use Rattle.serve_job.specs.FleetRuns.{has_no_more}
use Rattle.serve_job.proofs.JobLemmas.{finish_early, finish_kept, finish_none, no_more}
use Rattle.serve_job.proofs.fleet_job.finish.Goals as goal

pub print_last-requires-clause-more : goal.print_last-requires-clause-more
print_last-requires-clause-more g c = no_more c.args.end c.in-Closed.is

pub print_last-requires-clause-sound : goal.print_last-requires-clause-sound
print_last-requires-clause-sound g c = c.requires.sound c.in-Some.rows (λ memory. let t = sym (ap has_no_more memory) ∙ no_more c.args.end c.in-Closed.is in absurd cc) c.in-Some.is

pub returns-in-Some-clause-prints : goal.returns-in-Some-clause-prints
returns-in-Some-clause-prints g c = λ left kept. finish_kept c.args.end _ _ _ _ _ _ _ c.args.rows c.in-Some.rows left (no_more c.args.end c.in-Closed.is) c.in-Some.is kept c.print_last.ensures.prints

pub returns-in-None-clause-prints : goal.returns-in-None-clause-prints
returns-in-None-clause-prints g c = λ left kept. finish_none _ _ _ _ _ _ (no_more c.args.end c.in-Closed.is)

pub returns-in_default-clause-prints : goal.returns-in_default-clause-prints
returns-in_default-clause-prints g c = λ left kept. finish_early _ _ _ _ _ _ (search rules)

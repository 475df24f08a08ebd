use Rattle.std.specs.Prelude.{Some}
use Rattle.point_put.specs.Admissions.{admission}
use Rattle.stdio_job.proofs.Alone.{none_alone}
use Rattle.stdio_job.proofs.published_connection.serve_published.Goals as goal

pub returns-in_default-clause-served : goal.returns-in_default-clause-served
returns-in_default-clause-served g c = none_alone c.args.widths (admission c.args.config.now c.args.rule.now.patterns) (Some c.args.prefix.now) _ _ c.no_memory.ensures.served

pub returns-in_default-new-clause-served : goal.returns-in_default-new-clause-served
returns-in_default-new-clause-served g c = none_alone c.args.widths (admission c.args.config.now c.args.rule.now.patterns) (Some c.args.prefix.now) _ _ c.no_memory-in_default-new.ensures.served

pub returns-in_default-new-2-clause-served : goal.returns-in_default-new-2-clause-served
returns-in_default-new-2-clause-served g c = none_alone c.args.widths (admission c.args.config.now c.args.rule.now.patterns) (Some c.args.prefix.now) _ _ c.no_memory-in_default-new-2.ensures.served

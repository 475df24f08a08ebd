use Rattle.std.proofs.Common.{◌≡◌, ◌≤◌, subst}
use Rattle.tsd_io.specs.Causes.{Rose}
use Rattle.import_job.specs.declared.import_end.ImportEnd.TheVariants.{Stopped}
use Rattle.import_job.proofs.Passes.{not_begun}
use Rattle.import_job.proofs.import_job.import_alone.Goals as goal

pub returns-in-Ok-clause-stops_later : goal.returns-in-Ok-clause-stops_later
returns-in-Ok-clause-stops_later g c = subst (λ x. g.H.Halt.stops x ≤ g.H.Halt.stops c.import_into.result.halt) c.in-Ok.ensures.halt c.import_into.ensures.stops_later

pub returns-in-Ok-clause-stopped : goal.returns-in-Ok-clause-stopped
returns-in-Ok-clause-stopped g c = subst (λ x. c.import_into.result.end ≡ Stopped → Rose (g.H.Halt.stops x) (g.H.Halt.stops c.import_into.result.halt)) c.in-Ok.ensures.halt c.import_into.ensures.stopped

pub returns-in-Err-clause-imports : goal.returns-in-Err-clause-imports
returns-in-Err-clause-imports g c = not_begun c.args.widths c.args.compact (g.S.Source.taken c.args.source.now) (g.S.Source.left c.args.source.now) (g.K.Sink.held c.args.sink.now)

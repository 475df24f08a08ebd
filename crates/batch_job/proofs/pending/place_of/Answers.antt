use Rattle.std.proofs.Common.{sym}
use Rattle.batch_job.proofs.HeldSeries.{found_stands, no_values}
use Rattle.batch_job.proofs.pending.place_of.Goals as goal

pub returns-in-None : goal.returns-in-None
returns-in-None c = no_values c.args.series.now c.args.all.now.entries (sym c.in-None.ensures.value)

pub returns-in-Some : goal.returns-in-Some
returns-in-Some c = found_stands c.args.all.now.entries c.in-Some.found.0 c.args.series.now c.in-Some.found.1.now c.in-Some.found.2.now c.in-Some.ensures.entry (sym c.in-Some.ensures.key)

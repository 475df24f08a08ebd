use Rattle.listing_job.specs.ListingJobs.{Dumped}
use Rattle.listing_job.proofs.GivenTold.{gives_nothing}
use Rattle.listing_job.proofs.dump_job.dump_read.Goals as goal

pub returns-in-Err-clause-gives : goal.returns-in-Err-clause-gives
returns-in-Err-clause-gives g c = gives_nothing (Dumped c.args.listed) (g.K.Sink.held c.args.sink.now)

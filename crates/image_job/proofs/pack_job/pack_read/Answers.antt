use Rattle.listing_job.proofs.CallerLemmas.{gives_nothing}
use Rattle.image_job.specs.ImageJobs.{Packed}
use Rattle.image_job.proofs.pack_job.pack_read.Goals as goal

pub returns-in-Err-clause-gives : goal.returns-in-Err-clause-gives
returns-in-Err-clause-gives g c = gives_nothing (Packed c.args.listed) (g.K.Sink.held c.args.sink.now)

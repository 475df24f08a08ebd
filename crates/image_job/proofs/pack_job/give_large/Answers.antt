use Rattle.std.proofs.Common.{◌≡◌}
use Rattle.listing_job.specs.ListingJobs.{Told}
use Rattle.listing_job.specs.Shows.{told_of}
use Rattle.listing_job.proofs.CallerLemmas.{gives_nothing}
use Rattle.image_job.specs.ImageTexts.{large_told}
use Rattle.image_job.proofs.JobTold.{shows_so}
use Rattle.image_job.proofs.pack_job.give_large.Goals as goal

pub returns-in-Ok-clause-gives : goal.returns-in-Ok-clause-gives
returns-in-Ok-clause-gives g c =
    let k = g.K.Sink in
    shows_so (told_of c.in-Ok.shown) (large_told c.args.cell) (k.held c.args.sink.now) (k.held c.give_shown.new.sink) c.give_shown.result c.in-Ok.ensures c.give_shown.ensures.gives

pub returns-in-Err-clause-gives : goal.returns-in-Err-clause-gives
returns-in-Err-clause-gives g c = gives_nothing (λ (told : Told). told ≡ large_told c.args.cell) (g.K.Sink.held c.args.sink.now)

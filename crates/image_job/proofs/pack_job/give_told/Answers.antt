use Rattle.std.proofs.Common.{◌∙◌, inl, subst, sym}
use Rattle.listing_job.specs.Shows.{ShowsFault, told_of}
use Rattle.listing_job.proofs.CallerLemmas.{gives_so}
use Rattle.image_job.specs.ImageJobs.{Packed}
use Rattle.image_job.proofs.JobTold.{fault_packed}
use Rattle.image_job.proofs.pack_job.give_told.Goals as goal

pub returns-in-Some-clause-gives : goal.returns-in-Some-clause-gives
returns-in-Some-clause-gives g c =
    let k = g.K.Sink in
    let read = c.args.listed in
    let shows = subst (ShowsFault read) c.in-Some.is c.requires.first in
    gives_so (Packed read) (k.held c.args.sink.now) (k.held c.give_shown.new.sink) (told_of c.in-Some.shown) c.give_shown.result (inl shows)
    (λ told is. fault_packed read shows.0 shows.1 shows.2 told is ∙ sym shows.3) c.give_shown.ensures.gives

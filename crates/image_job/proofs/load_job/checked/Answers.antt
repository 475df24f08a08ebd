use Rattle.std.proofs.Common.{inr, subst}
use Rattle.listing_check.specs.Reports.{read_of}
use Rattle.listing_job.specs.Shows.{told_of}
use Rattle.image_job.specs.ImageJobs.{ShowsFlaw}
use Rattle.image_job.specs.ImageTexts.{flaw_told}
use Rattle.image_job.proofs.JobTold.{shows_so}
use Rattle.image_job.proofs.load_job.checked.Goals as goal

pub returns-in-Ok-Some-clause-checks : goal.returns-in-Ok-Some-clause-checks
returns-in-Ok-Some-clause-checks g c =
    let k = g.K.Sink in
    let shows = subst (ShowsFlaw (read_of c.args.listing)) c.in-Ok-Some.field-0-is c.in-Ok-Some.ensures.shows in
    inr (
      shows.0,
      shows.1,
      shows.2,
      shows_so (told_of c.in-Ok-Some.shown) (flaw_told shows.0) (k.held c.args.sink.now) (k.held c.give_shown.new.sink) c.give_shown.result shows.3 c.give_shown.ensures.gives,
    )

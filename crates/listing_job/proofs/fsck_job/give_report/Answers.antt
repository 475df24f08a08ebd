use Rattle.listing_job.specs.ListingJobs.{Checked}
use Rattle.listing_job.specs.Shows.{told_of}
use Rattle.listing_job.proofs.GivenTold.{gives_nothing, gives_so}
use Rattle.listing_job.proofs.OneText.{checked_once}
use Rattle.listing_job.proofs.fsck_job.give_report.Goals as goal

pub returns-in-Ok-clause-gives : goal.returns-in-Ok-clause-gives
returns-in-Ok-clause-gives g c =
    let k = g.K.Sink in
    let read = c.args.listed.now in
    let shown = told_of c.in-Ok.shown in
    gives_so (Checked read) (k.held c.args.sink.now) (k.held c.give_shown.new.sink) shown c.give_shown.result c.in-Ok.ensures (λ told is. checked_once read told shown is c.in-Ok.ensures) c.give_shown.ensures.gives

pub returns-in-Err-clause-gives : goal.returns-in-Err-clause-gives
returns-in-Err-clause-gives g c = gives_nothing (Checked c.args.listed.now) (g.K.Sink.held c.args.sink.now)

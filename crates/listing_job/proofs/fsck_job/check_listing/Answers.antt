use Rattle.listing_job.specs.ListingJobs.{Checked}
use Rattle.listing_job.proofs.GivenTold.{over_read}
use Rattle.listing_job.proofs.fsck_job.check_listing.Goals as goal

pub returns-in-Ok-clause-over : goal.returns-in-Ok-clause-over
returns-in-Ok-clause-over g c =
    let s = g.S.Source in
    let k = g.K.Sink in
    over_read Checked c.args.widths (s.taken c.args.source.now) (s.taken c.read_listing.new.source) (s.left c.args.source.now) (s.left c.read_listing.new.source) (k.held c.args.sink.now) (k.held c.give_report.new.sink)
    c.in-Ok.listed c.give_report.result c.in-Ok.ensures.reads c.give_report.ensures.gives

use Rattle.listing_job.proofs.CallerLemmas.{over_read}
use Rattle.image_job.specs.ImageJobs.{Packed}
use Rattle.image_job.proofs.pack_job.pack_listing.Goals as goal

pub returns-in-Ok-clause-over : goal.returns-in-Ok-clause-over
returns-in-Ok-clause-over g c =
    let s = g.S.Source in
    let k = g.K.Sink in
    over_read Packed c.args.widths (s.taken c.args.source.now) (s.taken c.read_listing.new.source) (s.left c.args.source.now) (s.left c.read_listing.new.source) (k.held c.args.sink.now) (k.held c.pack_read.new.sink)
    c.in-Ok.listed c.pack_read.result c.in-Ok.ensures.reads c.pack_read.ensures.gives

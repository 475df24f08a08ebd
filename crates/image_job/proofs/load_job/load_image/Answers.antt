use Rattle.image_job.proofs.JobTold.{loads_checked}
use Rattle.image_job.proofs.load_job.load_image.Goals as goal

pub returns-in-Ok-clause-loads : goal.returns-in-Ok-clause-loads
returns-in-Ok-clause-loads g c =
    let s = g.S.Source in
    let k = g.K.Sink in
    loads_checked (s.taken c.args.source.now) (s.taken c.take_image.new.source) (s.left c.args.source.now) (s.left c.take_image.new.source) (k.held c.args.sink.now) (k.held c.checked.new.sink) c.in-Ok.listing c.checked.result c.in-Ok.ensures.takes c.checked.ensures.checks

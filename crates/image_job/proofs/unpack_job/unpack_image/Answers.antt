use Rattle.image_job.proofs.JobTold.{over_loaded, over_none}
use Rattle.image_job.proofs.unpack_job.unpack_image.Goals as goal

pub returns-in-Ok-clause-over : goal.returns-in-Ok-clause-over
returns-in-Ok-clause-over g c =
    let s = g.S.Source in
    let k = g.K.Sink in
    over_loaded (s.taken c.args.source.now) (s.taken c.load_image.new.source) (s.left c.args.source.now) (s.left c.load_image.new.source) (k.held c.args.sink.now) (k.held c.load_image.new.sink) (k.held c.unpack.new.sink) c.unpack.result c.in-Ok.listing c.in-Ok.ensures.loads
    c.unpack.ensures.gives

pub returns-in-Err-clause-over : goal.returns-in-Err-clause-over
returns-in-Err-clause-over g c =
    let s = g.S.Source in
    let k = g.K.Sink in
    over_none (s.taken c.args.source.now) (s.taken c.load_image.new.source) (s.left c.args.source.now) (s.left c.load_image.new.source) (k.held c.args.sink.now) (k.held c.load_image.new.sink) c.in-Err.end c.in-Err.ensures.loads

use Rattle.std.proofs.Common.{◌≡◌, subst}
use Rattle.tsd_base.specs.Points.{data_point, point_of}
use Rattle.batch_job.specs.Judgements.{judged_of}
use Rattle.batch_job.specs.PointLines.{judged_point}
use Rattle.batch_job.proofs.AddedPoints.{taken_is}
use Rattle.batch_job.proofs.pending.Gathered.add_read.Goals as goal

pub add_point-requires-clause-known : goal.add_point-requires-clause-known
add_point-requires-clause-known g c =
    let p = data_point c.in-Ok-Taken.point in
    c.requires.known p (taken_is (point_of c.args.text.now) p (subst (λ j. judged_of j ≡ judged_point (point_of c.args.text.now)) c.in-Ok-Taken.field-0-is c.in-Ok-Taken.ensures))

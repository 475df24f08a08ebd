-- What a judgement of a text says.
use Rattle.tsd_base.specs.Points.{data_point}
use Rattle.batch_job.specs.declared.point_line.Judgement.{Judgement}
use Rattle.batch_job.specs.declared.point_line.Judgement.TheVariants as judgement
use Rattle.batch_job.specs.PointLines.{Judged}
use Rattle.point_lines.specs.LinePoints.Judged.{Taken, Refused}

abbrev pub judged_of : Judgement → Judged
judged_of (judgement.Taken point) = Taken (data_point point)
judged_of (judgement.Refused text) = Refused text.items

use Rattle.http_series.specs.SeriesReplies.{point_text}
use Rattle.http_series.proofs.PointLists.{one_behind}
use Rattle.http_series.proofs.last_answers.add_text.Goals as goal

pub returns : goal.returns
returns c =
    one_behind c.args.points.now.items c.extend_from_slice.new.self.items c.write_point.new.out.items (point_text c.args.one.now.metric c.args.one.now.tags c.args.last.now) c.in_ok-extend_from_slice.ensures.items c.in_ok-write_point.ensures

use Rattle.std.proofs.Common.{ap, codes}
use Rattle.http_series.specs.SeriesReplies.{tsuid_text}
use Rattle.http_series.proofs.PointLists.{two_written}
use Rattle.http_series.proofs.series_objects.write_identifier.Goals as goal

pub returns : goal.returns
returns c =
    two_written c.args.out.now.items c.extend_from_slice.new.self.items c.write_tsuid.new.out.items (codes ",\"tsuid\":") (tsuid_text c.args.tsuid.now) (tsuid_text c.list.result.now) c.in_ok-extend_from_slice.ensures.items c.in_ok-write_tsuid.ensures (ap tsuid_text c.list.ensures)

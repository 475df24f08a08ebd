use Rattle.std.proofs.Common.{codes, refl}
use Rattle.std.specs.Prelude.{decimal}
use Rattle.http_series.proofs.PointLists.{two_written}
use Rattle.http_series.proofs.series_objects.write_time.Goals as goal

pub returns : goal.returns
returns c =
    two_written c.args.out.now.items c.extend_from_slice.new.self.items c.write_number.new.out.items (codes ",\"timestamp\":") (decimal c.args.last.now.time) (decimal c.args.last.now.time) c.in_ok-extend_from_slice.ensures.items c.in_ok-write_number.ensures.ok refl

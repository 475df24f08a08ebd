use Rattle.std.proofs.Common.{codes, refl}
use Rattle.std.specs.Prelude.{decimal}
use Rattle.http_series.proofs.PointLists.{two_written}
use Rattle.http_series.proofs.series_objects.write_count.Goals as goal

pub returns : goal.returns
returns c =
    two_written c.args.out.now.items c.extend_from_slice.new.self.items c.write_number.new.out.items (codes "{\"count\":") (decimal c.args.count) (decimal c.args.count) c.in_ok-extend_from_slice.ensures.items c.in_ok-write_number.ensures.ok refl

use Rattle.std.proofs.Common.{◌≡◌, rules, codes, ap}
use Rattle.std.specs.Prelude.{decimal}
use Rattle.http_series.proofs.PointLists.{two_written}
use Rattle.http_series.proofs.lookup_answer.write_limit.Goals as goal

pub returns : goal.returns
returns c =
    let same : c.from.result ≡ c.args.limit = search rules in
    two_written c.args.out.now.items c.extend_from_slice.new.self.items c.write_number.new.out.items (codes "{\"limit\":") (decimal c.args.limit) (decimal c.from.result) c.in_ok-extend_from_slice.ensures.items c.in_ok-write_number.ensures.ok (ap decimal same)

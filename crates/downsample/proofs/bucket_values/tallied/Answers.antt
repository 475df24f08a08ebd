use Rattle.std.proofs.Common.{pos, get_or, FitsSigned, w64, rules, arith}
use Rattle.std.proofs.lemmas.Int.{to_z-of_z}
use Rattle.downsample.proofs.Tallying.{counts_next}
use Rattle.downsample.proofs.bucket_values.tallied.Goals as goal

pub loop-point-preserved : goal.loop-point-preserved
loop-point-preserved c =
    let fit : FitsSigned w64 (get_or c.args.points.now c.loop-point.point-index (0, pos 0)).1 = search rules in
    record {
      counts = counts_next c.args.points.now c.loop-point.point-index (0, pos 0) _ c.loop-point.tally c.add.new.self c.loop-point-test.true (to_z-of_z w64 _ fit) c.loop-point.invariant.counts c.add.ensures.adds;
      within = omega (arith, c.loop-point-test.true);
    }

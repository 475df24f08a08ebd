use Rattle.std.proofs.Common.{arith}
use Rattle.cell_solo.proofs.Placing.{told_next}
use Rattle.cell_solo.proofs.turn_bytes.write_tags.Goals as goal

pub loop-pair-preserved : goal.loop-pair-preserved
loop-pair-preserved c =
    let first = c.write_name.ensures in
    let second = c.write_name-in-loop-pair.ensures in
    let before = c.loop-pair.invariant in
    record {
      items = told_next c.args.pairs.now c.loop-pair.pair-index c.pair-item.result _ _ _ _ c.loop-pair-test.true c.pair-item.is before.items first.items second.items;
      len = omega (arith, first.len, second.len, before.len);
      capacity = omega (arith, first.capacity, second.capacity, before.capacity);
      within = omega (arith, c.loop-pair-test.true);
    }

use Rattle.std.proofs.Common.{arith}
use Rattle.series_meta.proofs.TagPairs.{above_place}
use Rattle.series_meta.proofs.series_row.place_of.Goals as goal

pub returns-then-pair-id : goal.returns-then-pair-id
returns-then-pair-id c = record {
  within = omega (arith, c.loop-at-test.true);
  before = c.loop-at.invariant;
  behind = above_place c.args.pairs.now c.args.id c.loop-at.at c.requires.rising c.if-pair-id.true;
}

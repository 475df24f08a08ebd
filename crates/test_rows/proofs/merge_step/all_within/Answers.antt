use Rattle.std.proofs.Common.{refl, Contains}
use Rattle.qual_codec.specs.declared.cells.Dot.{Dot}
use Rattle.test_rows.proofs.Allowing.{next_too, of_all}
use Rattle.test_rows.proofs.merge_step.all_within.Goals as goal

pub loop-dot-preserved : goal.loop-dot-preserved
loop-dot-preserved c = next_too (λ (d : Dot). Contains c.args.high.now d) c.args.low.now c.loop-dot.dot-index _ c.loop-dot-test.true c.loop-dot.invariant (c.if-not-contains.ensures refl)

pub returns : goal.returns
returns c = λ yes d has. of_all (λ (d : Dot). Contains c.args.high.now d) c.args.low.now c.loop-dot.dot-index c.loop-dot-test.false c.loop-dot.invariant d has

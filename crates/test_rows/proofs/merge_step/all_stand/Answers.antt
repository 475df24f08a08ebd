use Rattle.std.proofs.Common.{refl}
use Rattle.test_rows.specs.Merges.{StandsIn}
use Rattle.test_rows.proofs.Allowing.{next_too, of_all}
use Rattle.test_rows.proofs.merge_step.all_stand.Goals as goal

pub loop-dot-preserved : goal.loop-dot-preserved
loop-dot-preserved c = next_too (StandsIn c.args.facts.now c.args.row.now) c.args.dots.now c.loop-dot.dot-index _ c.loop-dot-test.true c.loop-dot.invariant (c.if-not-stands.ensures refl)

pub returns : goal.returns
returns c = λ yes d has. of_all (StandsIn c.args.facts.now c.args.row.now) c.args.dots.now c.loop-dot.dot-index c.loop-dot-test.false c.loop-dot.invariant d has

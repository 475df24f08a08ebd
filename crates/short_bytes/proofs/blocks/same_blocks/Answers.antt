use Rattle.std.proofs.Common.{◌∙◌}
use Rattle.std.specs.Prelude.{◌&&◌}
use Rattle.short_bytes.proofs.Words.{blocks_same}
use Rattle.short_bytes.proofs.blocks.same_blocks.Goals as goal

pub returns : goal.returns
returns c = (λ i. (((c.same_eight.ensures i && c.same_eight-2.ensures i) && c.same_eight-3.ensures i) && c.same_four.ensures i) && c.same_two.ensures i) ∙ blocks_same c.args.one.now c.args.other.now c.told-one c.told-other

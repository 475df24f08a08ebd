use Rattle.std.proofs.Common.{◌∙◌}
use Rattle.short_bytes.proofs.Filled.{short_differs, short_same}
use Rattle.short_bytes.proofs.blocks.same_filled.Goals as goal

pub returns-then-len-other_len : goal.returns-then-len-other_len
returns-then-len-other_len c = short_differs c.args.len c.args.other_len c.args.block.now c.args.other_block.now c.told-block c.told-other_block c.requires.0.0 c.requires.1.0 c.requires.0.1 c.requires.1.1 c.if-len-other_len.true

pub returns : goal.returns
returns c = c.same_blocks.ensures ∙ short_same c.args.len c.args.other_len c.args.block.now c.args.other_block.now c.told-block c.told-other_block c.requires.0.0 c.requires.1.0 c.requires.0.1 c.requires.1.1 c.if-len-other_len.false

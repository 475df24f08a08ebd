use Rattle.std.proofs.Common.{sym, ap, ◌∙◌}
use Rattle.std.specs.Ordering.{is_ne, nat_cmp}
use Rattle.short_bytes.proofs.Filled.{short_order}
use Rattle.list_lemmas.specs.BytesOrder.{bytes_cmp}
use Rattle.short_bytes.proofs.Words.{decided, tied}
use Rattle.short_bytes.proofs.blocks.order_filled.Goals as goal

pub returns-then-is_ne : goal.returns-then-is_ne
returns-then-is_ne c =
    let differs = ap is_ne (sym c.order_blocks-blocks.ensures) ∙ sym c.is_ne.ensures ∙ c.if-is_ne.true in
    c.order_blocks-blocks.ensures
    ∙ decided (bytes_cmp c.args.block.now c.args.other_block.now) (nat_cmp c.args.len c.args.other_len) differs
    ∙ short_order c.args.len c.args.other_len c.args.block.now c.args.other_block.now c.told-block c.told-other_block c.requires.0.0 c.requires.1.0 c.requires.0.1 c.requires.1.1

pub returns : goal.returns
returns c =
    let ties = ap is_ne (sym c.order_blocks-blocks.ensures) ∙ sym c.is_ne.ensures ∙ c.if-is_ne.false in
    c.cmp.ensures
    ∙ sym (tied (bytes_cmp c.args.block.now c.args.other_block.now) (nat_cmp c.args.len c.args.other_len) ties)
    ∙ short_order c.args.len c.args.other_len c.args.block.now c.args.other_block.now c.told-block c.told-other_block c.requires.0.0 c.requires.1.0 c.requires.0.1 c.requires.1.1

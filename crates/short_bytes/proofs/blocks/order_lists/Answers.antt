use Rattle.std.proofs.Common.{◌+◌, ◌*◌, ◌≤◌, length, sym, ap, ◌∙◌, arith}
use Rattle.std.specs.Ordering.{is_ne}
use Rattle.short_bytes.proofs.Words.{word_ties}
use Rattle.short_bytes.proofs.blocks.order_lists.Goals as goal

pub loop-i-preserved : goal.loop-i-preserved
loop-i-preserved c =
    let i = c.loop-i.i in
    let before = c.loop-i-test.true in
    let least = c.min-words.ensures in
    let one : i * 8 + 8 ≤ length c.args.one.now = omega (arith, before, least) in
    let other : i * 8 + 8 ≤ length c.args.other.now = omega (arith, before, least) in
    let ties = ap is_ne (sym c.order_words-order.ensures) ∙ sym c.is_ne.ensures ∙ c.if-is_ne.false in
    c.loop-i.invariant ∙ word_ties i c.args.one.now c.args.other.now one other ties

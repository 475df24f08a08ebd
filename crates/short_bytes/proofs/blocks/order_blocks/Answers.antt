use Rattle.std.proofs.Common.{sym, ap, ◌∙◌}
use Rattle.std.specs.Ordering.{is_ne}
use Rattle.short_bytes.proofs.Words.{second_decides, third_decides, last_decides}
use Rattle.short_bytes.proofs.blocks.order_blocks.Goals as goal

pub returns-then-is_ne-2 : goal.returns-then-is_ne-2
returns-then-is_ne-2 c =
    let first = ap is_ne (sym c.order_words-first.ensures) ∙ sym c.is_ne.ensures ∙ c.if-is_ne.false in
    let second = ap is_ne (sym c.order_words-second.ensures) ∙ sym c.is_ne-2.ensures ∙ c.if-is_ne-2.true in
    c.order_words-second.ensures ∙ second_decides c.args.one.now c.args.other.now c.told-one c.told-other first second

pub returns-then-is_ne-3 : goal.returns-then-is_ne-3
returns-then-is_ne-3 c =
    let first = ap is_ne (sym c.order_words-first.ensures) ∙ sym c.is_ne.ensures ∙ c.if-is_ne.false in
    let second = ap is_ne (sym c.order_words-second.ensures) ∙ sym c.is_ne-2.ensures ∙ c.if-is_ne-2.false in
    let third = ap is_ne (sym c.order_words-third.ensures) ∙ sym c.is_ne-3.ensures ∙ c.if-is_ne-3.true in
    c.order_words-third.ensures ∙ third_decides c.args.one.now c.args.other.now c.told-one c.told-other first second third

pub returns : goal.returns
returns c =
    let first = ap is_ne (sym c.order_words-first.ensures) ∙ sym c.is_ne.ensures ∙ c.if-is_ne.false in
    let second = ap is_ne (sym c.order_words-second.ensures) ∙ sym c.is_ne-2.ensures ∙ c.if-is_ne-2.false in
    let third = ap is_ne (sym c.order_words-third.ensures) ∙ sym c.is_ne-3.ensures ∙ c.if-is_ne-3.false in
    c.order_words.ensures ∙ last_decides c.args.one.now c.args.other.now c.told-one c.told-other first second third

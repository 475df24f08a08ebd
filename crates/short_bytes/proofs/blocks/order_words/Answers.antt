use Rattle.std.proofs.Common.{◌≡◌, length, take, drop, ◌∙◌, arith, length-drop}
use Rattle.std.proofs.lemmas.List.{length-take}
use Rattle.std.specs.Ordering.{nat_cmp}
use Rattle.short_bytes.proofs.Words.{numbers_order}
use Rattle.short_bytes.proofs.blocks.order_words.Goals as goal

pub returns : goal.returns
returns c =
    let at = c.args.at in
    let one = c.args.one.now in
    let other = c.args.other.now in
    let len : length (take 8 (drop at one)) ≡ length (take 8 (drop at other)) = omega (arith, c.requires.0, c.requires.1, length-take 8 (drop at one), length-take 8 (drop at other), length-drop at one, length-drop at other) in
    c.cmp.ensures
    ∙ (λ i. nat_cmp (c.word.ensures.value i) (c.word-2.ensures.value i))
    ∙ numbers_order (take 8 (drop at one)) (take 8 (drop at other)) len c.word.ensures.bytes c.word-2.ensures.bytes

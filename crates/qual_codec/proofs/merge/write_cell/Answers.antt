use Rattle.std.proofs.Common.{◌≡◌, List, length, ap, arith, sym, subst, ◌∙◌}
use Rattle.std.specs.Prelude.{◌&&◌}
use Rattle.qual_codec.specs.CellDots.{IsDots, tail_for}
use Rattle.qual_codec.specs.CellSteps.{bytes_in}
use Rattle.qual_codec.proofs.Written.{write_next, item_is, written, and_then, and_else}
use Rattle.qual_codec.proofs.merge.write_cell.Goals as goal
use Rattle.qual_codec.proofs.merge.write_cell.Goals.{then-fine, else-fine}

pub push_dot-requires-clause-item : goal.push_dot-requires-clause-item
push_dot-requires-clause-item c = item_is c.args.dots.now c.loop-dot.dot-index _ c.requires c.loop-dot-test.true

pub loop-dot-preserved : goal.loop-dot-preserved
loop-dot-preserved c = write_next c.args.dots.now c.loop-dot.dot-index _ _ _ _ _ c.loop-dot.fine c.loop-dot.coarse c.loop-dot.invariant c.loop-dot-test.true c.in_ok-push_dot.ensures.qual c.in_ok-push_dot.ensures.value

pub returns : goal.returns
returns c =
    let l = c.loop-dot in
    let both : c.if-fine.tail_byte ≡ (l.fine && l.coarse) = elim c.if-fine.branch [ then-fine w ↦ and_then _ _ _ w.if-fine.true w.tail_byte-is | else-fine w ↦ and_else _ _ _ w.if-fine.false w.tail_byte-is ] in
    let tail : bytes_in c.tail_byte.result ≡ tail_for (length c.args.dots.now) (l.fine && l.coarse) = c.tail_byte.ensures ∙ ap (tail_for (length c.args.dots.now)) both in
    let qual = c.in_ok-of.ensures.made ∙ c.as_slice.ensures.value in
    let value = c.in_ok-of-2.ensures.made ∙ c.as_slice-2.ensures.value ∙ c.in_ok-push_tail.ensures in
    subst (λ (q : List _). IsDots q c.in_ok-of-2.field-0 c.args.dots.now) (sym qual)
    (written c.args.dots.now l.dot-index (length c.args.dots.now) l.qual.items l.value.items c.in_ok-of-2.field-0 l.fine l.coarse c.tail_byte.result c.requires l.invariant (omega arith) (λ k. length c.args.dots.now) tail value)

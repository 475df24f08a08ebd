use Rattle.std.proofs.Common.{Vec, Global, sym, ap, ◌∙◌}
use Rattle.qual_codec.specs.declared.cells.Dot.{Dot}
use Rattle.listing_dump.specs.BestDots.{is_best}
use Rattle.listing_dump.proofs.Turns.{kept_less, kept_more}
use Rattle.listing_dump.proofs.best_dots.push_best.Goals as goal
use Rattle.listing_dump.proofs.best_dots.push_best.Goals.{then-is_best+in_ok-push, else-is_best}

pub loop-at-preserved : goal.loop-at-preserved
loop-at-preserved c =
    elim c.if-is_best.branch [
      | then-is_best+in_ok-push w ↦
          kept_more (is_best c.args.best.now) c.args.placed.now c.loop-at.at _ c.args.dots.now.items c.loop-at.dots.items c.if-is_best.dots.items c.loop-at-test.true (sym c.is_best.ensures ∙ w.if-is_best.true) c.loop-at.invariant
          (ap (λ (v : Vec Dot Global). v.items) w.dots-is ∙ w.in_ok-push.ensures.items)
      | else-is_best w ↦
          ap (λ (v : Vec Dot Global). v.items) w.dots-is
          ∙ kept_less (is_best c.args.best.now) c.args.placed.now c.loop-at.at _ c.args.dots.now.items c.loop-at.dots.items c.loop-at-test.true (sym c.is_best.ensures ∙ w.if-is_best.false) c.loop-at.invariant
    ]

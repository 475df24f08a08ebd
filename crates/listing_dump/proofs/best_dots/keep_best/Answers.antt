use Rattle.std.proofs.Common.{List, ◌++◌, subst, ◌∙◌}
use Rattle.std.specs.Prelude.{filter, map}
use Rattle.qual_codec.specs.declared.cells.Dot.{Dot}
use Rattle.listing_dump.specs.declared.best_dots.PlacedDot.{PlacedDot}
use Rattle.listing_dump.specs.BestDots.{AreBest, ArePlaced, is_best}
use Rattle.listing_dump.proofs.Bests.{OffsetsRise, all_stay, best_kept}
use Rattle.listing_dump.proofs.Giving.{on_ok}
use Rattle.listing_dump.proofs.best_dots.keep_best.Goals as goal

pub returns-then-are_rising : goal.returns-then-are_rising
returns-then-are_rising c = all_stay c.args.dots.now.items (subst OffsetsRise c.deref.ensures.value (c.are_rising.ensures c.if-are_rising.true))

pub returns : goal.returns
returns c =
    on_ok c.push_best.result
    (λ e.
    best_kept c.args.dots.now.items c.in_ok-placed.placed.items c.in_ok-best.best c.push_best.new.dots.items (subst (λ (ds : List Dot). ArePlaced ds c.in_ok-placed.placed.items) c.deref-2.ensures.value c.in_ok-placed.ensures)
    (subst (λ (ds : List Dot). AreBest ds c.in_ok-best.best) c.deref-3.ensures.value c.in_ok-best.ensures)
    (e ∙ (λ i. c.clear.ensures.items i ++ map (λ (p : PlacedDot). p.dot) (filter (is_best c.in_ok-best.best) (c.deref-4.ensures.value i)))))
    c.push_best.ensures

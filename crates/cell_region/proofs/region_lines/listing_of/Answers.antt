use Rattle.std.proofs.Common.{List, ◌++◌, sym, ap, subst, ◌∙◌, true, ◌≡◌}
use Rattle.std.specs.Vec.Iter.{into_iter_items}
use Rattle.cell_model.specs.declared.row.ListLine.{ListLine}
use Rattle.cell_model.specs.Rising.{LinesRise, is_above, place_of_line}
use Rattle.cell_region.proofs.RegionOrder.{above_next}
use Rattle.cell_region.proofs.region_lines.listing_of.Goals as goal

pub push-requires : goal.push-requires
push-requires c =
    let whole = c.loop-line.invariant.whole ∙ ap (λ (l : List ListLine). c.loop-line.yielded ++ l) c.in-Some.ensures.steps.0 in
    subst (λ (l : List ListLine). is_above l (place_of_line c.in-Some.line) ≡ true) (sym c.loop-line.invariant.so_far) (above_next c.loop-line.yielded c.in-Some.line (into_iter_items c.next.new.self) (subst LinesRise whole c.requires))

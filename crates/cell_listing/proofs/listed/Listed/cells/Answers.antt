use Rattle.std.proofs.Common.{ap, sym, subst, ◌∙◌}
use Rattle.cell_model.specs.Rising.{LinesRise}
use Rattle.cell_listing.specs.ListedLines.{ListingRead, counted_in}
use Rattle.cell_listing.proofs.ListedParts.{cells_counted, parts_rise}
use Rattle.cell_listing.proofs.listed.Listed.cells.Goals as goal

pub returns-clause-cells : goal.returns-clause-cells
returns-clause-cells c = c.as_slice.ensures.value ∙ cells_counted c.self.inside.cells.items c.self.inside.others.items c.self.invariant ∙ ap (λ (r : ListingRead). counted_in r.lines) c.self.view_is

pub returns-clause-rising : goal.returns-clause-rising
returns-clause-rising c = subst LinesRise (sym c.as_slice.ensures.value) (parts_rise c.self.inside.cells.items c.self.inside.others.items c.self.invariant)

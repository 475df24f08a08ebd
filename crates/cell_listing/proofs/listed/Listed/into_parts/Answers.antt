use Rattle.std.proofs.Common.{ap, ◌∙◌}
use Rattle.cell_listing.specs.ListedLines.{ListingRead, counted_in, others_in}
use Rattle.cell_listing.proofs.ListedParts.{cells_counted, others_found, parts_rise}
use Rattle.cell_listing.proofs.listed.Listed.into_parts.Goals as goal

pub of-requires : goal.of-requires
of-requires c = parts_rise c.self.inside.cells.items c.self.inside.others.items c.self.invariant

pub returns-clause-cells : goal.returns-clause-cells
returns-clause-cells c = c.of.ensures ∙ cells_counted c.self.inside.cells.items c.self.inside.others.items c.self.invariant ∙ ap (λ (r : ListingRead). counted_in r.lines) c.self.view_is

pub returns-clause-others : goal.returns-clause-others
returns-clause-others c = others_found c.self.inside.cells.items c.self.inside.others.items c.self.invariant ∙ ap (λ (r : ListingRead). others_in r.lines) c.self.view_is

use Rattle.std.proofs.Common.{ap, ◌∙◌}
use Rattle.cell_listing.specs.ListedLines.{ListingRead, others_in}
use Rattle.cell_listing.proofs.ListedParts.{others_found}
use Rattle.cell_listing.proofs.listed.Listed.others.Goals as goal

pub returns : goal.returns
returns c = c.as_slice.ensures.value ∙ others_found c.self.inside.cells.items c.self.inside.others.items c.self.invariant ∙ ap (λ (r : ListingRead). others_in r.lines) c.self.view_is

use Rattle.std.proofs.Common.{List, ap, sym, ◌-◌, ◌∙◌, length}
use Rattle.std.specs.Prelude.{None, Option, option_map}
use Rattle.std.specs.List.{slice_get}
use Rattle.cell_model.specs.declared.events.Place.{Place}
use Rattle.cell_model.specs.declared.row.ListLine.{ListLine}
use Rattle.cell_model.specs.Rising.{place_of_line}
use Rattle.cell_listing.specs.ListedLines.{ListingRead, is_above, place_after}
use Rattle.cell_listing.proofs.ListedParts.{place_is}
use Rattle.cell_listing.proofs.listed.Listed.counts.Goals as goal

pub returns-in-None : goal.returns-in-None
returns-in-None c =
    let is = place_is c.self.inside.cells.items c.self.inside.others.items c.self.invariant in
    let last = ap (λ (cells : List ListLine). option_map place_of_line (slice_get cells (length cells - 1))) (sym c.deref.ensures.value) ∙ ap (option_map place_of_line) (sym c.in-None.ensures.value) in
    sym (ap (λ (o : Option Place). is_above o (place_of_line c.args.cell.now)) (ap (λ (r : ListingRead). place_after None r.lines) (sym c.self.view_is) ∙ is ∙ last))

pub returns-in-Some : goal.returns-in-Some
returns-in-Some c =
    let is = place_is c.self.inside.cells.items c.self.inside.others.items c.self.invariant in
    let last = ap (λ (cells : List ListLine). option_map place_of_line (slice_get cells (length cells - 1))) (sym c.deref.ensures.value) ∙ ap (option_map place_of_line) (sym c.in-Some.ensures.value) in
    c.is_before.ensures ∙ sym (ap (λ (o : Option Place). is_above o (place_of_line c.args.cell.now)) (ap (λ (r : ListingRead). place_after None r.lines) (sym c.self.view_is) ∙ is ∙ last))

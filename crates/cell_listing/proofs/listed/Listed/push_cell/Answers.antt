use Rattle.std.proofs.Common.{List, ap, subst, sym, true, ◌∙◌, ◌≡◌}
use Rattle.cell_model.specs.declared.row.ListLine.{ListLine}
use Rattle.cell_listing.specs.ListedLines.{AreParts, ListingRead, counts_behind, with_line, woven}
use Rattle.cell_listing.specs.declared.listing_line.LineRead.{LineRead}
use Rattle.cell_listing.specs.declared.listing_line.LineRead.TheVariants as read
use Rattle.cell_listing.proofs.ListedParts.{cell_added, cell_woven}
use Rattle.cell_listing.proofs.listed.Listed.push_cell.Goals as goal

pub invariant_of-self-2 : goal.invariant_of-self-2
invariant_of-self-2 c =
    let i = c.self.inside in
    let counts = subst (λ (r : ListingRead). counts_behind r.lines (read.Cell c.args.cell) ≡ true) (sym c.self.view_is) c.requires in
    subst (λ (cells : List ListLine). AreParts cells i.others.items) (sym c.in_ok-push.ensures.items) (cell_added i.cells.items i.others.items c.self.invariant c.args.cell counts)

pub returns-clause-ok : goal.returns-clause-ok
returns-clause-ok c =
    let i = c.self.inside in
    let counts = subst (λ (r : ListingRead). counts_behind r.lines (read.Cell c.args.cell) ≡ true) (sym c.self.view_is) c.requires in
    ap (λ (cells : List ListLine). record { widths = i.widths; lines = woven 1 cells i.others.items }) c.in_ok-push.ensures.items
    ∙ ap (λ (lines : List LineRead). record { widths = i.widths; lines = lines }) (cell_woven i.cells.items i.others.items c.self.invariant c.args.cell counts)
    ∙ ap (λ (r : ListingRead). with_line r (read.Cell c.args.cell)) c.self.view_is

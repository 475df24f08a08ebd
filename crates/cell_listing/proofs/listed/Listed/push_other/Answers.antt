use Rattle.std.proofs.Common.{List, ◌+◌, ap, false, length, subst, sym, ◌∙◌, ◌≡◌}
use Rattle.cell_listing.specs.ListedLines.{AreParts, ListingRead, counts_behind, with_line, woven}
use Rattle.cell_listing.specs.declared.listed.OtherLine.{OtherLine}
use Rattle.cell_listing.specs.declared.listing_line.LineRead.{LineRead}
use Rattle.cell_listing.proofs.ListedParts.{other_added, other_woven}
use Rattle.cell_listing.proofs.listed.Listed.push_other.Goals as goal

pub invariant_of-self-2 : goal.invariant_of-self-2
invariant_of-self-2 c =
    let i = c.self.inside in
    let counts = subst (λ (r : ListingRead). counts_behind r.lines c.args.line ≡ false) (sym c.self.view_is) c.requires in
    let number = c.number_behind-number.ensures ∙ (λ t. length (c.deref.ensures.value t) + length (c.deref-2.ensures.value t) + 1) in
    subst (λ (others : List OtherLine). AreParts i.cells.items others) (sym c.in_ok-push.ensures.items) (other_added i.cells.items i.others.items c.self.invariant c.args.line c.number_behind-number.result counts number)

pub returns-clause-ok : goal.returns-clause-ok
returns-clause-ok c =
    let i = c.self.inside in
    let counts = subst (λ (r : ListingRead). counts_behind r.lines c.args.line ≡ false) (sym c.self.view_is) c.requires in
    let number = c.number_behind-number.ensures ∙ (λ t. length (c.deref.ensures.value t) + length (c.deref-2.ensures.value t) + 1) in
    ap (λ (others : List OtherLine). record { widths = i.widths; lines = woven 1 i.cells.items others }) c.in_ok-push.ensures.items
    ∙ ap (λ (lines : List LineRead). record { widths = i.widths; lines = lines }) (other_woven i.cells.items i.others.items c.self.invariant c.args.line c.number_behind-number.result counts number)
    ∙ ap (λ (r : ListingRead). with_line r c.args.line) c.self.view_is

use Rattle.std.proofs.Common.{List, ap, subst, sym, ◌∙◌}
use Rattle.cell_model.specs.KindWidths.{Widths}
use Rattle.cell_model.specs.Sound.{IsBase}
use Rattle.cell_model.specs.declared.row.ListLine.{ListLine}
use Rattle.cell_listing.specs.ListedLines.{lines_of_cells}
use Rattle.listing_check.specs.Laws.{store_in}
use Rattle.listing_check.proofs.Faultless.{sound_cells}
use Rattle.listing_check.proofs.line_faults.sound_listing.Goals as goal

pub returns-clause-lines : goal.returns-clause-lines
returns-clause-lines c = (sound_cells c.args.listed c.requires).0 ∙ ap lines_of_cells (sym c.into_parts-lines.ensures.cells)

pub returns-clause-base : goal.returns-clause-base
returns-clause-base c = subst (λ (p : Widths × List ListLine). IsBase (store_in p.0 p.1)) (λ i. (sym c.widths-widths.ensures i, sym c.into_parts-lines.ensures.cells i)) (sound_cells c.args.listed c.requires).1

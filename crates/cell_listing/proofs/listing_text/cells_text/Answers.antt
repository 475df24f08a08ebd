use Rattle.std.proofs.Common.{rules}
use Rattle.cell_listing.proofs.PrintedWords.{cells_end, cells_on}
use Rattle.cell_listing.proofs.listing_text.cells_text.Goals as goal

pub loop-at-preserved : goal.loop-at-preserved
loop-at-preserved c = cells_on c.loop-at.text.items c.push_line.new.text.items _ c.args.cells.now c.loop-at.at c.index-cells-at.result (search rules) (search rules) c.loop-at.invariant (search rules)

pub returns : goal.returns
returns c = cells_end c.loop-at.text.items _ c.args.cells.now c.loop-at.at (search rules) c.loop-at.invariant

use Rattle.std.proofs.Common.{rules}
use Rattle.listing_fix.proofs.NameCells.{all_are_given, one_given_more}
use Rattle.listing_fix.proofs.given_names.reverse_cells.Goals as goal

pub loop-at-preserved : goal.loop-at-preserved
loop-at-preserved c =
    one_given_more c.args.widths c.args.cells.now c.loop-at.at c.index-cells-at.result c.loop-at.more.items c.push_reverse.new.more.items (search rules) (search rules) c.loop-at.invariant (search rules)

pub returns : goal.returns
returns c = all_are_given c.args.widths c.args.cells.now c.loop-at.at c.loop-at.more.items (search rules) c.loop-at.invariant

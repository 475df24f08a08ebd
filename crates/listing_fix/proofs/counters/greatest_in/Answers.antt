use Rattle.std.proofs.Common.{rules}
use Rattle.listing_fix.proofs.CounterWrites.{one_greater}
use Rattle.listing_fix.proofs.counters.greatest_in.Goals as goal

pub loop-at-preserved : goal.loop-at-preserved
loop-at-preserved c =
    one_greater c.args.widths c.args.kind c.args.cells.now c.loop-at.at c.index-cells-at.result c.loop-at.most c.number_of.result c.greater-most.result (search rules) (search rules) c.loop-at.invariant c.number_of.ensures c.greater-most.ensures

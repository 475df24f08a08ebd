use Rattle.std.proofs.Common.{◌≤◌, drop}
use Rattle.listing_print.specs.LineTaking.{TookUpTo}
use Rattle.listing_print.specs.StoreRows.{row_lines}
use Rattle.listing_print.proofs.row_walk.walk_row.Given as goal

abbrev pub invariant-loop-i : goal.invariant-loop-i
invariant-loop-i g l = record {
  taken : TookUpTo g.T.LineTaker.took (row_lines l.row l.cells) (row_lines l.row (drop l.i l.cells)) (g.K.Sink.held l.fn.sink, l.fn.taker) (g.K.Sink.held l.sink, l.taker);
  later : g.K.Sink.faults l.fn.sink ≤ g.K.Sink.faults l.sink;
}

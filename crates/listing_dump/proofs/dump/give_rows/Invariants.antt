use Rattle.std.proofs.Common.{◌≤◌, take}
use Rattle.cell_model.specs.Listed.{store_of}
use Rattle.listing_dump.specs.RowPoints.{GivesRows}
use Rattle.listing_dump.proofs.dump.give_rows.Given as goal

abbrev pub invariant-loop-row : goal.invariant-loop-row
invariant-loop-row g l = record {
  gave : GivesRows (store_of l.listing) l.listing.lines (take l.row-index l.rows) (g.K.Sink.held l.fn.output) (g.K.Sink.held l.output) l.waiting.items;
  later : g.K.Sink.faults l.fn.output ≤ g.K.Sink.faults l.output;
}

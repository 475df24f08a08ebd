use Rattle.std.proofs.Common.{◌≤◌, ◌++◌, drop}
use Rattle.listing_dump.specs.Gifts.{Gives}
use Rattle.listing_dump.specs.RowPoints.{row_text}
use Rattle.listing_dump.proofs.row_output.give_row.Given as goal

-- the lines of the other dots come behind what waits
abbrev pub invariant-loop-dot : goal.invariant-loop-dot
invariant-loop-dot g l = record {
  gave : Gives (g.K.Sink.held l.fn.output) (g.K.Sink.held l.output) (l.fn.waiting.items ++ row_text l.metric l.base l.tail l.dots) (l.waiting.items ++ row_text l.metric l.base l.tail (drop l.dot-index l.dots));
  later : g.K.Sink.faults l.fn.output ≤ g.K.Sink.faults l.output;
}

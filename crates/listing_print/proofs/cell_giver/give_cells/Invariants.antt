use Rattle.std.proofs.Common.{◌≤◌, drop}
use Rattle.cell_listing.specs.Grammar.{cells_text}
use Rattle.listing_print.specs.GivenTexts.{Printing}
use Rattle.listing_print.proofs.cell_giver.give_cells.Given as goal

abbrev pub invariant-loop-at : goal.invariant-loop-at
invariant-loop-at g l = record {
  printing : Printing (g.K.Sink.held l.fn.sink) (g.K.Sink.held l.sink) l.text.items (drop l.at l.cells) (cells_text l.cells);
  later : g.K.Sink.faults l.fn.sink ≤ g.K.Sink.faults l.sink;
}

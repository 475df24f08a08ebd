use Rattle.std.proofs.Common.{◌≤◌, drop}
use Rattle.cell_image.specs.Images.{image}
use Rattle.cell_image.specs.ImageGifts.{Giving}
use Rattle.cell_image.proofs.image_giver.give_fitting.Given as goal

abbrev pub invariant-loop-at : goal.invariant-loop-at
invariant-loop-at g l = record {
  giving : Giving (g.K.Sink.held l.fn.sink) (g.K.Sink.held l.sink) l.bytes.items (drop l.at l.cells) (image l.fn.listing);
  later : g.K.Sink.faults l.fn.sink ≤ g.K.Sink.faults l.sink;
}

use Rattle.std.proofs.Common.{◌≡◌, ◌++◌, drop}
use Rattle.cell_image.specs.Images.{cells_image}
use Rattle.cell_image.proofs.image_writer.push_cells.Given as goal

abbrev pub invariant-loop-at : goal.invariant-loop-at
invariant-loop-at l = l.bytes.items ++ cells_image (drop l.at l.cells) ≡ l.fn.bytes.items ++ cells_image l.cells

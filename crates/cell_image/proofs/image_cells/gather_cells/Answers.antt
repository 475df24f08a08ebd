use Rattle.std.proofs.Common.{[]}
use Rattle.cell_image.proofs.image_cells.gather_cells.Goals as goal

pub returns-in-Ok : goal.returns-in-Ok
returns-in-Ok g c = c.in-Ok.ensures.ok [] c.make-gathered.ensures

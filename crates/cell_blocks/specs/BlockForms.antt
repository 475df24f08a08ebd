-- The forms in which a block keeps its cells.
use Rattle.std.specs.Prelude.{List}
use Rattle.qual_codec.specs.declared.cells.Cell.{Cell}
use Rattle.cell_blocks.specs.declared.block.Form.{Form}
use Rattle.cell_blocks.specs.declared.block.Form.TheVariants.{Narrow, Wide, Mixed}

abbrev pub form_cells : Form → List Cell
form_cells (Narrow cells) = cells
form_cells (Wide cells) = cells
form_cells (Mixed b) = b.value

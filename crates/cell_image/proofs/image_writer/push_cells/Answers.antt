use Rattle.std.proofs.Common.{rules}
use Rattle.cell_image.proofs.CellLoops.{each_fits, pushed_all, pushed_on}
use Rattle.cell_image.proofs.image_writer.push_cells.Goals as goal

pub push_cell-requires : goal.push_cell-requires
push_cell-requires c = each_fits c.args.cells.now c.requires c.loop-at.at c.index-cells-at.result (search rules) (search rules)

pub loop-at-preserved : goal.loop-at-preserved
loop-at-preserved c = pushed_on c.loop-at.bytes.items c.push_cell.new.bytes.items _ c.args.cells.now c.loop-at.at c.index-cells-at.result (search rules) (search rules) c.loop-at.invariant c.in_ok-push_cell.ensures

pub returns : goal.returns
returns c = pushed_all c.loop-at.bytes.items _ c.args.cells.now c.loop-at.at (search rules) c.loop-at.invariant

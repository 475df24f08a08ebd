use Rattle.listing_dump.proofs.Turns.{cell_reads, cells_done, cells_next, no_cells}
use Rattle.listing_dump.proofs.dump.read_cells.Goals as goal

pub add_dots-requires : goal.add_dots-requires
add_dots-requires c =
    cell_reads c.args.cells.now c.loop-cell.cell-index c.cell-item.result c.list.result.now c.list-in-loop-cell.result.now c.requires.read c.loop-cell-test.true c.cell-item.is c.list.ensures c.list-in-loop-cell.ensures

pub loop-cell-init : goal.loop-cell-init
loop-cell-init c = no_cells c.args.cells.now c.args.dots.now.items c.requires.none

pub loop-cell-preserved : goal.loop-cell-preserved
loop-cell-preserved c =
    cells_next c.args.cells.now c.loop-cell.cell-index c.cell-item.result c.list.result.now c.list-in-loop-cell.result.now c.loop-cell.dots.items c.add_dots.new.dots.items c.loop-cell.invariant c.loop-cell-test.true c.cell-item.is c.list.ensures
    c.list-in-loop-cell.ensures c.in_ok-add_dots.ensures

pub returns : goal.returns
returns c = cells_done c.args.cells.now c.loop-cell.cell-index c.loop-cell.dots.items c.loop-cell-test.false c.loop-cell.invariant

use Rattle.packed_cells.proofs.Keyed.{get_gap}
use Rattle.packed_cells.proofs.plain_cells.PlainCells.is_far.Goals as goal

pub returns-in-Err : goal.returns-in-Err
returns-in-Err c t = rw (← c.self.view_is) (get_gap c.args.qual.now c.self.inside.cells c.in-Err.field-0 c.in-Err.ensures.absent)

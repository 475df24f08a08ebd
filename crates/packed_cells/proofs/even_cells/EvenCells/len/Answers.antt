use Rattle.std.proofs.Common.{arith}
use Rattle.packed_cells.proofs.EvenRows.{length_even}
use Rattle.packed_cells.proofs.even_cells.EvenCells.len.Goals as goal

pub returns : goal.returns
returns c =
    rw (← c.self.view_is)
    (let all = length_even c.self.inside.first c.self.inside.step c.self.inside.slots.items c.self.invariant.grid in omega (arith, all, c.len.ensures, c.self.invariant.lacking))

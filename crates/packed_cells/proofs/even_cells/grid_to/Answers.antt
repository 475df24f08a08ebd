use Rattle.std.proofs.Common.{◌-◌, arith}
use Rattle.packed_cells.proofs.EvenRows.{one_place}
use Rattle.packed_cells.proofs.even_cells.grid_to.Goals as goal

pub returns-then-first-offset-clause-same : goal.returns-then-first-offset-clause-same
returns-then-first-offset-clause-same c = one_place c.args.first c.args.step (c.args.offset - c.args.first) c.args.slots.now.items (omega (arith, c.in-1.is, c.len.ensures))

use Rattle.std.proofs.Common.{List, sym, subst, ◌∙◌}
use Rattle.qual_codec.specs.declared.cells.Cell.{Cell}
use Rattle.cell_blocks.specs.Seeks.{Rises}
use Rattle.packed_cells.proofs.EvenRows.{cells_even, rises_even}
use Rattle.packed_cells.proofs.even_cells.EvenCells.again.Goals as goal

pub returns-clause-same : goal.returns-clause-same
returns-clause-same c =
    rw (← c.self.view_is) (c.of.ensures ∙ c.in_ok-cells.ensures ∙ cells_even c.self.inside.first c.self.inside.step c.self.inside.slots.items c.self.invariant.grid)

pub returns-clause-rises : goal.returns-clause-rises
returns-clause-rises c =
    subst (λ (cells : List Cell). Rises cells) (sym (c.of.ensures ∙ c.in_ok-cells.ensures)) (rises_even c.self.inside.first c.self.inside.step c.self.inside.slots.items c.self.invariant.grid)

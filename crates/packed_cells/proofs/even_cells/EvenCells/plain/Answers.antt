use Rattle.std.proofs.Common.{List, sym, subst, ◌∙◌}
use Rattle.qual_codec.specs.declared.cells.Cell.{Cell}
use Rattle.cell_blocks.specs.Seeks.{Rises}
use Rattle.packed_cells.proofs.EvenRows.{rises_even}
use Rattle.packed_cells.proofs.even_cells.EvenCells.plain.Goals as goal

pub of-requires-2 : goal.of-requires-2
of-requires-2 c =
    subst (λ (cells : List Cell). Rises cells) (sym (c.of.ensures ∙ c.in_ok-cells.ensures)) (rises_even c.self.inside.first c.self.inside.step c.self.inside.slots.items c.self.invariant.grid)

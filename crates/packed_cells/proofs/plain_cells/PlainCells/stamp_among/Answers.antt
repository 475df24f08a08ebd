use Rattle.std.proofs.Common.{List, sym, ap, subst, ◌∙◌}
use Rattle.qual_codec.specs.declared.cells.Cell.{Cell}
use Rattle.cell_blocks.specs.Seeks.{Rises}
use Rattle.packed_cells.specs.Keyed.{map_of}
use Rattle.cell_blocks.proofs.Order.{rises_stamp}
use Rattle.packed_cells.proofs.Keyed.{stamp_is_stamped, gap_is_stamped}
use Rattle.cell_blocks.proofs.Order.{none}
use Rattle.packed_cells.proofs.plain_cells.PlainCells.stamp_among.Goals as goal

pub invariant_of-self : goal.invariant_of-self
invariant_of-self c i j lt within d =
    subst (λ (cells : List Cell). Rises cells) (sym (c.stamp.ensures d)) (rises_stamp c.self.inside.cells c.in-Ok.i c.args.version d c.self.invariant c.in-Ok.ensures.found.in_range) i j lt within d

pub returns-in-Ok : goal.returns-in-Ok
returns-in-Ok c =
    rw (← c.self.view_is)
    (ap map_of (c.stamp.ensures none)
    ∙ stamp_is_stamped c.args.qual.now c.args.version c.self.inside.cells c.in-Ok.i none c.self.invariant (rises_stamp c.self.inside.cells c.in-Ok.i c.args.version none c.self.invariant c.in-Ok.ensures.found.in_range) c.in-Ok.ensures.found)

pub returns-in_default : goal.returns-in_default
returns-in_default c =
    rw (← c.self.view_is) (gap_is_stamped c.args.qual.now c.args.version c.self.inside.cells c.in_default.field-0 c.in_default.ensures.absent)

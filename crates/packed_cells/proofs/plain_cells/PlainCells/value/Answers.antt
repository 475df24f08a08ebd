use Rattle.std.proofs.Common.{ℕ, List, sym, ap, ◌∙◌}
use Rattle.std.specs.Prelude.{Some, option_map}
use Rattle.packed_cells.proofs.Keyed.{get_at, get_gap}
use Rattle.cell_blocks.proofs.Order.{none}
use Rattle.packed_cells.proofs.plain_cells.PlainCells.value.Goals as goal

pub returns-in-Ok : goal.returns-in-Ok
returns-in-Ok c =
    rw (← c.self.view_is)
    (ap (λ (v : List ℕ). Some v) (c.value.ensures none)
    ∙ ap (option_map (λ (p : List ℕ × ℕ). p.0)) (sym (get_at c.args.qual.now c.self.inside.cells c.in-Ok.i none c.self.invariant c.in-Ok.ensures.found)))

pub returns-in-Err : goal.returns-in-Err
returns-in-Err c =
    rw (← c.self.view_is) (ap (option_map (λ (p : List ℕ × ℕ). p.0)) (sym (get_gap c.args.qual.now c.self.inside.cells c.in-Err.field-0 c.in-Err.ensures.absent)))

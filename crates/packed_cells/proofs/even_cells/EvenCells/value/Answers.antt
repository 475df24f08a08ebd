use Rattle.std.proofs.Common.{ℕ, List, sym, ap, ◌∙◌}
use Rattle.std.specs.Prelude.{Some, option_map}
use Rattle.packed_cells.proofs.EvenRows.{get_found}
use Rattle.packed_cells.proofs.even_cells.EvenCells.value.Goals as goal

pub returns-in-Some : goal.returns-in-Some
returns-in-Some c =
    rw (← c.self.view_is)
    (ap (λ (v : List ℕ). Some v) c.bytes_of.ensures.bytes
    ∙ ap (option_map (λ (p : List ℕ × ℕ). p.0)) (sym (get_found c.self.inside.first c.self.inside.step c.self.inside.next c.self.inside.holes c.self.inside.slots.items c.self.invariant c.args.qual.now c.in-Some.found.1 c.in-Some.found.0 c.in-Some.ensures.found c.index.result.now c.index.ensures)))

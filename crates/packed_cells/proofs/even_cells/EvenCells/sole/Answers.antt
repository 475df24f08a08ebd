use Rattle.std.proofs.Common.{◌≡◌, sym, subst}
use Rattle.std.specs.Prelude.{IfSome}
use Rattle.std.specs.FinMap.{insert}
use Rattle.packed_cells.specs.Keyed.{CellMap}
use Rattle.packed_cells.specs.SoleCells.{sole_map}
use Rattle.packed_cells.proofs.even_cells.EvenCells.sole.Goals as goal

pub returns-then-has_none : goal.returns-then-has_none
returns-then-has_none c =
    subst (λ (m : CellMap). IfSome c.first.result (λ cell. sole_map cell ≡ insert m c.args.qual.now (c.args.value.now, c.args.version))) (sym (c.has_none.ensures c.if-has_none.true)) c.first.ensures

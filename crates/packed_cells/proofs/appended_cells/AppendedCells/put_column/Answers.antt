use Rattle.std.proofs.Common.{◌≡◌, List, ℕ, length, sym, ap, ◌∙◌, arith}
use Rattle.std.specs.Prelude.{Some}
use Rattle.std.specs.FinMap.{get, insert}
use Rattle.qual_codec.specs.CellDots.{column_qual}
use Rattle.packed_cells.specs.declared.appended_cells.AppendedCells.TheInside.{Inside}
use Rattle.packed_cells.proofs.Columns.{held_is, overwritten_whole, twice}
use Rattle.packed_cells.proofs.appended_cells.AppendedCells.put_column.Goals as goal
use Rattle.packed_cells.proofs.appended_cells.AppendedCells.put_column.Goals.{then-value-len, else-value-len+in_ok-self-inside}

pub returns-in_err-self-inside-clause-in_place : goal.returns-in_err-self-inside-clause-in_place
returns-in_err-self-inside-clause-in_place c v n is same =
    let e : length v ≡ length c.self.inside.value.items = ap (λ (x : List ℕ × ℕ). length x.0) (held_is c.self.inside.cells column_qual (c.self.inside.value.items, c.self.inside.version) (v, n) (ap (λ m. get m column_qual) c.self.view_is ∙ is)) in
    absurd (grind (arith, c.if-value-len.false, c.len.ensures, e, same))

pub returns-clause-ok : goal.returns-clause-ok
returns-clause-ok c =
    let written : insert c.self.inside.cells column_qual (c.args.value.now, c.args.version) ≡ insert (insert c.self.inside.cells column_qual (c.self.inside.value.items, c.self.inside.version)) column_qual (c.args.value.now, c.args.version) =
    sym (twice c.self.inside.cells column_qual (c.self.inside.value.items, c.self.inside.version) (c.args.value.now, c.args.version)) in
    rw (← c.self.view_is)
    (elim c.if-value-len.branch [
      | then-value-len w ↦
          ap (λ (i : Inside). insert i.cells column_qual (i.value.items, c.args.version)) w.self-inside-is
          ∙ ap (λ (x : List ℕ). insert c.self.inside.cells column_qual (x, c.args.version)) (w.overwrite.ensures ∙ overwritten_whole c.self.inside.value.items c.args.value.now (grind (arith, w.if-value-len.true, c.len.ensures)))
          ∙ written
      | else-value-len+in_ok-self-inside w ↦
          ap (λ (i : Inside). insert i.cells column_qual (i.value.items, c.args.version)) w.self-inside-is
          ∙ ap (λ (x : List ℕ). insert c.self.inside.cells column_qual (x, c.args.version)) w.in_ok-self-inside.ensures.items
          ∙ written
    ])

use Rattle.std.proofs.Common.{ℕ, List, sym, ap, ◌∙◌}
use Rattle.std.specs.Prelude.{option_map}
use Rattle.map_body.proofs.table_rows.TableRows.value.Goals as goal
use Rattle.std.specs.FinMap.{get, get-empty}
use Rattle.packed_cells.specs.Keyed.{CellMap}
use Rattle.map_body.proofs.Maps.{row_found, row_absent}
use Rattle.list_lemmas.specs.BytesOrder.{bytes_cmp}

pub returns-in-Some : goal.returns-in-Some
returns-in-Some c =
    rw (← c.self.view_is) (c.value.ensures ∙ ap (λ (m : CellMap). option_map (λ (p : List ℕ × ℕ). p.0) (get m c.args.qual.now)) (sym (row_found c.self.inside.rows c.args.row.now c.in-Some.cells.now c.in-Some.ensures)))

pub returns-in-None : goal.returns-in-None
returns-in-None c =
    rw (← c.self.view_is) (ap (option_map (λ (p : List ℕ × ℕ). p.0)) (sym (get-empty bytes_cmp c.args.qual.now)) ∙ ap (λ (m : CellMap). option_map (λ (p : List ℕ × ℕ). p.0) (get m c.args.qual.now)) (sym (row_absent c.self.inside.rows c.args.row.now c.in-None.ensures)))

use Rattle.std.proofs.Common.{ℕ, List, ◌++◌, sym, ap, subst, ◌∙◌}
use Rattle.map_body.proofs.table_rows.TableRows.list_from.Goals as goal
use Rattle.std.specs.FinMap.{entries}
use Rattle.packed_cells.specs.Keyed.{CellMap}
use Rattle.row_pages.specs.RowMaps.{Rows, rows_from}
use Rattle.map_body.specs.Whole.{lines_in}
use Rattle.cell_model.specs.Rising.{LinesRise}

pub add_rows-requires : goal.add_rows-requires
add_rows-requires c =
    subst (λ (r : List (List ℕ × CellMap)). LinesRise (c.args.listing.now ++ lines_in c.args.table r)) (ap (λ (m : Rows). rows_from c.args.from.now (entries m)) (sym c.self.view_is) ∙ sym c.walk_from.ensures) c.requires

use Rattle.std.proofs.Common.{sym, ap, ◌∙◌, refl}
use Rattle.map_body.proofs.store_maps.MapBodyBody.read.Goals as goal
use Rattle.std.specs.FinMap.{empty}
use Rattle.packed_cells.specs.Keyed.{cells_in}
use Rattle.map_body.specs.TableRows.{row_in}
use Rattle.row_pages.specs.RowMaps.{Rows}
use Rattle.std.specs.Prelude.{slice_index_or}
use Rattle.map_body.proofs.Bodies.{at_table, counter_cells_read, row_cells_read}
use Rattle.map_body.proofs.Bodies.{cells_none}
use Rattle.std.specs.Prelude.{unwrap_or}

pub returns-then-is_counter_row : goal.returns-then-is_counter_row
returns-then-is_counter_row c = rw (← c.self.view_is) (c.in_ok-cells.ensures ∙ counter_cells_read c.self.inside.widths c.self.inside.tables c.self.inside.counters c.args.row.now c.self.invariant.0 (c.if-is_counter_row.ensures.0 refl))

pub returns-in_ok-cells-in-Some : goal.returns-in_ok-cells-in-Some
returns-in_ok-cells-in-Some c =
    rw (← c.self.view_is)
    (c.in_ok-cells-in-Some.ensures ∙ ap (λ o. cells_in (unwrap_or o empty)) c.in-Some.ensures ∙ ap (λ (r : Rows). cells_in (row_in r c.args.row.now.bytes)) (at_table c.self.inside.tables c.args.row.now.table c.number.result (slice_index_or c.self.inside.tables c.number.result c.index-self-number.result) c.self.invariant.1 c.number.ensures (ap (slice_index_or c.self.inside.tables c.number.result) c.index-self-number.is))
    ∙ row_cells_read c.self.inside.widths c.self.inside.tables c.self.inside.counters c.args.row.now (λ e. let t = c.if-is_counter_row.ensures.1 e in cc))

pub returns-in-None : goal.returns-in-None
returns-in-None c =
    rw (← c.self.view_is)
    (c.make.ensures ∙ sym cells_none ∙ ap (λ o. cells_in (unwrap_or o empty)) c.in-None.ensures ∙ ap (λ (r : Rows). cells_in (row_in r c.args.row.now.bytes)) (at_table c.self.inside.tables c.args.row.now.table c.number.result (slice_index_or c.self.inside.tables c.number.result c.index-self-number.result) c.self.invariant.1 c.number.ensures (ap (slice_index_or c.self.inside.tables c.number.result) c.index-self-number.is))
    ∙ row_cells_read c.self.inside.widths c.self.inside.tables c.self.inside.counters c.args.row.now (λ e. let t = c.if-is_counter_row.ensures.1 e in cc))

use Rattle.std.proofs.Common.{ℕ, List, sym, ap, subst, ◌∙◌}
use Rattle.cell_model.specs.Store.{Store}
use Rattle.cell_model.specs.Ranges.{InOneRange}
use Rattle.std.specs.Prelude.{Option, Some, None, option_map}
use Rattle.map_body.proofs.store_maps.MapBodyBody.next_row.Goals as goal
use Rattle.std.specs.FinMap.{entries}
use Rattle.std.specs.Prelude as std
use Rattle.packed_cells.specs.Keyed.{CellMap}
use Rattle.row_pages.specs.RowMaps.{Rows}
use Rattle.std.specs.Prelude.{slice_index_or}
use Rattle.map_body.proofs.Bodies.{at_table, some_next, no_next}
use Rattle.map_body.specs.TableRows.{NoneEmpty}
use Rattle.map_body.specs.TableRows.{is_within}

pub returns-in_ok-copy_cells-in-Some : goal.returns-in_ok-copy_cells-in-Some
returns-in_ok-copy_cells-in-Some c =
    rw (← c.self.view_is)
    ((λ i. Some (record { row = record { table = c.args.table; bytes = c.in_ok-again-in-Some.ensures.made i }; cells = c.in_ok-copy_cells-in-Some.ensures i }))
    ∙ some_next c.self.inside.widths c.self.inside.tables c.self.inside.counters c.args.table c.args.from.now c.args.to.now (subst (λ (s : Store). InOneRange s.widths c.args.table c.args.from.now c.args.to.now) (sym c.self.view_is) c.requires.range) (subst NoneEmpty (at_table c.self.inside.tables c.args.table c.number.result (slice_index_or c.self.inside.tables c.number.result c.index-self-number.result) c.self.invariant.1 c.number.ensures (ap (slice_index_or c.self.inside.tables c.number.result) c.index-self-number.is)) c.in-Some.ensures.none_empty) c.in-Some.bytes.now c.in-Some.cells.now
    (c.in-Some.ensures.first ∙ ap (λ (r : Rows). std.find (λ (e : List ℕ × CellMap). is_within c.args.from.now c.args.to.now e.0) (entries r)) (at_table c.self.inside.tables c.args.table c.number.result (slice_index_or c.self.inside.tables c.number.result c.index-self-number.result) c.self.invariant.1 c.number.ensures (ap (slice_index_or c.self.inside.tables c.number.result) c.index-self-number.is))))

pub returns-in-None : goal.returns-in-None
returns-in-None c =
    rw (← c.self.view_is)
    (no_next c.self.inside.widths c.self.inside.tables c.self.inside.counters c.args.table c.args.from.now c.args.to.now (subst (λ (s : Store). InOneRange s.widths c.args.table c.args.from.now c.args.to.now) (sym c.self.view_is) c.requires.range) (subst NoneEmpty (at_table c.self.inside.tables c.args.table c.number.result (slice_index_or c.self.inside.tables c.number.result c.index-self-number.result) c.self.invariant.1 c.number.ensures (ap (slice_index_or c.self.inside.tables c.number.result) c.index-self-number.is)) c.in-None.ensures.none_empty)
    (c.in-None.ensures.first ∙ ap (λ (r : Rows). std.find (λ (e : List ℕ × CellMap). is_within c.args.from.now c.args.to.now e.0) (entries r)) (at_table c.self.inside.tables c.args.table c.number.result (slice_index_or c.self.inside.tables c.number.result c.index-self-number.result) c.self.invariant.1 c.number.ensures (ap (slice_index_or c.self.inside.tables c.number.result) c.index-self-number.is))))

use Rattle.std.proofs.Common.{ℕ, List, ◌++◌, map, sym, ap, ◌∙◌}
use Rattle.map_body.proofs.store_lines.add_rows.Goals as goal
use Rattle.std.specs.FinMap.{entries}
use Rattle.packed_cells.specs.Keyed.{CellMap}
use Rattle.map_body.specs.Whole.{placed, lines_in}
use Rattle.cell_model.specs.Counts.{line_of}
use Rattle.cell_model.specs.declared.row.ListLine.{ListLine}
use Rattle.list_lemmas.proofs.ListCuts.{joined, nothing_behind}
use Rattle.map_body.proofs.CellLines.{lines_next}
use Rattle.map_body.proofs.Rise.{row_rises}

pub add_row-requires : goal.add_row-requires
add_row-requires c =
    row_rises c.args.table c.in-Some.bytes.now c.in-Some.row.now c.loop-bytes.rows c.next.new.self (c.args.listing.now ++ lines_in c.args.table c.args.rows) c.loop-bytes.listing c.in-Some.ensures c.loop-bytes.invariant c.requires

pub loop-bytes-preserved : goal.loop-bytes-preserved
loop-bytes-preserved c =
    ap (λ (l : List ListLine). l ++ lines_in c.args.table c.next.new.self) c.in_ok-add_row.ensures
    ∙ joined c.loop-bytes.listing (map line_of (map (placed (record { table = c.args.table; bytes = c.in-Some.bytes.now })) (entries c.in-Some.row.now))) (lines_in c.args.table c.next.new.self)
    ∙ ap (λ (l : List ListLine). c.loop-bytes.listing ++ l) (sym (lines_next c.args.table c.in-Some.bytes.now c.in-Some.row.now c.next.new.self))
    ∙ ap (λ (r : List (List ℕ × CellMap)). c.loop-bytes.listing ++ lines_in c.args.table r) (sym c.in-Some.ensures)
    ∙ c.loop-bytes.invariant

pub returns : goal.returns
returns c = sym (nothing_behind c.loop-bytes.listing) ∙ ap (λ (r : List (List ℕ × CellMap)). c.loop-bytes.listing ++ lines_in c.args.table r) (sym c.in_default.ensures.0) ∙ c.loop-bytes.invariant

use Rattle.std.proofs.Common.{◌≡◌, ℕ, true, List, ◌++◌, ◌<◌, length, subst, sym, ◌∙◌}
use Rattle.std.specs.Prelude.{All, Some, map}
use Rattle.std.specs.List.{slice_get}
use Rattle.qual_codec.specs.CellDots.{Reads}
use Rattle.qual_codec.specs.Merge.{AreDots}
use Rattle.cell_model.specs.declared.row.ListLine.{ListLine}
use Rattle.listing_dump.specs.RowLines.{EndsRow, cell_of_line, is_points, lines_between}
use Rattle.listing_dump.specs.RowPoints.{tail_of}
use Rattle.listing_dump.proofs.Giving.{on_ok}
use Rattle.listing_dump.proofs.RowTexts.{names_there, part_reads, row_loaded}
use Rattle.listing_dump.proofs.dump.load_row.Goals as goal

pub read_cells-requires-clause-read : goal.read_cells-requires-clause-read
read_cells-requires-clause-read c =
    let l = c.args.listing.now in let r = c.args.row.now in
    let ends = subst (λ (xs : List ListLine). (x : ListLine) → slice_get xs r.line ≡ Some x → is_points x.table ≡ true → EndsRow xs r.line c.row_end-end.result x.row) c.lines-cells.ensures.lines c.row_end-end.ensures.rows in
    subst (λ (xs : List ListLine). All (λ (x : ListLine). Reads x.qual x.value) (lines_between xs r.line c.row_end-end.result)) (sym c.lines-cells.ensures.lines) (part_reads l c.lines-cells.ensures.rising c.requires.sound r c.requires.row c.row_end-end.result ends)

pub push_tail-requires : goal.push_tail-requires
push_tail-requires c =
    let l = c.args.listing.now in let r = c.args.row.now in
    subst (λ (p : List ListLine × List (ℕ × ℕ)). All (λ (t : ℕ × ℕ). (t.0 < length p.0) × (t.1 < length p.0)) p.1) (λ i. ((sym c.lines-cells.ensures.lines) i, (sym c.as_slice.ensures.value) i)) (names_there l r c.requires.row).2

pub returns : goal.returns
returns c =
    let l = c.args.listing.now in let r = c.args.row.now in
    let ends = subst (λ (xs : List ListLine). (x : ListLine) → slice_get xs r.line ≡ Some x → is_points x.table ≡ true → EndsRow xs r.line c.row_end-end.result x.row) c.lines-cells.ensures.lines c.row_end-end.ensures.rows in
    on_ok c.push_tail.result
    (λ e.
    row_loaded l c.lines-cells.ensures.rising c.requires.sound r c.requires.row c.row_end-end.result ends c.read_cells.new.dots.items c.keep_best.new.dots.items c.push_tail.new.text.items
    (subst (λ (xs : List ListLine). AreDots (map cell_of_line (lines_between xs r.line c.row_end-end.result)) c.read_cells.new.dots.items) c.lines-cells.ensures.lines c.in_ok-read_cells.ensures)
    c.in_ok-keep_best.ensures (e ∙ (λ i. c.clear-2.ensures.items i ++ tail_of (c.lines-cells.ensures.lines i) (c.as_slice.ensures.value i))))
    c.push_tail.ensures

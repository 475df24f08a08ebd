use Rattle.std.proofs.Common.{◌≡◌, List, ℕ, false, ap, sym, rules, ◌∙◌}
use Rattle.cell_model.specs.declared.row.ListLine.{ListLine}
use Rattle.listing_dump.specs.RowLines.{is_of_row}
use Rattle.listing_dump.proofs.Turns.{none_past, other_row, row_ends, row_first, row_more}
use Rattle.listing_dump.proofs.row_places.row_end.Goals as goal

pub lines-init : goal.lines-init
lines-init c = record { later = search rules; within = search rules; rows = row_first c.args.cells.now c.args.from }

pub lines-preserved : goal.lines-preserved
lines-preserved c = record {
  later = search rules;
  within = search rules;
  rows = row_more c.args.cells.now c.args.from c.lines.end c.index-cells-from.result c.index-cells-end.result c.requires c.lines-test.true c.index-cells-from.is c.index-cells-end.is
      (ap (λ (r : List ℕ). is_of_row r c.index-cells-end.result) (ap (λ (l : ListLine). l.row) c.index-cells-from.is ∙ sym c.list-row.ensures) ∙ sym c.is_of_row.ensures ∙ c.if-is_of_row.true) c.lines.invariant.rows;
}

pub returns-after-lines-clause-rows : goal.returns-after-lines-clause-rows
returns-after-lines-clause-rows c =
    row_ends c.args.cells.now c.args.from c.lines.end c.index-cells-from.result c.requires c.index-cells-from.is c.lines.invariant.later c.lines.invariant.within c.lines.invariant.rows
    (none_past (λ (l : ListLine). is_of_row c.index-cells-from.result.row l ≡ false) c.args.cells.now c.lines.end c.lines-test.false)

pub returns-else-is_of_row-clause-rows : goal.returns-else-is_of_row-clause-rows
returns-else-is_of_row-clause-rows c =
    row_ends c.args.cells.now c.args.from c.lines.end c.index-cells-from.result c.requires c.index-cells-from.is c.lines.invariant.later c.lines.invariant.within c.lines.invariant.rows
    (other_row c.args.cells.now c.lines.end c.index-cells-from.result.row c.index-cells-end.result c.lines-test.true c.index-cells-end.is
    (ap (λ (r : List ℕ). is_of_row r c.index-cells-end.result) (ap (λ (l : ListLine). l.row) c.index-cells-from.is ∙ sym c.list-row.ensures) ∙ sym c.is_of_row.ensures ∙ c.if-is_of_row.false))

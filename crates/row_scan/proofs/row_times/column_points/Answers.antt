use Rattle.std.proofs.Common.{◌≡◌, true, ap, sym, ◌∙◌, arith, rules}
use Rattle.qual_codec.specs.declared.cells.Cell.{Cell}
use Rattle.row_scan.proofs.PointsAtTimes.{column_answer}
use Rattle.row_scan.proofs.row_times.column_points.Goals as goal

pub returns : goal.returns
returns c =
    let cell : Cell = c.cell-cell.result in
    let len = c.len.ensures in
    let yes : c.is_column.result ≡ true = search rules in
    column_answer c.args.cells.now cell c.cell.inside.value.now c.args.base c.args.first c.args.last c.piece_points.result (omega (arith, len, c.if-len-ne1.false)) (c.cell-cell.ensures.cell cell)
    (sym (ap (λ (x : Cell). x.qual) c.cell.view_is) ∙ c.is_column.ensures.0 yes) (ap (λ (x : Cell). x.value) c.cell.view_is) c.piece_points.ensures

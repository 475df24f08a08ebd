use Rattle.cell_model.specs.declared.row.Row.{Row}
use Rattle.test_rows.proofs.Lines.{found_at, value_looked}
use Rattle.test_rows.proofs.base.value_in.Goals as goal

pub returns-then-is_at : goal.returns-then-is_at
returns-then-is_at c =
    let row : Row = record { table = c.args.table; bytes = c.args.row.now } in
    value_looked c.args.lines.now row c.args.qual.now c.list.result.now c.line-item.result (found_at c.args.lines.now c.loop-line.line-index c.line-item.result _ c.is_at.result c.loop-line-test.true c.line-item.is c.loop-line.invariant c.is_at.ensures c.if-is_at.true) c.list.ensures

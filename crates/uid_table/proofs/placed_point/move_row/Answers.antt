use Rattle.std.proofs.Common.{◌+◌, ◌≤◌, length, sym, subst}
use Rattle.uid_table.proofs.RowLengths.{row_least, row_moved, row_most}
use Rattle.uid_table.proofs.placed_point.move_row.Goals as goal

pub bytes_at-requires-clause-least : goal.bytes_at-requires-clause-least
bytes_at-requires-clause-least c = subst (λ l. c.args.metric_width + 4 ≤ length l) (sym c.list.ensures) (row_least c.args.metric_width c.args.row.now c.requires.0 c.requires.1)

pub bytes_at-requires-clause-most : goal.bytes_at-requires-clause-most
bytes_at-requires-clause-most c = subst (λ l. length l ≤ 72) (sym c.list.ensures) (row_most c.args.metric_width c.args.row.now c.requires.0 c.requires.1)

pub returns-clause-ok : goal.returns-clause-ok
returns-clause-ok c = row_moved c.args.metric_width c.args.base c.args.row.now c.list.result.now c.in_ok-row.field-0 c.list.ensures c.in_ok-row.ensures

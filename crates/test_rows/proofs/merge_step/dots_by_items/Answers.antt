use Rattle.test_rows.proofs.Allowing.{not_column}
use Rattle.test_rows.proofs.merge_step.dots_by_items.Goals as goal

pub returns-in-Ok : goal.returns-in-Ok
returns-in-Ok c = not_column c.args.qual.now c.args.value.now c.in-Ok.dots.items c.if-is_column.ensures c.in-Ok.ensures.reads

use Rattle.std.proofs.Common.{ap, ◌∙◌, arith}
use Rattle.std.specs.FinMap.{insert}
use Rattle.map_body.proofs.Maps.{put_back, set_count, on_err}
use Rattle.map_body.proofs.table_rows.append_to.Goals as goal

pub returns-in_err-added-in-Some-clause-err : goal.returns-in_err-added-in-Some-clause-err
returns-in_err-added-in-Some-clause-err c =
    on_err c.from_residual.result (ap (insert c.args.rows.now c.args.row.now) c.in_err-added-in-Some.ensures.err ∙ put_back c.args.rows.now c.args.row.now c.in-Some.cells.now c.in-Some.ensures.value)

pub returns-in_ok-added-in-Some-clause-count : goal.returns-in_ok-added-in-Some-clause-count
returns-in_ok-added-in-Some-clause-count c =
    let count = set_count c.args.rows.now c.args.row.now c.in-Some.cells.now c.append_more.new.cells c.in-Some.ensures.value in
    omega (arith, count, c.in_ok-added-in-Some.ensures.count)

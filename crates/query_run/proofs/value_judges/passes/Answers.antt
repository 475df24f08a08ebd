use Rattle.std.proofs.Common.{rules}
use Rattle.metric_scan.specs.RowNames.{known}
use Rattle.query_run.proofs.ValueJudging.{judged_now}
use Rattle.query_run.proofs.value_judges.passes.Goals as goal

pub returns : goal.returns
returns c =
    judged_now (known c.args.names.now) c.args.judge.now (record { judge = c.passes-passes.new.self; judged = c.insert.new.self }) c.args.id c.in-Some-get.name.now c.passes-passes.result (search rules) c.passes-passes.ensures.passes c.passes-passes.ensures.same
    c.in_ok-insert.ensures.updates.0

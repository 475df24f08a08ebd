use Rattle.std.proofs.Common.{rules}
use Rattle.metric_scan.specs.RowNames.{known}
use Rattle.query_run.proofs.ValueJudging.{same_key_ok}
use Rattle.query_run.proofs.value_judges.passes_pair.Goals as goal

pub returns : goal.returns
returns c = same_key_ok (known c.args.names.now) c.args.judge.now c.passes.new.judge c.args.key c.args.pair c.passes.result (search rules) c.passes.ensures

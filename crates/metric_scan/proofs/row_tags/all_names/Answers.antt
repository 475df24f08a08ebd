use Rattle.metric_scan.specs.RowNames.{known}
use Rattle.metric_scan.proofs.TagNames.{has_key, has_value, names_more}
use Rattle.metric_scan.proofs.row_tags.all_names.Goals as goal

pub pair_names-requires-clause-key : goal.pair_names-requires-clause-key
pair_names-requires-clause-key c = has_key (known c.args.names.now) c.args.pairs.now c.loop-pair.pair-index c.loop-pair-test.true c.requires

pub pair_names-requires-clause-value : goal.pair_names-requires-clause-value
pair_names-requires-clause-value c = has_value (known c.args.names.now) c.args.pairs.now c.loop-pair.pair-index c.loop-pair-test.true c.requires

pub loop-pair-preserved : goal.loop-pair-preserved
loop-pair-preserved c = names_more (known c.args.names.now) c.args.pairs.now c.loop-pair.pair-index c.loop-pair.list.items c.push.new.self.items c.in_ok-pair_names.field-0 c.loop-pair-test.true c.loop-pair.invariant c.in_ok-pair_names.ensures c.in_ok-push.ensures.items

use Rattle.std.proofs.Common.{◌++◌}
use Rattle.tsd_base.specs.declared.kinds.Kind.TheVariants.{Metric, TagKey, TagValue}
use Rattle.http_assign.specs.AssignLists.{of_kind, outcomes_of, texts_in}
use Rattle.http_assign.proofs.TextRuns.{all_three, at_err, first_ends, made_more, second_ends, third_ends}
use Rattle.http_assign.proofs.assign_lists.assign_lists.Goals as goal

pub returns-in_err-metrics-clause-since : goal.returns-in_err-metrics-clause-since
returns-in_err-metrics-clause-since g c = c.assign_list.ensures.made.1.since

pub returns-in_err-metrics-clause-err : goal.returns-in_err-metrics-clause-err
returns-in_err-metrics-clause-err g c = at_err c.from_residual.result (first_ends c.args.rule.now.patterns (of_kind Metric (texts_in c.args.metric.now)) ((of_kind TagKey (texts_in c.args.tagk.now)) ++ (of_kind TagValue (texts_in c.args.tagv.now))) (g.R.Rows.seen c.args.names.now.rows) (g.R.Rows.seen c.assign_list.new.names.rows) c.in_err-metrics.ensures.err)

pub returns-in_err-tag_keys-clause-since : goal.returns-in_err-tag_keys-clause-since
returns-in_err-tag_keys-clause-since g c = (made_more (g.R.Rows.seen c.args.names.now.rows) (g.R.Rows.seen c.assign_list.new.names.rows) (g.R.Rows.seen c.assign_list-2.new.names.rows) c.assign_list.ensures.made c.assign_list-2.ensures.made).1.since

pub returns-in_err-tag_keys-clause-err : goal.returns-in_err-tag_keys-clause-err
returns-in_err-tag_keys-clause-err g c =
    at_err c.from_residual-in_err-tag_keys.result (second_ends c.args.rule.now.patterns (of_kind Metric (texts_in c.args.metric.now)) (of_kind TagKey (texts_in c.args.tagk.now)) (of_kind TagValue (texts_in c.args.tagv.now)) (g.R.Rows.seen c.args.names.now.rows) (g.R.Rows.seen c.assign_list.new.names.rows) (g.R.Rows.seen c.assign_list-2.new.names.rows) (outcomes_of c.in_ok-metrics.metrics.items) c.in_ok-metrics.ensures.ok c.in_err-tag_keys.ensures.err)

pub returns-in_err-tag_values-clause-since : goal.returns-in_err-tag_values-clause-since
returns-in_err-tag_values-clause-since g c = (made_more (g.R.Rows.seen c.args.names.now.rows) (g.R.Rows.seen c.assign_list-2.new.names.rows) (g.R.Rows.seen c.assign_list-3.new.names.rows) (made_more (g.R.Rows.seen c.args.names.now.rows) (g.R.Rows.seen c.assign_list.new.names.rows) (g.R.Rows.seen c.assign_list-2.new.names.rows) c.assign_list.ensures.made c.assign_list-2.ensures.made) c.assign_list-3.ensures.made).1.since

pub returns-in_err-tag_values-clause-err : goal.returns-in_err-tag_values-clause-err
returns-in_err-tag_values-clause-err g c =
    at_err c.from_residual-in_err-tag_values.result
    (third_ends c.args.rule.now.patterns (of_kind Metric (texts_in c.args.metric.now)) (of_kind TagKey (texts_in c.args.tagk.now)) (of_kind TagValue (texts_in c.args.tagv.now)) (g.R.Rows.seen c.args.names.now.rows) (g.R.Rows.seen c.assign_list.new.names.rows) (g.R.Rows.seen c.assign_list-2.new.names.rows) (g.R.Rows.seen c.assign_list-3.new.names.rows) (outcomes_of c.in_ok-metrics.metrics.items) (outcomes_of c.in_ok-tag_keys.tag_keys.items) c.in_ok-metrics.ensures.ok c.in_ok-tag_keys.ensures.ok c.in_err-tag_values.ensures.err)

pub returns-clause-since : goal.returns-clause-since
returns-clause-since g c = (made_more (g.R.Rows.seen c.args.names.now.rows) (g.R.Rows.seen c.assign_list-2.new.names.rows) (g.R.Rows.seen c.assign_list-3.new.names.rows) (made_more (g.R.Rows.seen c.args.names.now.rows) (g.R.Rows.seen c.assign_list.new.names.rows) (g.R.Rows.seen c.assign_list-2.new.names.rows) c.assign_list.ensures.made c.assign_list-2.ensures.made) c.assign_list-3.ensures.made).1.since

pub returns-clause-ok : goal.returns-clause-ok
returns-clause-ok g c =
    all_three c.args.rule.now.patterns (of_kind Metric (texts_in c.args.metric.now)) (of_kind TagKey (texts_in c.args.tagk.now)) (of_kind TagValue (texts_in c.args.tagv.now)) (g.R.Rows.seen c.args.names.now.rows) (g.R.Rows.seen c.assign_list.new.names.rows) (g.R.Rows.seen c.assign_list-2.new.names.rows) (g.R.Rows.seen c.assign_list-3.new.names.rows) (outcomes_of c.in_ok-metrics.metrics.items) (outcomes_of c.in_ok-tag_keys.tag_keys.items) (outcomes_of c.in_ok-tag_values.tag_values.items) c.in_ok-metrics.ensures.ok c.in_ok-tag_keys.ensures.ok c.in_ok-tag_values.ensures.ok

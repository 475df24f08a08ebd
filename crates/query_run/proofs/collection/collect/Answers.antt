use Rattle.std.proofs.Common.{sym, subst}
use Rattle.query_run.specs.ValueJudges.{filters_of}
use Rattle.metric_scan.specs.RowNames.{Names}
use Rattle.metric_scan.specs.Walks.{row_range}
use Rattle.query_run.specs.Collection.{CollectSays, HasCollected}
use Rattle.metric_scan.proofs.NameReads.{passed_on}
use Rattle.query_run.proofs.collection.collect.Goals as goal

pub returns-in_err-collect_left-clause-says : goal.returns-in_err-collect_left-clause-says
returns-in_err-collect_left-clause-says g c = λ id walked.
    passed_on (λ r. CollectSays (row_range id c.args.start c.args.end (g.R.Rows.seen c.args.names.now.rows)) c.args.rows.filters.items (filters_of c.args.judges.items) c.args.how r (g.R.Rows.seen c.collect_left.new.names.rows)) c.in_err-collect_left.field-0.0 c.from_residual.result c.from_residual.ensures.1
    (c.in_err-collect_left.ensures.says id walked)

pub returns-clause-says : goal.returns-clause-says
returns-clause-says g c = λ id walked.
    let kept = c.in_ok-collect_left.ensures.says id walked in
    record {
      spans = kept.spans;
      keeps = kept.keeps;
      collected = subst (λ (n : Names). HasCollected (row_range id c.args.start c.args.end (g.R.Rows.seen c.args.names.now.rows)) c.args.rows.filters.items (filters_of c.args.judges.items) kept.spans n (g.R.Rows.seen c.collect_left.new.names.rows)) (sym c.into_names.ensures) kept.collected;
    }

use Rattle.std.proofs.Common.{List, subst, ◌∙◌, arith}
use Rattle.query_text.specs.declared.queries.Filter.{Filter}
use Rattle.metric_scan.specs.declared.fault.AskFault.TheVariants.{OutOfMemory}
use Rattle.metric_scan.specs.RowNames.{known}
use Rattle.query_run.specs.Collection.{WasCut, KeepsCollected}
use Rattle.query_run.specs.SubQuery.{SubSays}
use Rattle.metric_scan.specs.Walks.{row_range}
use Rattle.metric_scan.proofs.NameReads.{passed_on}
use Rattle.query_run.proofs.OneSub.{sub_unbuilt, judges_as_many, names_refused, begun, collect_refused, are_collected, groups_answered, groups_stops}
use Rattle.query_run.proofs.sub_query.work.Goals as goal

pub returns-in_err-built-clause-says : goal.returns-in_err-built-clause-says
returns-in_err-built-clause-says g c =
    passed_on (λ r. SubSays c.args.query.now c.args.sub.now (g.R.Rows.seen c.args.names.now.rows) r (g.R.Rows.seen c.args.names.now.rows)) c.in_err-built.field-0.0 c.from_residual.result c.from_residual.ensures.1
    (sub_unbuilt c.args.query.now c.args.sub.now _ c.in_err-built.field-0.0 c.in_err-built.ensures)

pub returns-in_err-rows-clause-says : goal.returns-in_err-rows-clause-says
returns-in_err-rows-clause-says g c =
    passed_on (λ r. SubSays c.args.query.now c.args.sub.now (g.R.Rows.seen c.args.names.now.rows) r (g.R.Rows.seen c.begin.new.names.rows)) c.in_err-rows.field-0.0 c.from_residual-in_err-rows.result c.from_residual-in_err-rows.ensures.1
    (names_refused c.args.query.now c.args.sub.now _ _ c.in_err-rows.field-0.0 c.in_ok-built.ensures.1 c.in_err-rows.ensures.says)

pub returns-in_err-each-clause-says : goal.returns-in_err-each-clause-says
returns-in_err-each-clause-says g c =
    passed_on (λ r. SubSays c.args.query.now c.args.sub.now (g.R.Rows.seen c.args.names.now.rows) r (g.R.Rows.seen c.args.names.now.rows)) OutOfMemory c.from_residual-in_err-each.result c.from_residual-in_err-each.ensures.1 (sub_unbuilt c.args.query.now c.args.sub.now _ OutOfMemory tt)

pub returns-in_err-judges-clause-says : goal.returns-in_err-judges-clause-says
returns-in_err-judges-clause-says g c =
    passed_on (λ r. SubSays c.args.query.now c.args.sub.now (g.R.Rows.seen c.args.names.now.rows) r (g.R.Rows.seen c.args.names.now.rows)) OutOfMemory c.from_residual-in_err-judges.result c.from_residual-in_err-judges.ensures.1 (sub_unbuilt c.args.query.now c.args.sub.now _ OutOfMemory tt)

pub collect-requires-clause-as_many : goal.collect-requires-clause-as_many
collect-requires-clause-as_many g c =
    judges_as_many c.args.sub.now _ c.in_ok-rows.rows.filters.items c.in_ok-judges.judges.items c.in_ok-rows.ensures.says.1.by (c.in_ok-judges.ensures.filters_are ∙ c.in_ok-each.ensures ∙ c.in_ok-built.ensures.0)

pub collect-requires-clause-fresh : goal.collect-requires-clause-fresh
collect-requires-clause-fresh g c = (c.in_ok-each.each.items, c.in_ok-judges.ensures)

pub collect-requires-clause-begun : goal.collect-requires-clause-begun
collect-requires-clause-begun g c = let a = c.in_ok-rows.ensures.says.1 in (a.id, a.walked)

pub returns-in_err-collected-clause-says : goal.returns-in_err-collected-clause-says
returns-in_err-collected-clause-says g c =
    let q = c.args.query.now in
    let s = c.args.sub.now in
    let a = c.in_ok-rows.ensures.says.1 in
    let cut = subst (λ (l : List Filter). WasCut (row_range a.id q.start q.end (g.R.Rows.seen c.begin.new.names.rows)) c.in_ok-rows.rows.filters.items l c.in_err-collected.field-0.0 (g.R.Rows.seen c.collect.new.names.rows)) (c.in_ok-judges.ensures.filters_are ∙ c.in_ok-each.ensures ∙ c.in_ok-built.ensures.0) (c.in_err-collected.ensures.says a.id a.walked) in
    passed_on (λ r. SubSays q s (g.R.Rows.seen c.args.names.now.rows) r (g.R.Rows.seen c.collect.new.names.rows)) c.in_err-collected.field-0.0 c.from_residual-in_err-collected.result c.from_residual-in_err-collected.ensures.1
    (collect_refused q s _ _ _ a.id c.in_ok-rows.rows.filters.items c.in_ok-built.ensures.1 c.in_err-collected.field-0.0 cut (begun s q.start q.end c.in_ok-rows.rows _ _ _ cut.own c.in_ok-rows.ensures.says.0 a cut.made))

pub groups-requires-clause-collected : goal.groups-requires-clause-collected
groups-requires-clause-collected g c =
    let q = c.args.query.now in
    let a = c.in_ok-rows.ensures.says.1 in
    let kept = subst (λ (l : List Filter). KeepsCollected (row_range a.id q.start q.end (g.R.Rows.seen c.begin.new.names.rows)) c.in_ok-rows.rows.filters.items l c.down_of-how.result c.in_ok-collected.collected (g.R.Rows.seen c.collect.new.names.rows)) (c.in_ok-judges.ensures.filters_are ∙ c.in_ok-each.ensures ∙ c.in_ok-built.ensures.0) (c.in_ok-collected.ensures.says a.id a.walked) in
    (kept.spans, are_collected c.in_ok-rows.rows.filters.items c.down_of-how.result c.args.query.now c.args.sub.now a.id _ _ c.in_ok-collected.collected c.down_of-how.ensures.down kept c.in_ok-collected.ensures.leaves.possible)

pub returns-clause-says : goal.returns-clause-says
returns-clause-says g c =
    let q = c.args.query.now in
    let s = c.args.sub.now in
    let a = c.in_ok-rows.ensures.says.1 in
    let kept = subst (λ (l : List Filter). KeepsCollected (row_range a.id q.start q.end (g.R.Rows.seen c.begin.new.names.rows)) c.in_ok-rows.rows.filters.items l c.down_of-how.result c.in_ok-collected.collected (g.R.Rows.seen c.collect.new.names.rows)) (c.in_ok-judges.ensures.filters_are ∙ c.in_ok-each.ensures ∙ c.in_ok-built.ensures.0) (c.in_ok-collected.ensures.says a.id a.walked) in
    let all = kept.collected in
    let are = are_collected c.in_ok-rows.rows.filters.items c.down_of-how.result q s a.id _ _ c.in_ok-collected.collected c.down_of-how.ensures.down kept c.in_ok-collected.ensures.leaves.possible in
    groups_answered q s _ _ _ a.id c.in_ok-rows.rows.filters.items c.in_ok-built.ensures.1 kept.spans (known c.in_ok-collected.collected.names) c.scan_covers.ensures all
    (begun s q.start q.end c.in_ok-rows.rows _ _ _ all.own c.in_ok-rows.ensures.says.0 a all.all.made) c.groups.result (c.groups.ensures.says kept.spans are)

pub returns-clause-stops : goal.returns-clause-stops
returns-clause-stops g c =
    let q = c.args.query.now in
    let s = c.args.sub.now in
    let a = c.in_ok-rows.ensures.says.1 in
    let kept = subst (λ (l : List Filter). KeepsCollected (row_range a.id q.start q.end (g.R.Rows.seen c.begin.new.names.rows)) c.in_ok-rows.rows.filters.items l c.down_of-how.result c.in_ok-collected.collected (g.R.Rows.seen c.collect.new.names.rows)) (c.in_ok-judges.ensures.filters_are ∙ c.in_ok-each.ensures ∙ c.in_ok-built.ensures.0) (c.in_ok-collected.ensures.says a.id a.walked) in
    let are = are_collected c.in_ok-rows.rows.filters.items c.down_of-how.result q s a.id _ _ c.in_ok-collected.collected c.down_of-how.ensures.down kept c.in_ok-collected.ensures.leaves.possible in
    let first = c.in_ok-rows.ensures.leaves.grows in
    let last = c.in_ok-collected.ensures.leaves.grows in
    groups_stops q s (known c.in_ok-collected.collected.names) kept.spans c.groups.result _ _ (c.groups.ensures.says kept.spans are) (omega (arith, first, last))

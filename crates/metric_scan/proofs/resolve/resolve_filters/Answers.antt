use Rattle.std.proofs.Common.{Vec, Global, arith}
use Rattle.std.specs.List.{flat_map}
use Rattle.metric_scan.specs.declared.fault.AskFault.TheVariants.{OutOfMemory}
use Rattle.metric_scan.specs.declared.id_filter.IdFilter.{IdFilter}
use Rattle.metric_scan.specs.IdFilters.{AreIdFilters, IsIdFilter}
use Rattle.metric_scan.specs.SubNames.{filter_names}
use Rattle.metric_scan.specs.ResolvedIds.{Resolves}
use Rattle.metric_scan.proofs.NameReads.{passed_on}
use Rattle.metric_scan.proofs.NameIds.{by_filter_later, far_none, far_more, far_fails, far_lost, far_all}
use Rattle.metric_scan.proofs.resolve.resolve_filters.Goals as goal

pub loop-filter-init : goal.loop-filter-init
loop-filter-init g c = record { far = far_none filter_names IsIdFilter by_filter_later _ c.new-list.result.items c.new-list.ensures.items; possible = c.requires.possible; grows = omega arith }

pub returns-in_err-resolve_filter-clause-says : goal.returns-in_err-resolve_filter-clause-says
returns-in_err-resolve_filter-clause-says g c =
    passed_on (λ r. Resolves {X = Vec IdFilter Global} (g.R.Rows.seen c.args.names.now.rows) (flat_map filter_names c.args.filters.now) (λ s list. AreIdFilters s c.args.filters.now list.items) r (g.R.Rows.seen c.resolve_filter.new.names.rows)) c.in_err-resolve_filter.field-0.0 c.from_residual.result c.from_residual.ensures.1
    (far_fails filter_names IsIdFilter by_filter_later _ _ _ c.args.filters.now c.loop-filter.filter-index c.filter-item.result c.loop-filter.list.items c.loop-filter-test.true c.filter-item.is c.loop-filter.invariant.far c.in_err-resolve_filter.field-0.0 c.in_err-resolve_filter.ensures.says)

pub returns-in_err-push-clause-says : goal.returns-in_err-push-clause-says
returns-in_err-push-clause-says g c =
    passed_on (λ r. Resolves {X = Vec IdFilter Global} (g.R.Rows.seen c.args.names.now.rows) (flat_map filter_names c.args.filters.now) (λ s list. AreIdFilters s c.args.filters.now list.items) r (g.R.Rows.seen c.resolve_filter.new.names.rows)) OutOfMemory c.from_residual-in_err-push.result c.from_residual-in_err-push.ensures.1
    (far_lost filter_names IsIdFilter by_filter_later _ _ _ c.args.filters.now c.loop-filter.filter-index c.filter-item.result c.loop-filter.list.items c.loop-filter-test.true c.filter-item.is c.loop-filter.invariant.far c.in_ok-resolve_filter.ensures.says.0)

pub loop-filter-preserved : goal.loop-filter-preserved
loop-filter-preserved g c = record {
  far = far_more filter_names IsIdFilter by_filter_later _ _ _ c.args.filters.now c.loop-filter.filter-index c.filter-item.result c.loop-filter.list.items c.loop-filter-test.true c.filter-item.is c.loop-filter.invariant.far c.in_ok-resolve_filter.field-0 c.push.new.self.items c.in_ok-resolve_filter.ensures.says.0
      c.in_ok-resolve_filter.ensures.says.1 c.in_ok-push.ensures.items;
  possible = c.in_ok-resolve_filter.ensures.leaves.possible;
  grows = let a = c.loop-filter.invariant.grows in let b = c.in_ok-resolve_filter.ensures.leaves.grows in omega (arith, a, b);
}

pub returns-clause-says : goal.returns-clause-says
returns-clause-says g c =
    let far = far_all filter_names IsIdFilter by_filter_later _ _ c.args.filters.now c.loop-filter.filter-index c.loop-filter.list.items c.loop-filter-test.false c.loop-filter.invariant.far in
    (far.resolved, far.are)

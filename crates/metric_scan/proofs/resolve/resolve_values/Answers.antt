use Rattle.std.proofs.Common.{map, List, ℕ, Vec, Global, subst, arith}
use Rattle.tsd_base.specs.declared.kinds.Kind.TheVariants.{TagValue}
use Rattle.metric_scan.specs.declared.fault.AskFault.TheVariants.{OutOfMemory}
use Rattle.metric_scan.specs.IdFilters.{AreIds}
use Rattle.metric_scan.specs.Parts.{NameOf}
use Rattle.metric_scan.specs.ResolvedIds.{AreResolved, IsUnresolved, Resolves}
use Rattle.metric_scan.proofs.NameReads.{passed_on}
use Rattle.metric_scan.proofs.NameIds.{IsValue, value_name, value_names, value_later, far_none, far_more, far_fails, far_lost, far_all}
use Rattle.metric_scan.proofs.resolve.resolve_values.Goals as goal

pub loop-value-init : goal.loop-value-init
loop-value-init g c = record { far = far_none value_name IsValue value_later _ c.new-ids.result.items c.new-ids.ensures.items; possible = c.requires.possible; grows = omega arith }

pub returns-in_err-resolve_name-clause-says : goal.returns-in_err-resolve_name-clause-says
returns-in_err-resolve_name-clause-says g c =
    let old = g.R.Rows.seen c.args.names.now.rows in
    let new = g.R.Rows.seen c.resolve_name.new.names.rows in
    passed_on (λ r. Resolves {X = Vec ℕ Global} old (map (λ name. (TagValue, name)) c.args.values.now) (λ s ids. AreIds s c.args.values.now ids.items) r new) c.in_err-resolve_name.field-0.0 c.from_residual.result c.from_residual.ensures.1
    (subst (λ (l : List NameOf). IsUnresolved old l c.in_err-resolve_name.field-0.0 new) (value_names c.args.values.now)
    (far_fails value_name IsValue value_later _ _ _ c.args.values.now c.loop-value.value-index c.value-item.result c.loop-value.ids.items c.loop-value-test.true c.value-item.is c.loop-value.invariant.far c.in_err-resolve_name.field-0.0 c.in_err-resolve_name.ensures.says))

pub returns-in_err-push-clause-says : goal.returns-in_err-push-clause-says
returns-in_err-push-clause-says g c =
    let old = g.R.Rows.seen c.args.names.now.rows in
    let new = g.R.Rows.seen c.resolve_name.new.names.rows in
    passed_on (λ r. Resolves {X = Vec ℕ Global} old (map (λ name. (TagValue, name)) c.args.values.now) (λ s ids. AreIds s c.args.values.now ids.items) r new) OutOfMemory c.from_residual-in_err-push.result c.from_residual-in_err-push.ensures.1
    (subst (λ (l : List NameOf). IsUnresolved old l OutOfMemory new) (value_names c.args.values.now)
    (far_lost value_name IsValue value_later _ _ _ c.args.values.now c.loop-value.value-index c.value-item.result c.loop-value.ids.items c.loop-value-test.true c.value-item.is c.loop-value.invariant.far c.in_ok-resolve_name.ensures.says.0))

pub loop-value-preserved : goal.loop-value-preserved
loop-value-preserved g c = record {
  far = far_more value_name IsValue value_later _ _ _ c.args.values.now c.loop-value.value-index c.value-item.result c.loop-value.ids.items c.loop-value-test.true c.value-item.is c.loop-value.invariant.far c.in_ok-resolve_name.field-0 c.push.new.self.items c.in_ok-resolve_name.ensures.says.0
      c.in_ok-resolve_name.ensures.says.1 c.in_ok-push.ensures.items;
  possible = c.in_ok-resolve_name.ensures.leaves.possible;
  grows = let a = c.loop-value.invariant.grows in let b = c.in_ok-resolve_name.ensures.leaves.grows in omega (arith, a, b);
}

pub returns-clause-says : goal.returns-clause-says
returns-clause-says g c =
    let far = far_all value_name IsValue value_later _ _ c.args.values.now c.loop-value.value-index c.loop-value.ids.items c.loop-value-test.false c.loop-value.invariant.far in
    (subst (λ (l : List NameOf). AreResolved (g.R.Rows.seen c.args.names.now.rows) l (g.R.Rows.seen c.loop-value.names.rows)) (value_names c.args.values.now) far.resolved, far.are)

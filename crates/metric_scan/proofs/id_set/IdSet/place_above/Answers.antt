use Rattle.std.proofs.Common.{rules, leb, sym, subst, ◌∙◌}
use Rattle.std.proofs.lemmas.List.Sorted.{IsPartitionPoint-from_clause, IsPartitionedBy-leb}
use Rattle.metric_scan.specs.IdSets.{Rise}
use Rattle.metric_scan.proofs.IdSets.{place_is}
use Rattle.metric_scan.proofs.id_set.IdSet.place_above.Goals as goal

pub returns : goal.returns
returns c =
    place_is c.args.self.now c.deref.result.now c.args.value c.partition_point.result (c.deref.ensures.value ∙ c.self.view_is) c.partition_point.ensures.bound
    (IsPartitionPoint-from_clause (λ y. leb y c.args.value) c.deref.result.now c.partition_point.result c.partition_point.ensures.partitioned
    (IsPartitionedBy-leb (λ id. id) c.deref.result.now c.args.value (subst Rise (sym c.deref.ensures.value) c.self.invariant)) (λ a r f k. search rules))

use Rattle.metric_scan.proofs.IdSets.{sorted_rise}
use Rattle.metric_scan.proofs.id_set.IdSet.of.Goals as goal

pub invariant_of-result : goal.invariant_of-result
invariant_of-result c = sorted_rise c.sort_unstable.new.self.items c.sort_unstable.ensures.sorted

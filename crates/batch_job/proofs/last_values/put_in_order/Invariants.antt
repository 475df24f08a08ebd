use Rattle.std.proofs.Common.{◌≡◌, ℕ, take}
use Rattle.std.specs.BTreeMap.{get}
use Rattle.std.specs.Ordering.{nat_cmp}
use Rattle.batch_job.specs.LastValues.{last_at}
use Rattle.batch_job.proofs.last_values.put_in_order.Given as goal

abbrev pub invariant-loop-value : goal.invariant-loop-value
invariant-loop-value l = (time : ℕ) → get nat_cmp l.map time ≡ last_at (take l.value-index l.values) time

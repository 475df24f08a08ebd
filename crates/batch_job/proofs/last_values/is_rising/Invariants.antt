use Rattle.std.proofs.Common.{take}
use Rattle.tsd_base.specs.Dots.{IsRising}
use Rattle.batch_job.proofs.SettleLemmas.{IsUpTo}
use Rattle.batch_job.proofs.last_values.is_rising.Given as goal

abbrev pub invariant-loop-value : goal.invariant-loop-value
invariant-loop-value l = record {
  rising : IsRising (take l.value-index l.values);
  latest : IsUpTo l.latest (take l.value-index l.values);
}

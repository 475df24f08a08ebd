use Rattle.std.proofs.Common.{◌-◌, ◌≤◌}
use Rattle.lerp_aggregate.proofs.Bundling.{Made}
use Rattle.lerp_aggregate.proofs.cursors.Bundle.start.Given as goal

abbrev pub invariant-loop-index : goal.invariant-loop-index
invariant-loop-index l = record {
  begun : l.first ≤ l.index;
  made : Made l.list l.first (l.index - l.first) l.cursors.items l.next;
}

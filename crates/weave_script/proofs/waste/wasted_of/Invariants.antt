use Rattle.std.proofs.Common.{◌≡◌, ◌≤◌}
use Rattle.weave_script.specs.WovenCounts.{wasted_of}
use Rattle.weave_script.proofs.waste.wasted_of.Given as goal

abbrev pub invariant-loop-earlier : goal.invariant-loop-earlier
invariant-loop-earlier l = record {
  counted : l.wasted ≡ wasted_of l.lines l.fn.widths l.fn.kind l.earlier;
  few : l.wasted ≤ l.earlier;
}

use Rattle.std.proofs.Common.{◌≡◌, ◌≤◌}
use Rattle.cell_solo.specs.Turns.{openings}
use Rattle.cell_solo.proofs.solo.open_each.Given as goal

abbrev pub invariant-loop-earlier : goal.invariant-loop-earlier
invariant-loop-earlier l = record {
  told : l.turns.list ≡ openings l.earlier;
  room : 1 ≤ l.earlier → 8 ≤ l.turns.spare;
  within : l.earlier ≤ l.callers;
}

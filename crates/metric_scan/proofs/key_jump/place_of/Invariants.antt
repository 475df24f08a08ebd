use Rattle.std.proofs.Common.{◌<◌, take}
use Rattle.std.specs.Prelude.{All}
use Rattle.metric_scan.proofs.key_jump.place_of.Given as goal

-- those so far have lesser ids
abbrev pub invariant-loop-i : goal.invariant-loop-i
invariant-loop-i l = All (λ p. p.0 < l.id) (take l.i l.pairs)

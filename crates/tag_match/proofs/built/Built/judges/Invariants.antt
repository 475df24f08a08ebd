use Rattle.std.proofs.Common.{◌≡◌, map, take}
use Rattle.tag_match.proofs.built.Built.judges.Given as goal

abbrev pub invariant-loop-one : goal.invariant-loop-one
invariant-loop-one l = l.judges.items ≡ map (λ one. one.filter.now) (take l.one-index l.one-items)

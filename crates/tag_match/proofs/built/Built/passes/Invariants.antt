use Rattle.std.proofs.Common.{◌≡◌, true, map, take}
use Rattle.tag_match.specs.Patterns.{passes}
use Rattle.tag_match.proofs.built.Built.passes.Given as goal

-- the tags pass the filters so far
abbrev pub invariant-loop-one : goal.invariant-loop-one
invariant-loop-one l = passes (map (λ one. one.filter.now) (take l.one-index l.one-items)) l.tags ≡ true

use Rattle.std.proofs.Common.{◌≡◌, map, take}
use Rattle.tag_match.specs.TestPatterns.{is_bad}
use Rattle.tag_match.proofs.Places.{NoneOf}
use Rattle.tag_match.proofs.built.Built.of.Given as goal

-- the filters so far were built, and none of them is bad
abbrev pub invariant-loop-filter : goal.invariant-loop-filter
invariant-loop-filter l = (map (λ one. one.filter.now) l.list.items ≡ take l.filter-index l.filters) × NoneOf is_bad l.filters l.filter-index

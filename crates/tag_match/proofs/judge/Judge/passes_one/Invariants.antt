use Rattle.std.proofs.Common.{◌≡◌, false, take}
use Rattle.group_by.specs.TagFilters.{passes_filter}
use Rattle.tag_match.specs.Patterns.{finds}
use Rattle.tag_match.proofs.judge.Judge.passes_one.Given as goal

-- none of the pairs so far passes
abbrev pub invariant-loop-pair : goal.invariant-loop-pair
invariant-loop-pair l = (l.self ≡ l.fn.self) × (passes_filter finds l.fn.self (take l.pair-index l.pairs) ≡ false)

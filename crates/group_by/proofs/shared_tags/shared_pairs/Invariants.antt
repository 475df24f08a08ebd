use Rattle.std.proofs.Common.{◌≡◌, take}
use Rattle.std.specs.Prelude.{filter}
use Rattle.std.specs.List.{list_all}
use Rattle.group_by.specs.Shared.{has_pair}
use Rattle.group_by.proofs.shared_tags.shared_pairs.Given as goal

-- of the pairs so far, those that the others have
abbrev pub invariant-loop-pair : goal.invariant-loop-pair
invariant-loop-pair l =
    l.shared.items ≡ filter (λ pair. list_all (has_pair pair) l.others) (take l.pair-index l.pair-items)

use Rattle.std.proofs.Common.{◌≡◌, map, take}
use Rattle.std.specs.Prelude.{filter, ◌&&◌, not}
use Rattle.std.specs.List.{list_all}
use Rattle.group_by.specs.Shared.{has_pair, has_key}
use Rattle.group_by.proofs.shared_tags.aggregate_keys.Given as goal

-- of the pairs so far, the keys of those whose key alone the others have
abbrev pub invariant-loop-pair : goal.invariant-loop-pair
invariant-loop-pair l =
    l.keys.items ≡ map (λ pair. pair.0) (filter (λ pair. list_all (has_key pair.0) l.others && not (list_all (has_pair pair) l.others)) (take l.pair-index l.pair-items))

use Rattle.std.proofs.Common.{◌≡◌, take}
use Rattle.std.specs.Prelude.{filter}
use Rattle.group_by.specs.TagFilters.{is_grouped}
use Rattle.group_by.proofs.tag_filters.group_key.Given as goal

-- of the pairs so far, those of grouped keys
abbrev pub invariant-loop-pair : goal.invariant-loop-pair
invariant-loop-pair l = l.key.items ≡ filter (λ pair. is_grouped l.sub pair.0) (take l.pair-index l.pair-items)

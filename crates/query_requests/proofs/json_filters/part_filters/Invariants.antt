use Rattle.std.proofs.Common.{◌≡◌, drop, length}
use Rattle.query_requests.specs.JsonFilters.{part_filters}
use Rattle.query_requests.specs.JsonParts.{all_seen}
use Rattle.query_requests.specs.QueryReadings.{with_front}
use Rattle.query_requests.proofs.json_filters.part_filters.Given as goal

abbrev pub invariant-loop-parts : goal.invariant-loop-parts
invariant-loop-parts l = with_front l.filters.items (part_filters (length l.filters.items) (all_seen (drop l.parts-index l.listed))) ≡ with_front l.fn.grouping.items (part_filters (length l.fn.grouping.items) (all_seen l.listed))

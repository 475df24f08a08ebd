use Rattle.std.proofs.Common.{◌≤◌, ◌-◌, length}
use Rattle.listing_dump.specs.NameRanks.{AreRanksTo}
use Rattle.listing_dump.proofs.name_ranks.ranks_of.Given as goal

abbrev pub invariant-names : goal.invariant-names
invariant-names l = record {
  within : l.at ≤ length l.cells;
  ranks : AreRanksTo l.widths l.cells l.kind l.ranks l.at;
}

abbrev pub decreases-names : goal.decreases-names
decreases-names l = length l.cells - l.at

use Rattle.std.proofs.Common.{◌≡◌, drop}
use Rattle.std.specs.List.{list_all}
use Rattle.listing_check.specs.Flaws.{pair_named}
use Rattle.listing_check.proofs.cell_flaws.pairs_named.Given as goal

-- what is left decides
abbrev pub invariant-loop-pair : goal.invariant-loop-pair
invariant-loop-pair l = list_all (pair_named l.widths l.cells) l.pairs ≡ list_all (pair_named l.widths l.cells) (drop l.pair-index l.pairs)

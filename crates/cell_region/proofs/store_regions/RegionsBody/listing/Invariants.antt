use Rattle.std.proofs.Common.{◌≡◌}
use Rattle.std.specs.Prelude.{take}
use Rattle.cell_region.proofs.RegionOrder.{lines_among}
use Rattle.cell_region.proofs.store_regions.RegionsBody.listing.Given as goal

abbrev pub invariant-loop-region : goal.invariant-loop-region
invariant-loop-region l = l.lines.items ≡ lines_among (take l.region-index l.region-items)

use Rattle.std.proofs.Common.{◌≡◌, [], length, map}
use Rattle.std.specs.List.{flat_map}
use Rattle.cell_model.specs.Store.{entries}
use Rattle.cell_region.specs.RegionLists.{cells_in, InOrder}
use Rattle.cell_region.proofs.store_regions.empty_regions.Given as goal

abbrev pub invariant-loop-number : goal.invariant-loop-number
invariant-loop-number l = record {
  order : InOrder l.widths l.data_regions 0 l.regions.items;
  count : length l.regions.items ≡ l.number;
  none : flat_map entries (map cells_in l.regions.items) ≡ [];
}

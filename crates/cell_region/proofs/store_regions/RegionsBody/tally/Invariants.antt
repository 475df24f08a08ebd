use Rattle.std.proofs.Common.{◌≡◌, ◌*◌, ◌≤◌}
use Rattle.std.specs.Prelude.{take}
use Rattle.cell_region.specs.declared.region.TheConstants.{MOST_CELLS}
use Rattle.cell_region.proofs.RegionSums.{rows_among, cells_among}
use Rattle.cell_region.proofs.store_regions.RegionsBody.tally.Given as goal

abbrev pub invariant-loop-region : goal.invariant-loop-region
invariant-loop-region l = record {
  rows : l.point_rows ≡ rows_among (take l.region-index l.region-items);
  cells : l.point_cells ≡ cells_among (take l.region-index l.region-items);
  few_rows : l.point_rows ≤ l.region-index * MOST_CELLS;
  few_cells : l.point_cells ≤ l.region-index * MOST_CELLS;
}

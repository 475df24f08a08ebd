use Rattle.std.proofs.Common.{◌≡◌}
use Rattle.std.specs.Prelude.{take}
use Rattle.cell_model.specs.Listed.{store_of}
use Rattle.cell_region.proofs.store_regions.Regions.of.Given as goal

abbrev pub invariant-loop-line : goal.invariant-loop-line
invariant-loop-line l = record {
  content : l.regions.content ≡ store_of (record { widths = l.fn.listing.widths; lines = take l.line-index l.line-items });
  data_regions : l.regions.data_regions ≡ l.fn.data_regions;
}

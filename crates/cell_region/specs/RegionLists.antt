-- Regions beside one another, and the store that they make together.
use Rattle.std.specs.Prelude.{◌≡◌, ℕ, ◌+◌, ◌<◌, ◌≤◌, Bool, List, [], ◌∷◌, length, map}
use Rattle.row_key.specs.declared.widths.Widths.{Widths}
use Rattle.row_key.specs.declared.regions.TheConstants.{NAME_REGIONS, MOST_DATA_REGIONS}
use Rattle.cell_model.specs.declared.row.Row.{Row}
use Rattle.cell_model.specs.Store.{Store}
use Rattle.cell_laws.specs.StoreParts.{is_in, part}
use Rattle.cell_laws.specs.JoinedParts.{joined, part_at}
use Rattle.cell_region.specs.declared.region.Region.{Region}

-- the cells that a region keeps, and the rows that it is over
abbrev pub cells_in : Region → Store
cells_in region = region.body

abbrev pub rows_of : Region → Row → Bool
rows_of region = is_in region.body.widths region.data_regions region.number

-- these are the regions from a number on, in order, each of a store with these widths
abbrev pub InOrder : Widths → ℕ → ℕ → List Region → Type 0
InOrder w data_regions number [] = Unit {0}
InOrder w data_regions number (region ∷ regions) = (rows_of region ≡ is_in w data_regions number) × ((cells_in region).widths ≡ w) × InOrder w data_regions (number + 1) regions

-- these are all regions of a store with these widths, in order
pub record AreComplete (w : Widths) (data_regions : ℕ) (regions : List Region) : Type 0 where
  pub least : 1 ≤ data_regions
  pub most : data_regions ≤ MOST_DATA_REGIONS
  pub all : length regions ≡ NAME_REGIONS + data_regions
  pub in_order : InOrder w data_regions 0 regions

-- the store with these widths and the cells of all
abbrev pub store_of_all : Widths → List Region → Store
store_of_all w regions = joined w (map cells_in regions)

-- each region has its part of the store
abbrev pub HaveParts : ℕ → List Region → Store → Type 0
HaveParts data_regions regions s = (number : ℕ) → number < NAME_REGIONS + data_regions → part_at s.widths (map cells_in regions) number ≡ part (is_in s.widths data_regions number) s

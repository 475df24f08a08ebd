-- The laws of mending.
use Rattle.std.specs.Prelude.{◌≡◌, List}
use Rattle.cell_model.specs.declared.row.ListLine.{ListLine}
use Rattle.cell_model.specs.Rising.{LinesRise}
use Rattle.cell_model.specs.KindWidths.{Widths}
use Rattle.cell_listing.specs.ListedLines.{ListingRead, lines_of_cells}
use Rattle.listing_check.specs.Flaws.{NoFlaw}
use Rattle.listing_fix.specs.Fixes.{Fixes}

-- what mending makes is sound
abbrev pub FixedIsSound : Type 0
FixedIsSound = (r : ListingRead) (result : List ListLine) → Fixes r result → LinesRise result × NoFlaw r.widths result

-- a sound listing is what mending makes of it, and nothing else is
abbrev pub SoundStaysAsItIs : Type 0
SoundStaysAsItIs = (w : Widths) (cells result : List ListLine) → LinesRise cells → NoFlaw w cells → Fixes (record { widths = w; lines = lines_of_cells cells }) result → result ≡ cells

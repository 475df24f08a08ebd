-- Cells put in the order of their places.
use Rattle.std.specs.Prelude.{◌≡◌, Bool, List, None}
use Rattle.std.specs.List.Sorted.{IsSortedBy, IsStableBy}
use Rattle.std.specs.Ordering.{is_lt}
use Rattle.cell_model.specs.KindWidths.{Widths}
use Rattle.cell_model.specs.declared.row.ListLine.{ListLine}
use Rattle.cell_model.specs.PlaceOrder.{place_cmp}
use Rattle.cell_model.specs.Counts.{lines_of}
use Rattle.cell_model.specs.Rising.{place_of_line}
use Rattle.listing_check.specs.Laws.{store_in}
use Rattle.listing_fix.specs.Fixes.{firsts}

-- a test of two cells by their places
abbrev pub is_before : ListLine → ListLine → Bool
is_before a b = is_lt (place_cmp (place_of_line a) (place_of_line b))

-- a stable sort by place, and then the first of each place: these are the lines of the store of the cells
abbrev pub SortedFirsts : Type 0
SortedFirsts = (w : Widths) (cells sorted : List ListLine) → IsSortedBy is_before sorted → IsStableBy is_before cells sorted → lines_of (store_in w cells) ≡ firsts None sorted

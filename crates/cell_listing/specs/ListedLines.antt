-- How the lines of a listing are kept: the cells that count, and beside them the other lines with their numbers.
use Rattle.std.specs.Prelude.{◌≡◌, ℕ, ◌+◌, ◌-◌, Bool, true, false, List, [], ◌∷◌, ◌++◌, drop, length, map, take, Option, None, Some, option_map, if◌then◌else◌}
use Rattle.std.specs.List.{slice_get}
use Rattle.std.specs.Ordering.{is_lt}
use Rattle.row_key.specs.declared.widths.Widths.{Widths}
use Rattle.cell_model.specs.declared.events.Place.{Place}
use Rattle.cell_model.specs.declared.row.ListLine.{ListLine}
use Rattle.cell_model.specs.PlaceOrder.{place_cmp}
use Rattle.cell_model.specs.Rising.{place_of_line}
use Rattle.cell_listing.specs.declared.listing_line.LineRead.{LineRead}
use Rattle.cell_listing.specs.declared.listing_line.LineRead.TheVariants.{Cell, Other}
use Rattle.cell_listing.specs.declared.listed.OtherLine.{OtherLine}

-- a listing as it was read: how many bytes its ids have, and its lines
pub record ListingRead : Type 0 where
  pub widths : Widths
  pub lines : List LineRead

-- ---- the cells that count

-- the place is above this one, if there is one
abbrev pub is_above : Option Place → Place → Bool
is_above None p = true
is_above (Some last) p = is_lt (place_cmp last p)

-- the line tells a cell that counts: it is above the last earlier one that counts
abbrev pub counts : Option Place → LineRead → Bool
counts last (Other bytes) = false
counts last (Cell c) = is_above last (place_of_line c)

-- the last cell that counts, behind one more
abbrev pub last_after : Bool → Option Place → Place → Option Place
last_after true last p = Some p
last_after false last p = last

-- the last place behind a line
abbrev pub place_behind : Bool → Option Place → LineRead → Option Place
place_behind b last (Other bytes) = last
place_behind b last (Cell c) = last_after b last (place_of_line c)

-- the cells of these lines that count, behind this place
abbrev pub counted : Option Place → List LineRead → List ListLine
counted last [] = []
counted last (Other bytes ∷ lines) = counted last lines
counted last (Cell c ∷ lines) = if is_above last (place_of_line c) then c ∷ counted (Some (place_of_line c)) lines else counted last lines

abbrev pub counted_in : List LineRead → List ListLine
counted_in lines = counted None lines

-- the last cell that counts, behind these lines
abbrev pub place_after : Option Place → List LineRead → Option Place
place_after last [] = last
place_after last (l ∷ lines) = place_after (place_behind (counts last l) last l) lines

-- the line counts, behind these
abbrev pub counts_behind : List LineRead → LineRead → Bool
counts_behind lines line = counts (place_after None lines) line

-- the place of the last cell, if there is one
abbrev pub last_place : List ListLine → Option Place
last_place cells = option_map place_of_line (slice_get cells (length cells - 1))

-- ---- the other lines

abbrev pub numbered : ℕ → LineRead → OtherLine
numbered n line = record { number = n; line = line }

-- the other ones of these lines, of which the first has this number and comes behind this place
abbrev pub others_from : ℕ → Option Place → List LineRead → List OtherLine
others_from n last [] = []
others_from n last (Other bytes ∷ lines) = numbered n (Other bytes) ∷ others_from (n + 1) last lines
others_from n last (Cell c ∷ lines) =
    if is_above last (place_of_line c) then others_from (n + 1) (Some (place_of_line c)) lines else numbered n (Cell c) ∷ others_from (n + 1) last lines

abbrev pub others_in : List LineRead → List OtherLine
others_in lines = others_from 1 None lines

-- ---- all lines again

abbrev pub lines_of_cells : List ListLine → List LineRead
lines_of_cells cells = map (λ c. Cell c) cells

-- before an other line stand as many cells as its number says; the first line has this number
abbrev pub woven : ℕ → List ListLine → List OtherLine → List LineRead
woven n cells [] = lines_of_cells cells
woven n cells (o ∷ others) = lines_of_cells (take (o.number - n) cells) ++ o.line ∷ woven (o.number + 1) (drop (o.number - n) cells) others

-- the cells are those of some lines that count, and the others are the others
pub record AreParts (cells : List ListLine) (others : List OtherLine) : Type 0 where
  pub lines : List LineRead
  pub cells_are : cells ≡ counted_in lines
  pub others_are : others ≡ others_in lines

-- one more line was read
abbrev pub with_line : ListingRead → LineRead → ListingRead
with_line r line = record { widths = r.widths; lines = r.lines ++ line ∷ [] }

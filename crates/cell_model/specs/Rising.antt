-- The orders of cells in a row, and of lines in a listing.
use Rattle.std.specs.Prelude.{◌≡◌, ℕ, Bool, true, false, ◌&&◌, List, [], ◌∷◌, ◌++◌, length, AllPairs, nat_lt}
use Rattle.std.specs.List.{AllByRecursion, list_all}
use Rattle.std.specs.Ordering.{is_lt}
use Rattle.std.specs.declared.cmp.Ordering.TheVariants.{Less}
use Rattle.qual_codec.specs.declared.cells.Cell.{Cell}
use Rattle.cell_model.specs.declared.row.ListLine.{ListLine}
use Rattle.cell_model.specs.declared.events.Place.{Place}
use Rattle.list_lemmas.specs.BytesOrder.{bytes_cmp}
use Rattle.cell_model.specs.PlaceOrder.{place_cmp}

-- the qualifiers rise
abbrev pub RiseByQual : List Cell → Type 0
RiseByQual cells = AllPairs (λ c d. bytes_cmp c.qual d.qual ≡ Less) cells

-- the qualifier is above that of each cell
abbrev pub IsAboveCells : List ℕ → List Cell → Type 0
IsAboveCells qual cells = AllByRecursion (λ c. bytes_cmp c.qual qual ≡ Less) cells

-- where a line's cell stands
abbrev pub place_of_line : ListLine → Place
place_of_line l = record { row = record { table = l.table; bytes = l.row }; qual = l.qual }

-- the lines rise by table, row and qualifier
abbrev pub LinesRise : List ListLine → Type 0
LinesRise lines = AllPairs (λ l m. place_cmp (place_of_line l) (place_of_line m) ≡ Less) lines

-- the place is above that of each line
abbrev pub is_above : List ListLine → Place → Bool
is_above lines p = list_all (λ m. is_lt (place_cmp (place_of_line m) p)) lines

-- the line may follow these: no part of it is empty, and it is above each of them
abbrev pub may_follow : List ListLine → ListLine → Bool
may_follow lines l = nat_lt 0 (length l.row) && nat_lt 0 (length l.qual) && nat_lt 0 (length l.value) && is_above lines (place_of_line l)

-- a line that may follow was added behind the others, and any other line was not
abbrev pub Adds : List ListLine → ListLine → Bool → List ListLine → Type 0
Adds old l true new = (may_follow old l ≡ true) × (new ≡ old ++ l ∷ [])
Adds old l false new = (may_follow old l ≡ false) × (new ≡ old)

-- What mending makes of a listing: five changes, in this order.
use Rattle.std.specs.Prelude.{◌≡◌, ℕ, Bool, true, false, ◌||◌, nat_eq, nat_lt, List, [], ◌∷◌, Option, None, Some, is_some, if◌then◌else◌}
use Rattle.std.specs.Int.{w64, to_be_bytes}
use Rattle.std.specs.FinMap.{retain_keys}
use Rattle.tsd_base.specs.declared.kinds.Kind.{Kind}
use Rattle.tsd_base.specs.declared.kinds.Kind.TheVariants.{Metric, TagKey, TagValue}
use Rattle.row_key.specs.declared.tables.Table.{Table}
use Rattle.row_key.specs.declared.tables.Table.TheVariants.{Ids, Names, Points}
use Rattle.cell_model.specs.declared.events.Place.{Place}
use Rattle.cell_model.specs.declared.events.Content.{Content}
use Rattle.cell_model.specs.declared.row.ListLine.{ListLine}
use Rattle.cell_model.specs.KindWidths.{Widths}
use Rattle.cell_model.specs.Store.{Store, entries, get, place_of, remove, same_bytes, written}
use Rattle.cell_model.specs.Machine.{counter_row, kind_qual}
use Rattle.cell_model.specs.IdRows.{id_row, name_row, name_in}
use Rattle.cell_model.specs.Counts.{lines_of}
use Rattle.cell_model.specs.Rising.{place_of_line}
use Rattle.cell_listing.specs.ListedLines.{ListingRead, is_above}
use Rattle.cell_listing.specs.declared.listing_line.LineRead.{LineRead}
use Rattle.cell_listing.specs.declared.listing_line.LineRead.TheVariants.{Cell, Other}
use Rattle.listing_check.specs.UidCells.{UidCell, uid_in}
use Rattle.listing_check.specs.UidCells.UidCell.{Counter, Forward, Reverse}
use Rattle.listing_check.specs.Flaws.{FlawOf}
use Rattle.listing_check.specs.Laws.{store_in}
use Rattle.listing_check.specs.declared.report.Flaw.{Flaw}

-- ---- first: lines that tell no cell are dropped; of two cells of one place the first stays; the rest is put in order

abbrev pub cells_among : List LineRead → List ListLine
cells_among [] = []
cells_among (Other bytes ∷ lines) = cells_among lines
cells_among (Cell c ∷ lines) = c ∷ cells_among lines

-- the store of cells is that of the first at each place, in the order of places
abbrev pub in_order : ListingRead → Store
in_order r = store_in r.widths (cells_among r.lines)

-- of cells whose places don't fall the first one of each place: each that is above the last one that was taken
abbrev pub firsts : Option Place → List ListLine → List ListLine
firsts last [] = []
firsts last (c ∷ cells) = if is_above last (place_of_line c) then c ∷ firsts (Some (place_of_line c)) cells else firsts last cells

-- ---- second: cells of ids and of names that don't read are dropped

abbrev pub is_points : Table → Bool
is_points Ids = false
is_points Names = false
is_points Points = true

abbrev pub uid_of : Widths → Place → Content → Option UidCell
uid_of w p c = uid_in w p.row.table p.row.bytes p.qual c.value

abbrev pub reads_at : Widths → Place → Option Content → Bool
reads_at w p None = false
reads_at w p (Some c) = is_points p.row.table || is_some (uid_of w p c)

abbrev pub without_unread : Store → Store
without_unread s = record { widths = s.widths; cells = retain_keys s.cells (λ p. reads_at s.widths p (get s p)) }

-- ---- third: names from the least one on. One whose id has no name gives it its own; one whose id has another name is dropped

abbrev pub name_given : Store → Kind → List ℕ → ℕ → Option (List ℕ) → Store
name_given s kind name id None = written s (id_row s.widths kind id) (kind_qual kind) name 0
name_given s kind name id (Some other) = if same_bytes other name then s else remove s (place_of (name_row name) (kind_qual kind))

abbrev pub uid_given : Store → Option UidCell → Store
uid_given s (Some (Forward kind name id)) = name_given s kind name id (name_in s kind id)
uid_given s (Some (Counter kind number)) = s
uid_given s (Some (Reverse kind id name)) = s
uid_given s None = s

abbrev pub names_given : Store → List (Place × Content) → Store
names_given s [] = s
names_given s (e ∷ es) = names_given (uid_given s (uid_of s.widths e.0 e.1)) es

abbrev pub with_names : Store → Store
with_names s = names_given s (entries s)

-- ---- fourth: each counter is the greatest number of its kind that stands, as a counter or as an id; where none stands there is none

abbrev pub kind_number : Kind → ℕ
kind_number Metric = 0
kind_number TagKey = 1
kind_number TagValue = 2

abbrev pub number_if : Kind → Kind → ℕ → ℕ
number_if kind other n = if nat_eq (kind_number kind) (kind_number other) then n else 0

abbrev pub number_of : Kind → Option UidCell → ℕ
number_of kind None = 0
number_of kind (Some (Counter other number)) = number_if kind other number
number_of kind (Some (Forward other name id)) = number_if kind other id
number_of kind (Some (Reverse other id name)) = number_if kind other id

abbrev pub greater : ℕ → ℕ → ℕ
greater m n = if nat_lt m n then n else m

abbrev pub greatest_of : Widths → Kind → List (Place × Content) → ℕ
greatest_of w kind [] = 0
greatest_of w kind (e ∷ es) = greater (number_of kind (uid_of w e.0 e.1)) (greatest_of w kind es)

abbrev pub counted_to : Kind → ℕ → Store → Store
counted_to kind n s = if nat_eq n 0 then s else written s counter_row (kind_qual kind) (to_be_bytes w64 n) 0

abbrev pub with_counters : Store → Store
with_counters s =
    counted_to TagValue (greatest_of s.widths TagValue (entries s))
    (counted_to TagKey (greatest_of s.widths TagKey (entries s))
    (counted_to Metric (greatest_of s.widths Metric (entries s)) s))

-- ---- fifth: cells of points with a flaw are dropped

-- a cell, if it stays, and others behind it
abbrev pub left_with : Bool → Option Flaw → ListLine → List ListLine → List ListLine
left_with true (Some flaw) l more = more
left_with true None l more = l ∷ more
left_with false flaw l more = l ∷ more

-- what is left of these cells, among all
abbrev pub Sifted : Widths → List ListLine → List ListLine → List ListLine → Type 0
Sifted w cells [] left = left ≡ []
Sifted w cells (l ∷ rest) left =
    (flaw : Option Flaw) × FlawOf w cells l flaw × ((more : List ListLine) × (left ≡ left_with (is_points l.table) flaw l more) × Sifted w cells rest more)

-- ---- all five

abbrev pub ids_mended : ListingRead → Store
ids_mended r = with_counters (with_names (without_unread (in_order r)))

-- these cells are what mending makes of the lines
abbrev pub Fixes : ListingRead → List ListLine → Type 0
Fixes r result = Sifted r.widths (lines_of (ids_mended r)) (lines_of (ids_mended r)) result

-- What each change looks at: what a cell says but for the name, what stands for an id, and which cells stay.
use Rattle.std.specs.Prelude.{◌≡◌, ◌≢◌, ℕ, ◌+◌, ◌<◌, ◌≤◌, Bool, true, false, ◌||◌, List, [], ◌∷◌, ◌++◌, drop, length, slice_index_or, take, Option, None, Some, Result, Ok, Err, is_some, if◌then◌else◌}
use Rattle.std.specs.List.{AllWithin}
use Rattle.std.specs.declared.cmp.Ordering.TheVariants.{Less, Equal, Greater}
use Rattle.std.specs.Int.{w64, to_be_bytes}
use Rattle.tsd_base.specs.declared.kinds.Kind.{Kind}
use Rattle.row_key.specs.declared.tables.Table.TheVariants.{Ids, Names}
use Rattle.cell_model.specs.declared.row.ListLine.{ListLine}
use Rattle.cell_model.specs.KindWidths.{Widths, kind_bytes}
use Rattle.cell_model.specs.declared.events.Place.{Place}
use Rattle.cell_model.specs.PlaceOrder.{place_cmp}
use Rattle.cell_model.specs.Rising.{LinesRise, place_of_line}
use Rattle.cell_model.specs.Machine.{kind_qual}
use Rattle.cell_model.specs.IdRows.{id_row}
use Rattle.cell_listing.specs.declared.listed.OtherLine.{OtherLine}
use Rattle.cell_listing.specs.declared.listing_line.LineRead.{LineRead}
use Rattle.cell_listing.specs.declared.listing_line.LineRead.TheVariants.{Cell, Other}
use Rattle.listing_check.specs.UidCells.{UidCell, uid_cell}
use Rattle.listing_check.specs.UidCells.UidCell.{Counter, Forward, Reverse}
use Rattle.listing_check.specs.Flaws.{FlawOf, has_name, value_in}
use Rattle.listing_check.specs.declared.report.Flaw.{Flaw}
use Rattle.listing_fix.specs.Fixes.{greater, is_points, number_if, number_of}
use Rattle.listing_fix.specs.declared.uid_cells.IdCell.{IdCell}
use Rattle.listing_fix.specs.declared.uid_cells.IdCell.TheVariants as plain

-- ---- first

-- the cells of other lines
abbrev pub cell_or_none : LineRead → List ListLine
cell_or_none (Other bytes) = []
cell_or_none (Cell c) = c ∷ []

abbrev pub other_cells : List OtherLine → List ListLine
other_cells [] = []
other_cells (o ∷ others) = cell_or_none o.line ++ other_cells others

-- ---- second

-- what a cell says, without its name
abbrev pub without_name : Option UidCell → Option IdCell
without_name None = None
without_name (Some (Counter kind number)) = Some (plain.Counter kind number)
without_name (Some (Forward kind name id)) = Some (plain.Forward kind id)
without_name (Some (Reverse kind id name)) = Some (plain.Reverse kind id)

abbrev pub reads : Widths → ListLine → Bool
reads w l = is_points l.table || is_some (uid_cell w l)

-- ---- third

-- the cell that gives the id this name
abbrev pub reverse_cell : Widths → Kind → ℕ → List ℕ → ListLine
reverse_cell w kind id name = record { table = Names; row = kind_bytes w kind id; qual = kind_qual kind; value = name }

-- what a name gives its id, where nothing stands for this one among the cells
abbrev pub reverse_if : Widths → List ListLine → Option UidCell → List ListLine
reverse_if w cells None = []
reverse_if w cells (Some (Counter kind number)) = []
reverse_if w cells (Some (Reverse kind id name)) = []
reverse_if w cells (Some (Forward kind name id)) = if is_some (value_in cells (id_row w kind id) (kind_qual kind)) then [] else reverse_cell w kind id name ∷ []

abbrev pub reverse_cells : Widths → List ListLine → List ListLine → List ListLine
reverse_cells w cells [] = []
reverse_cells w cells (l ∷ rest) = reverse_if w cells (uid_cell w l) ++ reverse_cells w cells rest

-- a name stays where its id has it, and so does what is no name
abbrev pub is_kept_name : Widths → List ListLine → Option UidCell → Bool
is_kept_name w cells None = true
is_kept_name w cells (Some (Counter kind number)) = true
is_kept_name w cells (Some (Reverse kind id name)) = true
is_kept_name w cells (Some (Forward kind name id)) = has_name w cells kind id name

abbrev pub keeps_name : Widths → List ListLine → ListLine → Bool
keeps_name w cells l = is_kept_name w cells (uid_cell w l)

-- the kind and id of a name, where the cell is a name's
abbrev pub forward_of : Option IdCell → Option (Kind × ℕ)
forward_of None = None
forward_of (Some (plain.Counter kind number)) = None
forward_of (Some (plain.Forward kind id)) = Some (kind, id)
forward_of (Some (plain.Reverse kind id)) = None

-- the same of a name whose bytes are the row
abbrev pub reverse_by : Widths → List ListLine → List ℕ → Option (Kind × ℕ) → List ListLine
reverse_by w cells row None = []
reverse_by w cells row (Some p) = if is_some (value_in cells (id_row w p.0 p.1) (kind_qual p.0)) then [] else reverse_cell w p.0 p.1 row ∷ []

abbrev pub kept_by : Widths → List ListLine → List ℕ → Option (Kind × ℕ) → Bool
kept_by w cells row None = true
kept_by w cells row (Some p) = has_name w cells p.0 p.1 row

-- ---- cells that stay

abbrev pub chosen : List Bool → List ListLine → List ListLine
chosen [] cells = []
chosen (b ∷ flags) [] = []
chosen (b ∷ flags) (l ∷ cells) = if b then l ∷ chosen flags cells else chosen flags cells

-- the cell at a place, if it stays, was moved to those in front that stay
pub record KeepsIf (old new : List ListLine) (kept at : ℕ) (stays : Bool) (now : ℕ) : Type 0 where
  pub front : (d : ListLine) → take now new ≡ take kept old ++ (if stays then slice_index_or old at d ∷ [] else [])
  pub rest : drop (at + 1) new ≡ drop (at + 1) old
  pub long : length new ≡ length old
  pub behind : now ≤ at + 1

-- ---- fourth

-- the number of a cell, if it is of the kind
abbrev pub plain_number : Kind → Option IdCell → ℕ
plain_number kind None = 0
plain_number kind (Some (plain.Counter other number)) = number_if kind other number
plain_number kind (Some (plain.Forward other id)) = number_if kind other id
plain_number kind (Some (plain.Reverse other id)) = number_if kind other id

-- the greatest number of a kind
abbrev pub greatest_in : Widths → Kind → List ListLine → ℕ
greatest_in w kind [] = 0
greatest_in w kind (l ∷ cells) = greater (number_of kind (uid_cell w l)) (greatest_in w kind cells)

abbrev pub counter_line : Kind → ℕ → ListLine
counter_line kind number = record { table = Ids; row = 0 ∷ []; qual = kind_qual kind; value = to_be_bytes w64 number }

-- where a cell has the place, or where it would stand
abbrev pub IsPlaceIn : List ListLine → Place → Result ℕ ℕ → Type 0
IsPlaceIn cells p (Ok at) = (at < length cells) × ((d : ListLine) → place_cmp (place_of_line (slice_index_or cells at d)) p ≡ Equal)
IsPlaceIn cells p (Err at) =
    (at ≤ length cells) × AllWithin (λ c. place_cmp (place_of_line c) p ≡ Less) cells 0 at × AllWithin (λ c. place_cmp (place_of_line c) p ≡ Greater) cells at (length cells)

-- a cell was written among others that rise, over an older one of its place too
pub record Writes (l : ListLine) (old new : List ListLine) : Type 0 where
  pub rising : LinesRise new
  pub here : value_in new (record { table = l.table; bytes = l.row }) l.qual ≡ Some l.value
  pub other : (p : Place) → p ≢ place_of_line l → value_in new p.row p.qual ≡ value_in old p.row p.qual

-- ---- fifth

-- a cell of points stays where it has no flaw, and every other cell stays
abbrev pub stays : Bool → Option Flaw → Bool
stays true (Some flaw) = false
stays true None = true
stays false flaw = true

-- the flag says whether the cell stays
pub record IsJudged (w : Widths) (cells : List ListLine) (l : ListLine) (flag : Bool) : Type 0 where
  pub flaw : Option Flaw
  pub flaw_is : FlawOf w cells l flaw
  pub flag_is : flag ≡ stays (is_points l.table) flaw

abbrev pub Judges : Widths → List ListLine → List ListLine → List Bool → Type 0
Judges w cells [] flags = flags ≡ []
Judges w cells (l ∷ rest) flags = (flag : Bool) × IsJudged w cells l flag × ((more : List Bool) × (flags ≡ flag ∷ more) × Judges w cells rest more)

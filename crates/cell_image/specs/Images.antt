-- The image of a listing: its bytes.
use Rattle.std.specs.Prelude.{◌≡◌, ℕ, ◌+◌, ◌^◌, ◌<◌, ◌≤◌, Bool, ◌&&◌, not, nat_lt, List, [], ◌∷◌, ◌++◌, All, codes, length, position, Option}
use Rattle.std.specs.Int.{Width, w16, w32, w64, to_be_bytes, byte_len}
use Rattle.std.specs.List.{flat_map}
use Rattle.std.specs.Option.{option_map}
use Rattle.row_key.specs.declared.widths.Widths.{Widths}
use Rattle.cell_model.specs.declared.row.ListLine.{ListLine}
use Rattle.cell_model.specs.declared.row.Listing.{Listing}
use Rattle.cell_model.specs.PlaceOrder.{table_number}
use Rattle.cell_model.specs.Rising.{LinesRise}

-- ---- the bytes

-- an image begins so
abbrev pub mark : List ℕ
mark = codes "tsdimg01"

-- how many bytes the ids of each kind have
abbrev pub width_bytes : Widths → List ℕ
width_bytes w = w.metric ∷ w.tag_key ∷ w.tag_value ∷ []

-- a part of a cell: its length in a number of this width, the highest byte first, and then its bytes
abbrev pub part_image : Width → List ℕ → List ℕ
part_image w part = to_be_bytes w (length part) ++ part

-- a cell: the table in one byte, and then its parts
abbrev pub cell_image : ListLine → List ℕ
cell_image c = table_number c.table ∷ (part_image w16 c.row ++ (part_image w32 c.qual ++ part_image w32 c.value))

-- the mark, the widths and the number of cells
abbrev pub head_image : Listing → List ℕ
head_image l = mark ++ (width_bytes l.widths ++ to_be_bytes w64 (length l.lines))

abbrev pub cells_image : List ListLine → List ℕ
cells_image cells = flat_map cell_image cells

-- the image of a listing
abbrev pub image : Listing → List ℕ
image l = head_image l ++ cells_image l.lines

-- ---- what fits

-- the part's length fits a number of this width
abbrev pub part_fits : Width → List ℕ → Bool
part_fits w part = nat_lt (length part) (256 ^ byte_len w)

abbrev pub fits : ListLine → Bool
fits c = part_fits w16 c.row && (part_fits w32 c.qual && part_fits w32 c.value)

-- the number of the first cell with a part that doesn't fit, from 1
abbrev pub first_large : List ListLine → Option ℕ
first_large cells = option_map (λ at. at + 1) (position (λ c. not (fits c)) cells)

-- ---- what has an image that is read

-- a part that isn't empty and fits
pub record IsPart (w : Width) (part : List ℕ) : Type 0 where
  pub some : 1 ≤ length part
  pub fits : length part < 256 ^ byte_len w

pub record IsImageCell (c : ListLine) : Type 0 where
  pub row : IsPart w16 c.row
  pub qual : IsPart w32 c.qual
  pub value : IsPart w32 c.value

-- the bytes are the image of a listing, whose cells rise and have no part that is empty or doesn't fit
pub record IsImage (l : Listing) (bytes : List ℕ) : Type 0 where
  pub spelling : bytes ≡ image l
  pub cells : All IsImageCell l.lines
  pub number : length l.lines < 2 ^ 64
  pub rising : LinesRise l.lines

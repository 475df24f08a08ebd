-- What the bytes of an image tell, field by field, or the first fault of them.
use Rattle.std.specs.Prelude.{◌≡◌, ℕ, zero, suc, ◌+◌, Bool, true, false, ◌&&◌, nat_eq, nat_le, nat_lt, List, [], ◌∷◌, ◌++◌, drop, length, take, Option, None, Some, Result, Ok, Err, if◌then◌else◌}
use Rattle.std.specs.Int.{Width, w8, w16, w32, w64, from_be_bytes, byte_len}
use Rattle.std.specs.List.{list_all}
use Rattle.tsd_base.specs.TagList.{is_same}
use Rattle.row_key.specs.declared.widths.Widths.{Widths}
use Rattle.row_key.specs.declared.tables.Table.{Table}
use Rattle.row_key.specs.declared.tables.Table.TheVariants.{Ids, Names, Points}
use Rattle.cell_model.specs.declared.row.ListLine.{ListLine}
use Rattle.cell_model.specs.declared.row.Listing.{Listing}
use Rattle.cell_model.specs.Rising.{is_above, place_of_line}
use Rattle.cell_image.specs.Images.{IsImage, mark, width_bytes}
use Rattle.cell_image.specs.declared.image_fault.ImageFault.{ImageFault}
use Rattle.cell_image.specs.declared.image_fault.ImageFault.TheVariants.{CutShort, BadMark, BadWidths, BadTable, EmptyPart, NotRising, Trailing, OutOfMemory}

-- a place of an image, and the bytes from there on
pub record Spot : Type 0 where
  pub at : ℕ
  pub bytes : List ℕ

-- what comes after what was read, where it was
infixl 10 ◌>>=◌
abbrev pub ◌>>=◌ : {A B : Type 0} → Result A ImageFault → (A → Result B ImageFault) → Result B ImageFault
(Ok x) >>= f = f x
(Err fault) >>= f = Err fault

-- ---- fields

-- so many bytes behind the spot
abbrev pub moved : ℕ → Spot → Spot
moved count s = record { at = s.at + count; bytes = drop count s.bytes }

-- the next field, of so many bytes, and the spot behind it
abbrev pub field_read : ℕ → Spot → Result (List ℕ × Spot) ImageFault
field_read count s = if nat_lt (length s.bytes) count then Err (CutShort s.at) else Ok (take count s.bytes, moved count s)

-- a number of this width, the highest byte first
abbrev pub number_read : Width → Spot → Result (ℕ × Spot) ImageFault
number_read w s = field_read (byte_len w) s >>= λ f. Ok (from_be_bytes w f.0, f.1)

-- ---- the head

abbrev pub is_width : ℕ → Bool
is_width b = nat_le 2 b && nat_le b 4

abbrev pub mark_by : List ℕ × Spot → Result (Unit {0} × Spot) ImageFault
mark_by f = if is_same f.0 mark then Ok (tt, f.1) else Err BadMark

-- an image begins with its mark
abbrev pub mark_read : Spot → Result (Unit {0} × Spot) ImageFault
mark_read s = field_read 8 s >>= mark_by

abbrev pub widths_by : List ℕ × Spot → Result (List ℕ × Spot) ImageFault
widths_by f = if list_all is_width f.0 then Ok f else Err BadWidths

-- how many bytes the ids of each kind have, in a byte each
abbrev pub widths_read : Spot → Result (List ℕ × Spot) ImageFault
widths_read s = field_read 3 s >>= widths_by

-- the mark, the widths and the number of cells
abbrev pub head_read : Spot → Result ((List ℕ × ℕ) × Spot) ImageFault
head_read s = do
  begun ← mark_read s
  widths ← widths_read begun.1
  number ← number_read w64 widths.1
  Ok ((widths.0, number.0), number.1)

-- ---- a cell

abbrev pub table_by : ℕ → ℕ × Spot → Result (Table × Spot) ImageFault
table_by at n =
    if nat_eq n.0 0 then Ok (Ids, n.1)
    else if nat_eq n.0 1 then Ok (Names, n.1)
    else if nat_eq n.0 2 then Ok (Points, n.1)
    else Err (BadTable at)

-- the table in one byte
abbrev pub table_read : Spot → Result (Table × Spot) ImageFault
table_read s = number_read w8 s >>= table_by s.at

abbrev pub part_by : ℕ → ℕ × Spot → Result (List ℕ × Spot) ImageFault
part_by at size = if nat_eq size.0 0 then Err (EmptyPart at) else field_read size.0 size.1

-- a part behind its length, which is a number of this width
abbrev pub part_read : Width → Spot → Result (List ℕ × Spot) ImageFault
part_read w s = number_read w s >>= part_by s.at

-- the table, the row, the qualifier and the value
abbrev pub cell_read : Spot → Result (ListLine × Spot) ImageFault
cell_read s = do
  table ← table_read s
  row ← part_read w16 table.1
  qual ← part_read w32 row.1
  value ← part_read w32 qual.1
  Ok (record { table = table.0; row = row.0; qual = qual.0; value = value.0 }, value.1)

-- ---- the cells

abbrev pub cells_with : List ListLine → ℕ → ListLine × Spot → Result (List ListLine × Spot) ImageFault
cells_with cells at cell = if is_above cells (place_of_line cell.0) then Ok (cells ++ cell.0 ∷ [], cell.1) else Err (NotRising at)

-- one more cell behind these, which is to be above them
abbrev pub next_cell : List ListLine → Spot → Result (List ListLine × Spot) ImageFault
next_cell cells s = cell_read s >>= cells_with cells s.at

-- so many more cells behind these, and nothing behind them
abbrev pub cells_read : ℕ → List ListLine → Spot → Result (List ListLine) ImageFault
cells_read zero cells s = if nat_eq (length s.bytes) 0 then Ok cells else Err (Trailing s.at)
cells_read (suc n) cells s = next_cell cells s >>= λ more. cells_read n more.0 more.1

abbrev pub image_by : (List ℕ × ℕ) × Spot → Result (List ℕ × List ListLine) ImageFault
image_by head = cells_read head.0.1 [] head.1 >>= λ cells. Ok (head.0.0, cells)

-- the widths and the cells of an image, or its first fault
abbrev pub image_read : List ℕ → Result (List ℕ × List ListLine) ImageFault
image_read bytes = head_read (record { at = 0; bytes = bytes }) >>= image_by

-- ---- what code gives of it

-- what was read and the spot behind it, or the first fault
abbrev pub Reads : {A B : Type 0} → (A → B) → Result A ImageFault → Spot → Result (B × Spot) ImageFault → Type 0
Reads view (Ok x) new read = read ≡ Ok (view x, new)
Reads view (Err fault) new read = read ≡ Err fault

-- want of memory may always be told; any other fault is the first one
abbrev pub Fails : {B : Type 0} → ImageFault → Result B ImageFault → Type 0
Fails OutOfMemory read = Unit {0}
Fails fault read = read ≡ Err fault

-- the widths that these bytes are, if each of them is one
abbrev pub ReadsWidths : List ℕ → Option Widths → Type 0
ReadsWidths bytes (Some w) = (bytes ≡ width_bytes w) × (list_all is_width bytes ≡ true)
ReadsWidths bytes None = list_all is_width bytes ≡ false

-- the next cell was added to these, or its fault is told
abbrev pub AddsCell : List ListLine → Spot → Result (Unit {0}) ImageFault → List ListLine → Spot → Type 0
AddsCell cells s (Ok _) cells' behind = next_cell cells s ≡ Ok (cells', behind)
AddsCell cells s (Err fault) cells' behind = Fails fault (next_cell cells s)

-- the listing that the bytes tell, or their first fault
abbrev pub ReadsImage : List ℕ → Result Listing ImageFault → Type 0
ReadsImage bytes (Ok l) = image_read bytes ≡ Ok (width_bytes l.widths, l.lines)
ReadsImage bytes (Err fault) = Fails fault (image_read bytes)

-- the bytes are the image of the listing that is given; where a fault is told, they are the image of none
abbrev pub TellsImage : List ℕ → Result Listing ImageFault → Type 0
TellsImage bytes (Ok l) = IsImage l bytes
TellsImage bytes (Err OutOfMemory) = Unit {0}
TellsImage bytes (Err fault) = (l : Listing) → IsImage l bytes → ⊥

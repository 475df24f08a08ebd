-- The first thing that is wrong with a cell which doesn't read.
use Rattle.std.specs.Prelude.{◌≡◌, ◌⊎◌, ℕ, ◌+◌, ◌%◌, ◌<◌, ◌≤◌, Bool, false, not, ◌||◌, List, [], ◌∷◌, ◌++◌, length, drop, Option, None, Some, Result, Ok, Err, All, slice_index, nat_lt, nat_eq, nat_le, if◌then◌else◌}
use Rattle.std.specs.List.{flat_map, list_any, sum_by}
use Rattle.row_hours.specs.declared.hours.TheConstants.{LAST_OFFSET}
use Rattle.qual_codec.specs.declared.cells.Item.{Item}
use Rattle.qual_codec.specs.declared.cells.Dot.{Dot}
use Rattle.qual_codec.specs.declared.cells.CellFault.{CellFault}
use Rattle.qual_codec.specs.declared.cells.CellFault.TheVariants.{OddLength, CutItem, OffsetTooLarge, FloatFlag, ReservedBits, BadLength, NotRising, ValueShort, ValueLong, BadTail}
use Rattle.qual_codec.specs.Items.{IsItem, Fields, AreFields, IsItems, Rises, field_bytes, item_bytes}
use Rattle.qual_codec.specs.CellDots.{IsPiece, HoldsDots, column_qual, piece_bytes, tail_of}

-- the qualifier has a length that a qualifier may have
abbrev pub HasWholePairs : List ℕ → Type 0
HasWholePairs qual = (1 ≤ length qual) × (length qual % 2 ≡ 0)

-- the qualifier begins with these rising items, and `rest` are its bytes from place `at` on
pub record Begins (qual : List ℕ) (items : List Item) (at : ℕ) (rest : List ℕ) : Type 0 where
  pub pairs : HasWholePairs qual
  pub each : All IsItem items
  pub rising : Rises items
  pub qual_is : qual ≡ flat_map item_bytes items ++ rest
  pub at_is : at ≡ length (flat_map item_bytes items)

-- an item of four bytes begins here, and its end is missing
abbrev pub IsCut : List ℕ → Type 0
IsCut rest = (240 ≤ slice_index rest 0) × (length rest < 4)

-- the test of a length
abbrev pub is_length : ℕ → Bool
is_length n = nat_eq n 1 || nat_eq n 2 || nat_eq n 4 || nat_eq n 8

-- the first thing that is wrong with an item at place `at` whose bits say this; `late` tells whether an item before it has its offset or a later one
abbrev pub bits_fault : ℕ → Bool → Fields → Option CellFault
bits_fault at late f =
    if nat_lt LAST_OFFSET f.offset then Some (OffsetTooLarge at)
    else if nat_le 8 f.flags then Some (FloatFlag at)
    else if nat_lt 0 f.reserved then Some (ReservedBits at)
    else if not (is_length (f.flags + 1)) then Some (BadLength at (f.flags + 1))
    else if late then Some (NotRising at)
    else None

-- the same, behind these items
abbrev pub item_fault : List Item → ℕ → Fields → Option CellFault
item_fault before at f = bits_fault at (list_any (λ i. nat_le f.offset i.offset) before) f

-- how many bytes the values of these items have
abbrev pub values_length : List Item → ℕ
values_length items = sum_by (λ i. i.len) items

-- the byte behind the values is another one, where there is to be one
abbrev pub tail_fault : List ℕ → List ℕ → Option CellFault
tail_fault (tail ∷ _) (found ∷ _) = if nat_eq found tail then None else Some (BadTail found)
tail_fault tail rest = None

-- the first thing that is wrong with a value that is to have so many bytes of values, and then this tail
abbrev pub value_fault : ℕ → List ℕ → List ℕ → Option CellFault
value_fault len tail value =
    let need = len + length tail in
    if nat_lt (length value) need then Some (ValueShort need)
    else if nat_lt need (length value) then Some (ValueLong need)
    else tail_fault tail (drop len value)

-- the bytes begin with these pieces, and `rest` are those from place `at` on
pub record BeginsPieces (bytes : List ℕ) (dots : List Dot) (at : ℕ) (rest : List ℕ) : Type 0 where
  pub each : All IsPiece dots
  pub bytes_are : bytes ≡ flat_map piece_bytes dots ++ rest
  pub at_is : at ≡ length (flat_map piece_bytes dots)

-- an item begins here, and its end is missing
abbrev pub IsCutPiece : List ℕ → Type 0
IsCutPiece rest = (1 ≤ length rest) × ((length rest < 2) ⊎ IsCut rest)

-- the first thing that is wrong with a piece that begins at place `at`: the end of its item, its bits, the end of its value
pub data IsBadPiece (at : ℕ) (rest : List ℕ) : CellFault → Type 0 where
  cut_piece : IsCutPiece rest → IsBadPiece at rest (CutItem at)
  bad_bits : (f : Fields) (after : List ℕ) (fault : CellFault) → rest ≡ field_bytes f ++ after → AreFields f → bits_fault at false f ≡ Some fault → IsBadPiece at rest fault
  short_value : (i : Item) (after : List ℕ) → rest ≡ item_bytes i ++ after → IsItem i → length after < i.len → IsBadPiece at rest (ValueShort (at + length (item_bytes i) + i.len))

-- the first thing that is wrong with the column's value: it is empty, else its first piece that is none
pub data IsColumnFault (value : List ℕ) : CellFault → Type 0 where
  no_piece : value ≡ [] → IsColumnFault value (CutItem 0)
  piece : (dots : List Dot) (at : ℕ) (rest : List ℕ) (fault : CellFault) → BeginsPieces value dots at rest → IsBadPiece at rest fault → IsColumnFault value fault

-- The first thing that is wrong with a cell: the length of the qualifier, else the first item that is none, else the value. Of the column, which
-- has its items in its value, it is the first thing that is wrong there.
pub data IsFirstFault (qual value : List ℕ) : CellFault → Type 0 where
  odd : (qual ≡ column_qual → ⊥) → (HasWholePairs qual → ⊥) → IsFirstFault qual value OddLength
  cut : (items : List Item) (at : ℕ) (rest : List ℕ) → Begins qual items at rest → IsCut rest → IsFirstFault qual value (CutItem at)
  item : (items : List Item) (at : ℕ) (f : Fields) (after : List ℕ) (fault : CellFault) → Begins qual items at (field_bytes f ++ after) → AreFields f → item_fault items at f ≡ Some fault → IsFirstFault qual value fault
  values : (items : List Item) (fault : CellFault) → IsItems qual items → value_fault (values_length items) (tail_of items) value ≡ Some fault → IsFirstFault qual value fault
  column : (fault : CellFault) → qual ≡ column_qual → IsColumnFault value fault → IsFirstFault qual value fault

-- what a cell reads as: its dots, else its first fault
abbrev pub ReadsAs : List ℕ → List ℕ → Result (List Dot) CellFault → Type 0
ReadsAs qual value (Ok dots) = HoldsDots qual value dots
ReadsAs qual value (Err fault) = IsFirstFault qual value fault

-- a cell reads as one thing alone
abbrev pub CellsReadOnce : Type 0
CellsReadOnce = (qual value : List ℕ) (a b : Result (List Dot) CellFault) → ReadsAs qual value a → ReadsAs qual value b → a ≡ b

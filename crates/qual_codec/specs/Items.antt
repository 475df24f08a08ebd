-- The items of a qualifier, and their bytes.
use Rattle.std.specs.Prelude.{◌≡◌, ℕ, ◌+◌, ◌-◌, ◌*◌, ◌/◌, ◌%◌, ◌^◌, ◌<◌, ◌≤◌, Bool, true, false, List, length, All, AllPairs, if◌then◌else◌}
use Rattle.std.specs.List.{flat_map}
use Rattle.std.specs.Int.{w16, w32, to_be_bytes}
use Rattle.row_hours.specs.declared.hours.TheConstants.{LAST_OFFSET}
use Rattle.qual_codec.specs.declared.cells.Item.{Item}

-- a value has 1, 2, 4 or 8 bytes
pub data IsLength : ℕ → Type 0 where
  one : IsLength 1
  two : IsLength 2
  four : IsLength 4
  eight : IsLength 8

-- an item: an offset within the hour, in whole seconds where it isn't fine, and the length of a value
pub record IsItem (i : Item) : Type 0 where
  pub offset : i.offset ≤ LAST_OFFSET
  pub whole : i.fine ≡ false → i.offset % 1000 ≡ 0
  pub len : IsLength i.len

-- what the bits of an item say, whether they are an item's or not; the offset is in milliseconds
pub record Fields : Type 0 where
  pub fine : Bool
  pub offset : ℕ
  pub reserved : ℕ
  pub flags : ℕ

-- the fields have the bits that each form gives them, and seconds don't begin with the bits 1111
pub record AreFields (f : Fields) : Type 0 where
  pub seconds : f.fine ≡ false → (f.offset < 3840000) × (f.offset % 1000 ≡ 0) × (f.reserved ≡ 0)
  pub milliseconds : f.fine ≡ true → (f.offset < 2 ^ 22) × (f.reserved < 4)
  pub flags : f.flags < 16

-- Two bytes are 12 bits of seconds and 4 flags. Four bytes are the bits 1111, 22 bits of milliseconds, 2 reserved bits and 4 flags.
abbrev pub field_bytes : Fields → List ℕ
field_bytes f =
    if f.fine then to_be_bytes w32 (15 * 2 ^ 28 + f.offset * 64 + f.reserved * 16 + f.flags) else to_be_bytes w16 (f.offset / 1000 * 16 + f.flags)

-- an item's reserved bits are 0, and its flags are the value's length less 1
abbrev pub fields_of : Item → Fields
fields_of i = record { fine = i.fine; offset = i.offset; reserved = 0; flags = i.len - 1 }

abbrev pub item_bytes : Item → List ℕ
item_bytes i = field_bytes (fields_of i)

-- the offsets rise
abbrev pub Rises : List Item → Type 0
Rises items = AllPairs (λ i j. i.offset < j.offset) items

-- the qualifier is these items, one or more, rising by offset
pub record IsItems (qual : List ℕ) (items : List Item) : Type 0 where
  pub some : 1 ≤ length items
  pub each : All IsItem items
  pub rising : Rises items
  pub qual_is : qual ≡ flat_map item_bytes items

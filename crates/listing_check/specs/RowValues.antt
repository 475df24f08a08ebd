-- The values at the offsets of a row of points: two that differ clash.
use Rattle.std.specs.Prelude.{◌≡◌, ◌≢◌, ℕ, ℤ, Bool, MatchBool, List, [], ◌∷◌, ◌++◌, Contains, Option, None, Some}
use Rattle.std.specs.BTreeMap.{get}
use Rattle.std.specs.Ordering.{nat_cmp}
use Rattle.qual_codec.specs.declared.cells.Dot.{Dot}
use Rattle.listing_check.specs.declared.row_values.OffsetValues.{OffsetValues}
use Rattle.listing_check.specs.declared.row_values.OffsetValues.TheVariants.{One, Several}
use Rattle.listing_check.specs.declared.row_values.RowValues.{RowValues}

-- one of the dots stands at this offset with this value
pub record HasValue (dots : List Dot) (offset : ℕ) (value : ℤ) : Type 0 where
  pub dot : Dot
  pub is_in : Contains dots dot
  pub offset_is : dot.item.offset ≡ offset
  pub value_is : dot.value ≡ value

-- one of the dots stands at this offset with another value
pub record HasOther (dots : List Dot) (offset : ℕ) (value : ℤ) : Type 0 where
  pub dot : Dot
  pub is_in : Contains dots dot
  pub offset_is : dot.item.offset ≡ offset
  pub differs : dot.value ≢ value

-- each dot at this offset has this value
abbrev pub AllHave : List Dot → ℕ → ℤ → Type 0
AllHave dots offset value = (d : Dot) → Contains dots d → d.item.offset ≡ offset → d.value ≡ value

-- what is known of the dots at an offset is true: there is none, all have one value, or whatever value one takes, some have another
abbrev pub IsKnown : List Dot → ℕ → Option OffsetValues → Type 0
IsKnown dots offset None = (d : Dot) → Contains dots d → d.item.offset ≡ offset → ⊥
IsKnown dots offset (Some (One value)) = HasValue dots offset value × AllHave dots offset value
IsKnown dots offset (Some Several) = (value : ℤ) → HasOther dots offset value

-- what is kept of an offset
abbrev pub values_at : RowValues → ℕ → Option OffsetValues
values_at values offset = get nat_cmp values.map offset

-- the values are those of these dots
abbrev pub Keeps : List Dot → RowValues → Type 0
Keeps dots values = (offset : ℕ) → IsKnown dots offset (values_at values offset)

-- one more dot: whether one before it has another value at its offset, and what is kept then
pub record AddsDot (dots : List Dot) (d : Dot) (differs : Bool) (values : RowValues) : Type 0 where
  pub told : MatchBool differs (HasOther dots d.item.offset d.value) (HasOther dots d.item.offset d.value → ⊥)
  pub kept : Keeps (dots ++ d ∷ []) values

-- one of these dots has another value than one of all at its offset
pub record HasClash (all own : List Dot) : Type 0 where
  pub one : Dot
  pub in_all : Contains all one
  pub other : Dot
  pub in_own : Contains own other
  pub offset : one.item.offset ≡ other.item.offset
  pub values : one.value ≢ other.value

-- the dots of one more cell: whether one of them clashes, and what is kept then
pub record AddsDots (dots own : List Dot) (clashes : Bool) (values : RowValues) : Type 0 where
  pub told : MatchBool clashes (HasClash (dots ++ own) own) (HasClash (dots ++ own) own → ⊥)
  pub kept : Keeps (dots ++ own) values

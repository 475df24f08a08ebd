-- The key of a point row: what it is, its bytes, and the first thing that keeps some bytes from being one. Each kind's ids have the bytes of its width.
use Rattle.std.specs.Prelude.{◌≡◌, ◌≢◌, ℕ, ◌+◌, ◌*◌, ◌%◌, ◌^◌, ◌<◌, ◌≤◌, ◌⊎◌, List, ◌++◌, length, All, AllPairs, Option, Some, None, Result, Ok, Err}
use Rattle.std.specs.List.{flat_map, Any}
use Rattle.std.specs.Int.{w32, to_be_bytes}
use Rattle.row_hours.specs.declared.hours.TheConstants.{HOUR}
use Rattle.row_key.specs.declared.widths.Widths.{Widths}
use Rattle.row_key.specs.declared.keys.RowKey.{RowKey}
use Rattle.row_key.specs.declared.keys.KeyFault.{KeyFault}
use Rattle.row_key.specs.declared.keys.KeyFault.TheVariants.{Length, NoPairs, ZeroId, BaseNotHour, PairsNotRising}
pub use Rattle.row_key.specs.IdWidths.{IsWidth, IsId, id_bytes, most_ids}

-- the ids of the tags' keys rise
abbrev pub Rises : RowKey → Type 0
Rises key = AllPairs (λ p q. p.0 < q.0) key.pairs.items

-- a key of a point row: ids, a second at which an hour begins, and 1 to 8 tags
pub record IsKey (w : Widths) (key : RowKey) : Type 0 where
  pub metric : IsId w.metric key.metric
  pub base : key.base < 2 ^ 32
  pub hour : key.base % HOUR ≡ 0
  pub some : 1 ≤ length key.pairs.items
  pub most : length key.pairs.items ≤ 8
  pub ids : All (λ p. IsId w.tag_key p.0 × IsId w.tag_value p.1) key.pairs.items
  pub rising : Rises key

-- how many bytes a metric and an hour have, and how many a tag
abbrev pub hour_len : Widths → ℕ
hour_len w = w.metric + 4

abbrev pub pair_len : Widths → ℕ
pair_len w = w.tag_key + w.tag_value

-- the bytes with which the rows of a metric and an hour begin
abbrev pub hour_bytes : Widths → ℕ → ℕ → List ℕ
hour_bytes w metric base = id_bytes w.metric metric ++ to_be_bytes w32 base

-- the bytes of a tag: its key's id, then its value's
abbrev pub pair_bytes : Widths → ℕ × ℕ → List ℕ
pair_bytes w p = id_bytes w.tag_key p.0 ++ id_bytes w.tag_value p.1

-- the bytes of a key, each number with its highest byte first
abbrev pub key_bytes : Widths → RowKey → List ℕ
key_bytes w key = hour_bytes w key.metric key.base ++ flat_map (pair_bytes w) key.pairs.items

-- the ids of a tag are numbers of their bytes
abbrev pub Small : Widths → ℕ × ℕ → Type 0
Small w p = (p.0 ≤ most_ids w.tag_key) × (p.1 ≤ most_ids w.tag_value)

-- the row is as long as a key, and these are its numbers, whichever they are
pub record HasParts (w : Widths) (row : List ℕ) (key : RowKey) : Type 0 where
  pub metric : key.metric ≤ most_ids w.metric
  pub base : key.base < 2 ^ 32
  pub some : 1 ≤ length key.pairs.items
  pub most : length key.pairs.items ≤ 8
  pub ids : All (Small w) key.pairs.items
  pub row_is : row ≡ key_bytes w key

-- an id is 0
abbrev pub HasZeroId : RowKey → Type 0
HasZeroId key = (key.metric ≡ 0) ⊎ Any (λ p. (p.0 ≡ 0) ⊎ (p.1 ≡ 0)) key.pairs.items

-- so many bytes are those of a metric, an hour and this number of tags; or of no number of them up to 8
abbrev pub CountsPairs : Widths → ℕ → Option ℕ → Type 0
CountsPairs w len (Some n) = (n ≤ 8) × (len ≡ hour_len w + n * pair_len w)
CountsPairs w len None = (n : ℕ) → n ≤ 8 → len ≢ hour_len w + n * pair_len w

-- this is the first thing that keeps the row from being the bytes of a key
abbrev pub IsFirstFault : Widths → List ℕ → KeyFault → Type 0
IsFirstFault w row Length = (n : ℕ) → n ≤ 8 → length row ≢ hour_len w + n * pair_len w
IsFirstFault w row NoPairs = length row ≡ hour_len w
IsFirstFault w row ZeroId = (key : RowKey) × HasParts w row key × HasZeroId key
IsFirstFault w row BaseNotHour = (key : RowKey) × HasParts w row key × ¬ HasZeroId key × (key.base % HOUR ≢ 0)
IsFirstFault w row PairsNotRising = (key : RowKey) × HasParts w row key × ¬ HasZeroId key × (key.base % HOUR ≡ 0) × ¬ Rises key

-- what a row reads as: the key whose bytes it is, else its first fault
abbrev pub ReadsAs : Widths → List ℕ → Result RowKey KeyFault → Type 0
ReadsAs w row (Ok key) = IsKey w key × (row ≡ key_bytes w key)
ReadsAs w row (Err fault) = IsFirstFault w row fault

-- Where a qualifier stands among cells, or would stand.
use Rattle.std.specs.Prelude.{◌≡◌, ℕ, ◌<◌, ◌≤◌, ◌-◌, List, length, slice_index_or, slice_set}
use Rattle.std.specs.declared.cmp.Ordering.TheVariants.{Less, Equal, Greater}
use Rattle.list_lemmas.specs.BytesOrder.{bytes_cmp}
use Rattle.qual_codec.specs.declared.cells.Cell.{Cell}
use Rattle.cell_blocks.specs.Packed.{stamped_at}

-- qualifiers strictly rise
abbrev pub Rises : List Cell → Type 0
Rises cells = (i j : ℕ) → i < j → j < length cells → (d : Cell) → bytes_cmp (slice_index_or cells i d).qual (slice_index_or cells j d).qual ≡ Less

-- the first i qualifiers are before this one
abbrev pub AllBefore : List ℕ → List Cell → ℕ → Type 0
AllBefore qual cells i = (k : ℕ) → k < i → (d : Cell) → bytes_cmp qual (slice_index_or cells k d).qual ≡ Greater

-- those from i on are behind it
abbrev pub AllBehind : List ℕ → List Cell → ℕ → Type 0
AllBehind qual cells i = (k : ℕ) → i ≤ k → k < length cells → (d : Cell) → bytes_cmp qual (slice_index_or cells k d).qual ≡ Less

pub record IsCellAt (qual : List ℕ) (cells : List Cell) (i : ℕ) : Type 0 where
  pub in_range : i < length cells
  pub here : (d : Cell) → bytes_cmp qual (slice_index_or cells i d).qual ≡ Equal

pub record IsCellGap (qual : List ℕ) (cells : List Cell) (i : ℕ) : Type 0 where
  pub in_range : i ≤ length cells
  pub before : AllBefore qual cells i
  pub behind : AllBehind qual cells i

-- the qualifier is behind that of the last cell, which is there
pub record IsBehindLast (qual : List ℕ) (cells : List Cell) : Type 0 where
  pub some : 0 < length cells
  pub behind : (d : Cell) → bytes_cmp qual (slice_index_or cells (length cells - 1) d).qual ≡ Greater

-- the last cell has the qualifier, and then this version
pub record IsLastStamped (qual : List ℕ) (version : ℕ) (old new : List Cell) : Type 0 where
  pub last : IsCellAt qual old (length old - 1)
  pub stamped : (d : Cell) → new ≡ slice_set old (length old - 1) (stamped_at (slice_index_or old (length old - 1) d) version)

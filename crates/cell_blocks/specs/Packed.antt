-- Cells in one block of bytes.
use Rattle.std.specs.Prelude.{◌≡◌, ◌⊎◌, ◌+◌, ◌≤◌, ◌<◌, ℕ, List, [], ◌∷◌, ◌++◌, Option, None, Some, take, drop, length, map, nat_lt, slice_get, if◌then◌else◌}
use Rattle.qual_codec.specs.declared.cells.Cell.{Cell}
use Rattle.cell_blocks.specs.declared.mixed_cells.Head.{Head}
use Rattle.cell_blocks.specs.declared.mixed_cells.Long.{Long}
use Rattle.cell_blocks.specs.declared.mixed_cells.Span.{Span}

-- what a head tells: by itself, or by the long lengths that it names
abbrev pub span_long : Option Long → ℕ → Span
span_long None version = record { at = 0; qual_len = 0; value_len = 0; version = version }
span_long (Some l) version = record { at = l.at; qual_len = l.qual_len; value_len = l.value_len; version = version }

abbrev pub span_short : Head → Span
span_short h = record { at = h.at; qual_len = h.qual_len; value_len = h.value_len; version = h.version }

abbrev pub span_at : List Long → Head → Span
span_at longs h = if nat_lt h.value_len 65535 then span_short h else span_long (slice_get longs h.at) h.version

abbrev pub spans : List Long → List Head → List Span
spans longs heads = map (span_at longs) heads

-- a span's cell: its qualifier stands at `at`, and its value behind it
abbrev pub cell_at : List ℕ → Span → Cell
cell_at bytes h = record { qual = take h.qual_len (drop h.at bytes); value = take h.value_len (drop (h.at + h.qual_len) bytes); version = h.version }

abbrev pub cells_at : List ℕ → List Span → List Cell
cells_at bytes heads = map (cell_at bytes) heads

-- where a span's bytes end
abbrev pub end_of : Span → ℕ
end_of h = h.at + h.qual_len + h.value_len

-- no span has bytes of its own from `from` up to `to`
abbrev pub AllApart : ℕ → ℕ → List Span → Type 0
AllApart from to [] = Unit {0}
AllApart from to (h ∷ hs) = ((to ≤ h.at) ⊎ (end_of h ≤ from)) × AllApart from to hs

-- each span's bytes lie within the block of n bytes, and no two share any
abbrev pub AllKept : ℕ → List Span → Type 0
AllKept n [] = Unit {0}
AllKept n (h ∷ hs) = (end_of h ≤ n) × (AllApart h.at (end_of h) hs × AllKept n hs)

-- a head's long lengths are there, if it names any
abbrev pub IsFound : ℕ → Head → Type 0
IsFound n h = (h.value_len < 65535) ⊎ (h.at < n)

abbrev pub AllFound : ℕ → List Head → Type 0
AllFound n [] = Unit {0}
AllFound n (h ∷ hs) = IsFound n h × AllFound n hs

pub record IsKept (bytes : List ℕ) (longs : List Long) (heads : List Head) : Type 0 where
  pub apart : AllKept (length bytes) (spans longs heads)
  pub found : AllFound (length longs) heads

-- a head tells this
pub record Tells (longs : List Long) (h : Head) (s : Span) : Type 0 where
  pub found : IsFound (length longs) h
  pub told : span_at longs h ≡ s

-- what could be told before is told still
pub record Extends (old new : List Long) : Type 0 where
  pub longer : length old ≤ length new
  pub same : (h : Head) → IsFound (length old) h → span_at new h ≡ span_at old h

-- the cell with another version
abbrev pub stamped_at : Cell → ℕ → Cell
stamped_at c version = record { qual = c.qual; value = c.value; version = version }

-- the bytes w in place of those from `at` on
abbrev pub overwritten : List ℕ → ℕ → List ℕ → List ℕ
overwritten bytes at w = take at bytes ++ (w ++ drop (at + length w) bytes)

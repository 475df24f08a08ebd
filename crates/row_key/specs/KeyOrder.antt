-- The order of rows, which is that of their keys.
use Rattle.std.specs.Prelude.{◌≡◌, ℕ, ◌^◌, ◌<◌, ◌≤◌, ◌↔◌, false, List}
use Rattle.std.specs.declared.cmp.Ordering.{Ordering}
use Rattle.std.specs.declared.cmp.Ordering.TheVariants.{Less}
use Rattle.std.specs.Ordering.{nat_cmp, ordering_then, is_lt}
use Rattle.std.specs.Cmp.Lexicographic.{slice_cmp}
use Rattle.list_lemmas.specs.BytesOrder.{bytes_cmp}
use Rattle.row_key.specs.declared.widths.Widths.{Widths}
use Rattle.row_key.specs.declared.keys.RowKey.{RowKey}
use Rattle.row_key.specs.Key.{IsKey, key_bytes, hour_bytes, most_ids}

-- a tag by its key, then by its value
abbrev pub pair_cmp : ℕ × ℕ → ℕ × ℕ → Ordering
pair_cmp p q = ordering_then (nat_cmp p.0 q.0) (nat_cmp p.1 q.1)

-- a key by its metric, then by its base, then by its tags from the first one on
abbrev pub key_cmp : RowKey → RowKey → Ordering
key_cmp a b = ordering_then (nat_cmp a.metric b.metric) (ordering_then (nat_cmp a.base b.base) (slice_cmp pair_cmp a.pairs.items b.pairs.items))

-- the row is `from` or behind it, and before `to`
abbrev pub IsInRange : List ℕ → List ℕ → List ℕ → Type 0
IsInRange from to row = (is_lt (bytes_cmp row from) ≡ false) × (bytes_cmp row to ≡ Less)

-- keys with the same bytes are one
abbrev pub KeysAreUnique : Type 0
KeysAreUnique = (w : Widths) (a b : RowKey) → IsKey w a → IsKey w b → key_bytes w a ≡ key_bytes w b → a ≡ b

-- rows stand in the order of their keys
abbrev pub RowsFollowKeys : Type 0
RowsFollowKeys = (w : Widths) (a b : RowKey) → IsKey w a → IsKey w b → bytes_cmp (key_bytes w a) (key_bytes w b) ≡ key_cmp a b

-- the rows of a metric whose hours are from one base on and before another are a range of bytes, which has no other row
abbrev pub HoursAreRange : Type 0
HoursAreRange =
    (w : Widths) (key : RowKey) (metric from to : ℕ) → IsKey w key → metric ≤ most_ids w.metric → from < 2 ^ 32 → to < 2 ^ 32
    → IsInRange (hour_bytes w metric from) (hour_bytes w metric to) (key_bytes w key) ↔ ((key.metric ≡ metric) × (from ≤ key.base) × (key.base < to))

-- Points of one series and time with two values: one in seconds, and one in milliseconds.
use Rattle.std.specs.Prelude.{ℕ, ℤ, Bool, ◌&&◌, not, nat_eq, List, map, filter, find, Option, option_map, unwrap_or}
use Rattle.std.specs.List.{flat_map, list_all}
use Rattle.std.specs.FinMap.{entries, from_entries}
use Rattle.std.specs.Ordering.{int_eq, is_le, nat_cmp, ordering_then}
use Rattle.std.specs.Cmp.Lexicographic.{slice_cmp}
use Rattle.std.specs.declared.cmp.Ordering.{Ordering}
use Rattle.tsd_base.specs.Points.{DataPoint}
use Rattle.tsd_base.specs.TagList.{Pair, is_same, is_same_tags}
use Rattle.row_key.specs.KeyOrder.{pair_cmp}
use Rattle.cell_model.specs.Layout.{base_time}
use Rattle.point_lines.specs.NameIds.{Names, id_in}

-- the id of a name that has one
abbrev pub id_of : List (List ℕ) → List ℕ → ℕ
id_of names name = unwrap_or (id_in names name) 0

-- the ids of a tag's key and value
abbrev pub ids_of_tag : Names → Pair → ℕ × ℕ
ids_of_tag names tag = (id_of names.keys tag.0, id_of names.values tag.1)

-- the ids of tags, rising by those of their keys
abbrev pub pairs_of : Names → List Pair → List (ℕ × ℕ)
pairs_of names tags = entries (from_entries {R = nat_cmp} (map (ids_of_tag names) tags))

-- A conflict: the hour and the ids of the tags, which make the row, the time in milliseconds, and the values in seconds and in milliseconds.
pub record Conflict : Type 0 where
  pub hour : ℕ
  pub pairs : List (ℕ × ℕ)
  pub time : ℕ
  pub a : ℤ
  pub b : ℤ

-- p in seconds and q in milliseconds are of one series and time, and have two values
abbrev pub are_conflict : DataPoint → DataPoint → Bool
are_conflict p q =
    not p.fine && (q.fine && (is_same p.metric q.metric && (is_same_tags p.tags q.tags && (nat_eq p.time q.time && not (int_eq p.value q.value)))))

abbrev pub conflict_of : Names → DataPoint → DataPoint → Conflict
conflict_of names p q = record { hour = base_time p.time; pairs = pairs_of names p.tags; time = p.time; a = p.value; b = q.value }

-- all conflicts of points whose names have ids
abbrev pub conflicts : Names → List DataPoint → List Conflict
conflicts names points = flat_map (λ p. map (conflict_of names p) (filter (are_conflict p) points)) points

-- by row, that is by hour and then by the ids of the tags, and in a row by time
abbrev pub conflict_cmp : Conflict → Conflict → Ordering
conflict_cmp c d = ordering_then (nat_cmp c.hour d.hour) (ordering_then (slice_cmp pair_cmp c.pairs d.pairs) (nat_cmp c.time d.time))

-- none of the conflicts comes before it
abbrev pub is_first : List Conflict → Conflict → Bool
is_first all c = list_all (λ d. is_le (conflict_cmp c d)) all

-- the time and the two values of the first conflict of points of one metric
abbrev pub first_conflict : Names → List DataPoint → Option (ℕ × ℤ × ℤ)
first_conflict names points = option_map (λ c. (c.time, c.a, c.b)) (find (is_first (conflicts names points)) (conflicts names points))

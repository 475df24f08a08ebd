-- How many point rows and point cells the parts of a store have together, and how a step changes that.
use Rattle.std.proofs.Common.{◌≡◌, ℕ, suc, ◌+◌, ◌-◌, ◌<◌, ◌≤◌, Bool, true, false, cond, T, List, [], ◌∷◌, map, length, refl, sym, ap, ◌∙◌, arith, nat_eq}
use Rattle.std.specs.Prelude.{Option, None, Some, is_some, filter, sum_by, nat_le, if◌then◌else◌}
use Rattle.std.specs.Ordering.{eq_by_cmp}
use Rattle.std.specs.FinMap.{len-empty, entries_sorted, from_entries, from_sorted, entries-from_sorted, get-entries, get-from_entries, get-from_sorted, keys, len, len-entries, len-insert, len-remove, contains_key, same_map}
use Rattle.std.specs.FinMap as fin
use Rattle.row_key.specs.declared.widths.Widths.{Widths}
use Rattle.std.specs.FinMap.Entries.{where_key, is_sorted, is_sorted-where_key, find-where_key}
use Rattle.std.proofs.lemmas.Bool.Decides.{nat_tests}
use Rattle.std.proofs.lemmas.List.Sums.{sum_by-cons}
use Rattle.row_key.specs.declared.tables.Table.TheVariants.{Points}
use Rattle.cell_model.specs.declared.row.Row.{Row}
use Rattle.cell_model.specs.declared.events.Place.{Place}
use Rattle.cell_model.specs.declared.events.Content.{Content}
use Rattle.cell_model.specs.PlaceOrder.{row_cmp, table_number}
use Rattle.cell_model.specs.Store.{Store, entries, insert, no_cells, remove, place_cmp, content_at, written, stamped, stamped_over, is_dropped, dropped, place_of}
use Rattle.cell_model.specs.Counts.{point_entries, point_rows}
use Rattle.cell_model.proofs.CallerLemmas.{rows_total, exact_rows, places_total}
use Rattle.cell_laws.specs.StoreParts.{part, of_region}
use Rattle.cell_laws.specs.JoinedParts.{AreParts, joined, part_at}
use Rattle.cell_laws.proofs.Parts.{entries-part, part-empty, get-mine, part-insert_mine, part-insert_other, part-remove_mine}
use Rattle.cell_laws.proofs.Joins.{parts-joined}

-- ---- as many elements as there are in each class

from_next : {A : Type 0} (f : A → ℕ) (n : ℕ) (xs : List A) → length (filter (λ x. nat_le n (f x)) xs) ≡ length (filter (λ x. nat_eq (f x) n) xs) + length (filter (λ x. nat_le (n + 1) (f x)) xs)
from_next f n [] = refl
from_next {A = A} f n (x ∷ xs) = at (nat_le n (f x)) refl (nat_eq (f x) n) refl (nat_le (n + 1) (f x)) refl (from_next f n xs)
  where
    low : List A
    low = filter (λ y. nat_le n (f y)) xs

    here : List A
    here = filter (λ y. nat_eq (f y) n) xs

    high : List A
    high = filter (λ y. nat_le (n + 1) (f y)) xs

    at : (a : Bool) → nat_le n (f x) ≡ a → (b : Bool) → nat_eq (f x) n ≡ b → (c : Bool) → nat_le (n + 1) (f x) ≡ c → length (filter (λ y. nat_le n (f y)) xs) ≡ length (filter (λ y. nat_eq (f y) n) xs) + length (filter (λ y. nat_le (n + 1) (f y)) xs)
        → length (cond a (x ∷ filter (λ y. nat_le n (f y)) xs) (filter (λ y. nat_le n (f y)) xs)) ≡ length (cond b (x ∷ filter (λ y. nat_eq (f y) n) xs) (filter (λ y. nat_eq (f y) n) xs)) + length (cond c (x ∷ filter (λ y. nat_le (n + 1) (f y)) xs) (filter (λ y. nat_le (n + 1) (f y)) xs))
    at true p true q false r rest = omega (arith, rest)
    at true p false q true r rest = omega (arith, rest)
    at false p false q false r rest = rest
    at true p true q true r rest = absurd (grind (arith, nat_tests, q, r))
    at true p false q false r rest = absurd (grind (arith, nat_tests, p, q, r))
    at false p true q c r rest = absurd (grind (arith, nat_tests, p, q))
    at false p false q true r rest = absurd (grind (arith, nat_tests, p, r))

none_left : {A : Type 0} (f : A → ℕ) (n : ℕ) → ((x : A) → f x < n) → (xs : List A) → length (filter (λ x. nat_le n (f x)) xs) ≡ 0
none_left f n under [] = refl
none_left {A = A} f n under (x ∷ xs) = at (nat_le n (f x)) refl (none_left f n under xs)
  where
    at : (b : Bool) → nat_le n (f x) ≡ b → length (filter (λ y. nat_le n (f y)) xs) ≡ 0 → length (cond b (x ∷ filter (λ y. nat_le n (f y)) xs) (filter (λ y. nat_le n (f y)) xs)) ≡ 0
    at true p rest = let lt = under x in absurd (grind (arith, nat_tests, p, lt))
    at false p rest = rest

all_from : {A : Type 0} (f : A → ℕ) (xs : List A) → filter (λ x. nat_le 0 (f x)) xs ≡ xs
all_from f [] = refl
all_from {A = A} f (x ∷ xs) = (λ i. cond (least (f x) i) (x ∷ all_from f xs i) (all_from f xs i))
  where
    least : (n : ℕ) → nat_le 0 n ≡ true
    least n = grind (arith, nat_tests)

module _ (w : Widths) (region : Row → ℕ) where
  -- what is counted of a part is how many elements the whole has in that class
  Counts : {A : Type 0} → (A → ℕ) → List A → (Store → ℕ) → Store → Type 0
  Counts f xs count s = (k : ℕ) → count (part (of_region region k) s) ≡ length (filter (λ x. nat_eq (f x) k) xs)

  counted_from : {A : Type 0} (f : A → ℕ) (xs : List A) (count : Store → ℕ) (s : Store) → Counts f xs count s → (n : ℕ) (ps : List Store) → ((k : ℕ) → k < length ps → part_at w ps k ≡ part (of_region region (n + k)) s) → ((x : A) → f x < n + length ps)
      → sum_by count ps ≡ length (filter (λ x. nat_le n (f x)) xs)
  unfolding Counts
  counted_from f xs count s counts n [] are under = sym (none_left f n (λ x. let lt = under x in omega (arith, lt)) xs)
  counted_from f xs count s counts n (p ∷ ps) are under =
      let first : n + 0 ≡ n = omega arith in
      let here : count p ≡ length (filter (λ x. nat_eq (f x) n) xs) = ap count (are 0 (omega arith) ∙ ap (λ (k : ℕ). part (of_region region k) s) first) ∙ counts n in
      let rest : sum_by count ps ≡ length (filter (λ x. nat_le (n + 1) (f x)) xs) = counted_from f xs count s counts (n + 1) ps (λ k lt. let later : n + suc k ≡ n + 1 + k = omega arith in are (suc k) (omega (arith, lt)) ∙ ap (λ (j : ℕ). part (of_region region j) s) later) (λ x. let lt = under x in omega (arith, lt)) in
      sum_by-cons count p ps ∙ (λ i. here i + rest i) ∙ sym (from_next f n xs)

  counted : {A : Type 0} (f : A → ℕ) (xs : List A) (count : Store → ℕ) (ps : List Store) → Counts f xs count (joined w ps) → AreParts w region 0 ps → ((x : A) → f x < length ps) → sum_by count ps ≡ length xs
  counted f xs count ps counts are under =
      counted_from f xs count (joined w ps) counts 0 ps (λ k lt. let at : k ≡ 0 + k = omega arith in sym (parts-joined w region ps k are) ∙ ap (λ (j : ℕ). part (of_region region j) (joined w ps)) at) (λ x. let lt = under x in omega (arith, lt)) ∙ ap length (all_from f xs)

  -- ---- the cells of point rows

  swapped : {A : Type 0} (p q : A → Bool) (xs : List A) → filter p (filter q xs) ≡ filter q (filter p xs)
  swapped p q [] = refl
  swapped {A = A} p q (x ∷ xs) = at (p x) refl (q x) refl (swapped p q xs)
    where
      at : (a : Bool) → p x ≡ a → (b : Bool) → q x ≡ b → filter p (filter q xs) ≡ filter q (filter p xs) → filter p (cond b (x ∷ filter q xs) (filter q xs)) ≡ filter q (cond a (x ∷ filter p xs) (filter p xs))
      at true e true g rest = ap (λ t. cond t (x ∷ filter p (filter q xs)) (filter p (filter q xs))) e ∙ ap (λ (l : List A). x ∷ l) rest ∙ sym (ap (λ t. cond t (x ∷ filter q (filter p xs)) (filter q (filter p xs))) g)
      at true e false g rest = rest ∙ sym (ap (λ t. cond t (x ∷ filter q (filter p xs)) (filter q (filter p xs))) g)
      at false e true g rest = ap (λ t. cond t (x ∷ filter p (filter q xs)) (filter p (filter q xs))) e ∙ rest
      at false e false g rest = rest

  points_of_part : (k : ℕ) (s : Store) → point_entries (part (of_region region k) s) ≡ filter (λ (e : Place × Content). nat_eq (region e.0.row) k) (point_entries s)
  points_of_part k s =
      ap (filter (λ (e : Place × Content). nat_eq (table_number e.0.row.table) 2)) (entries-part (of_region region k) s)
      ∙ swapped (λ (e : Place × Content). nat_eq (table_number e.0.row.table) 2) (λ (e : Place × Content). nat_eq (region e.0.row) k) (entries s)

  -- the cells of point rows are those of the parts
  pub point_cells-joined : (ps : List Store) → AreParts w region 0 ps → ((row : Row) → region row < length ps) → sum_by (λ p. length (point_entries p)) ps ≡ length (point_entries (joined w ps))
  unfolding Counts
  point_cells-joined ps are under =
      counted (λ (e : Place × Content). region e.0.row) (point_entries (joined w ps)) (λ p. length (point_entries p)) ps (λ k. ap length (points_of_part k (joined w ps))) are (λ e. under e.0.row)

  -- ---- the point rows

  abbrev named : List (Place × Content) → List (Row × List ℕ)
  named es = map (λ (e : Place × Content). (e.0.row, e.0.qual)) es

  named_where : (k : ℕ) (es : List (Place × Content)) → named (filter (λ (e : Place × Content). nat_eq (region e.0.row) k) es) ≡ filter (λ (e : Row × List ℕ). nat_eq (region e.0) k) (named es)
  named_where k [] = refl
  named_where k (e ∷ es) = at (nat_eq (region e.0.row) k) (named_where k es)
    where
      at : (b : Bool) → named (filter (λ (x : Place × Content). nat_eq (region x.0.row) k) es) ≡ filter (λ (x : Row × List ℕ). nat_eq (region x.0) k) (named es)
          → named (cond b (e ∷ filter (λ (x : Place × Content). nat_eq (region x.0.row) k) es) (filter (λ (x : Place × Content). nat_eq (region x.0.row) k) es)) ≡ cond b ((e.0.row, e.0.qual) ∷ filter (λ (x : Row × List ℕ). nat_eq (region x.0) k) (named es)) (filter (λ (x : Row × List ℕ). nat_eq (region x.0) k) (named es))
      at true rest = ap (λ (l : List (Row × List ℕ)). (e.0.row, e.0.qual) ∷ l) rest
      at false rest = rest

  firsts_where : (k : ℕ) (es : List (Row × List ℕ)) → map (λ (e : Row × List ℕ). e.0) (filter (λ (e : Row × List ℕ). nat_eq (region e.0) k) es) ≡ filter (λ (row : Row). nat_eq (region row) k) (map (λ (e : Row × List ℕ). e.0) es)
  firsts_where k [] = refl
  firsts_where k (e ∷ es) = at (nat_eq (region e.0) k) (firsts_where k es)
    where
      at : (b : Bool) → map (λ (x : Row × List ℕ). x.0) (filter (λ (x : Row × List ℕ). nat_eq (region x.0) k) es) ≡ filter (λ (row : Row). nat_eq (region row) k) (map (λ (x : Row × List ℕ). x.0) es)
          → map (λ (x : Row × List ℕ). x.0) (cond b (e ∷ filter (λ (x : Row × List ℕ). nat_eq (region x.0) k) es) (filter (λ (x : Row × List ℕ). nat_eq (region x.0) k) es)) ≡ cond b (e.0 ∷ filter (λ (row : Row). nat_eq (region row) k) (map (λ (x : Row × List ℕ). x.0) es)) (filter (λ (row : Row). nat_eq (region row) k) (map (λ (x : Row × List ℕ). x.0) es))
      at true rest = ap (λ (l : List Row). e.0 ∷ l) rest
      at false rest = rest

  -- the rows of some entries of one region
  rows_where : (k : ℕ) (es : List (Row × List ℕ)) → keys (from_entries {R = row_cmp} (where_key row_cmp (of_region region k) es)) ≡ filter (λ (row : Row). nat_eq (region row) k) (keys (from_entries {R = row_cmp} es))
  rows_where k es =
      ap keys (same_map rows_total exact_rows (from_entries (where_key row_cmp (of_region region k) es)) (from_sorted (where_key row_cmp (of_region region k) (fin.entries (from_entries {R = row_cmp} es))))
      (λ q. get-from_entries rows_total (where_key row_cmp (of_region region k) es) q ∙ find-where_key row_cmp (of_region region k) q (alike q) es
      ∙ ap (λ o. cond (of_region region k q) o None) (sym (get-from_entries rows_total es q) ∙ get-entries (from_entries {R = row_cmp} es) q)
      ∙ sym (get-from_sorted row_cmp (where_key row_cmp (of_region region k) (fin.entries (from_entries {R = row_cmp} es))) q up ∙ find-where_key row_cmp (of_region region k) q (alike q) (fin.entries (from_entries {R = row_cmp} es)))))
      ∙ ap (map (λ (e : Row × List ℕ). e.0)) (entries-from_sorted row_cmp (where_key row_cmp (of_region region k) (fin.entries (from_entries {R = row_cmp} es))) up)
      ∙ firsts_where k (fin.entries (from_entries {R = row_cmp} es))
    where
      up : T (is_sorted row_cmp (where_key row_cmp (of_region region k) (fin.entries (from_entries {R = row_cmp} es))))
      up = is_sorted-where_key row_cmp (of_region region k) (fin.entries (from_entries {R = row_cmp} es)) (entries_sorted (from_entries {R = row_cmp} es))

      alike : (q x : Row) → row_cmp q x ≡ Rattle.std.specs.declared.cmp.Ordering.TheVariants.Equal → of_region region k x ≡ of_region region k q
      alike q x tie = ap (of_region region k) (sym (exact_rows q x tie))

  rows_of_part : (k : ℕ) (s : Store) → point_rows (part (of_region region k) s) ≡ filter (λ (row : Row). nat_eq (region row) k) (point_rows s)
  rows_of_part k s =
      ap (λ es. keys (from_entries {R = row_cmp} (named es))) (points_of_part k s)
      ∙ ap (λ es. keys (from_entries {R = row_cmp} es)) (named_where k (point_entries s))
      ∙ rows_where k (named (point_entries s))

  -- the point rows are those of the parts
  pub point_rows-joined : (ps : List Store) → AreParts w region 0 ps → ((row : Row) → region row < length ps) → sum_by (λ p. length (point_rows p)) ps ≡ length (point_rows (joined w ps))
  unfolding Counts
  point_rows-joined ps are under = counted region (point_rows (joined w ps)) (λ p. length (point_rows p)) ps (λ k. ap length (rows_of_part k (joined w ps))) are under

-- ---- how a step changes them

is_point : Row → Bool
is_point row = nat_eq (table_number row.table) (table_number Points)

-- how many cells a store has
abbrev count_of : Store → ℕ
count_of s = len s.cells

points_are : (s : Store) → length (point_entries s) ≡ len (part is_point s).cells
unfolding is_point
points_are s = ap length (sym (entries-part is_point s)) ∙ sym (len-entries (part is_point s).cells)

-- a store without a cell has none
pub points-none : (w : Widths) → length (point_entries (no_cells w)) ≡ 0
unfolding is_point
points-none w = points_are (no_cells w) ∙ ap count_of (part-empty is_point w) ∙ len-empty place_cmp Content

one_more : (s : Store) (p : Place) (c : Content) → count_of (insert s p c) ≤ count_of s + 1
one_more s p c = let e = len-insert places_total s.cells p c in at (contains_key s.cells p) e
  where
    at : (b : Bool) → count_of (insert s p c) ≡ cond b (count_of s) (count_of s + 1) → count_of (insert s p c) ≤ count_of s + 1
    at true e = omega (arith, e)
    at false e = omega (arith, e)

no_more : (s : Store) (p : Place) → count_of (remove s p) ≤ count_of s
no_more s p = let e = len-remove places_total s.cells p in at (contains_key s.cells p) e
  where
    at : (b : Bool) → count_of (remove s p) ≡ cond b (count_of s - 1) (count_of s) → count_of (remove s p) ≤ count_of s
    at true e = omega (arith, e)
    at false e = omega (arith, e)

-- a write adds one at most
pub points-written : (s : Store) (row : Row) (qual value : List ℕ) (version : ℕ) → length (point_entries (written s row qual value version)) ≤ length (point_entries s) + 1
points-written s row qual value version = at (is_point row) refl
  where
    c : Content
    c = record { value = value; version = version }

    at : (b : Bool) → is_point row ≡ b → length (point_entries (written s row qual value version)) ≤ length (point_entries s) + 1
    at true e = let two = one_more (part is_point s) (place_of row qual) c in let new = points_are (written s row qual value version) ∙ ap count_of (part-insert_mine is_point s (place_of row qual) c e) in let old = points_are s in omega (arith, two, new, old)
    at false e = let new = points_are (written s row qual value version) ∙ ap count_of (part-insert_other is_point s (place_of row qual) c e) in let old = points_are s in omega (arith, new, old)

-- and none where the row has no points
pub points-elsewhere : (s : Store) (row : Row) (qual value : List ℕ) (version : ℕ) → nat_eq (table_number row.table) (table_number Points) ≡ false → length (point_entries (written s row qual value version)) ≡ length (point_entries s)
unfolding is_point
points-elsewhere s row qual value version e =
    points_are (written s row qual value version) ∙ ap count_of (part-insert_other is_point s (place_of row qual) (record { value = value; version = version }) e) ∙ sym (points_are s)

-- a stamp changes none
pub points-stamped : (s : Store) (row : Row) (qual : List ℕ) (version : ℕ) → length (point_entries (stamped s row qual version)) ≡ length (point_entries s)
points-stamped s row qual version = at (content_at s row qual) refl
  where
    at : (o : Option Content) → content_at s row qual ≡ o → length (point_entries (stamped_over o s row qual version)) ≡ length (point_entries s)
    at None there = refl
    at (Some old) there = which (is_point row) refl
      where
        c : Content
        c = record { value = old.value; version = version }

        which : (b : Bool) → is_point row ≡ b → length (point_entries (written s row qual old.value version)) ≡ length (point_entries s)
        which true e =
            points_are (written s row qual old.value version) ∙ ap count_of (part-insert_mine is_point s (place_of row qual) c e) ∙ len-insert places_total (part is_point s).cells (place_of row qual) c
            ∙ ap (λ b. cond b (count_of (part is_point s)) (count_of (part is_point s) + 1)) (ap is_some (get-mine is_point s (place_of row qual) e ∙ there)) ∙ sym (points_are s)
        which false e =
            points_are (written s row qual old.value version) ∙ ap count_of (part-insert_other is_point s (place_of row qual) c e) ∙ sym (points_are s)

points-removed : (s : Store) (p : Place) → length (point_entries (remove s p)) ≤ length (point_entries s)
points-removed s p =
    let new = points_are (remove s p) ∙ ap count_of (part-remove_mine is_point s p) in
    let old = points_are s in
    let less = no_more (part is_point s) p in
    omega (arith, new, old, less)

-- a drop adds none
pub points-dropped : (s : Store) (row : Row) (which : List (List ℕ × ℕ)) → length (point_entries (dropped s row which)) ≤ length (point_entries s)
points-dropped s row [] = omega arith
points-dropped s row (d ∷ which) = at (is_dropped (content_at s row d.0) d.1) (points-dropped (remove s (place_of row d.0)) row which) (points-dropped s row which) (points-removed s (place_of row d.0))
  where
    at : (b : Bool) → length (point_entries (dropped (remove s (place_of row d.0)) row which)) ≤ length (point_entries (remove s (place_of row d.0))) → length (point_entries (dropped s row which)) ≤ length (point_entries s) → length (point_entries (remove s (place_of row d.0))) ≤ length (point_entries s)
        → length (point_entries (dropped (if b then remove s (place_of row d.0) else s) row which)) ≤ length (point_entries s)
    at true less stay once = omega (arith, less, once)
    at false less stay once = stay

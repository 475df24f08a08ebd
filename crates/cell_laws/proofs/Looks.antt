-- A range that a next row may look through lies in one region.
use Rattle.std.proofs.Common.{◌≡◌, inl, inr, ℕ, ◌+◌, ◌-◌, ◌%◌, ◌≤◌, ◌<◌, Bool, true, false, List, [], ◌∷◌, ◌++◌, length, refl, sym, ap, subst, ◌∙◌, arith, rules, nat_eq}
use Rattle.std.specs.Prelude.{not, ◌&&◌, if◌then◌else◌}
use Rattle.std.specs.declared.cmp.Ordering.{Ordering}
use Rattle.std.specs.declared.cmp.Ordering.TheVariants.{Less, Equal, Greater}
use Rattle.std.specs.Ordering.{nat_cmp, ordering_then, is_lt}
use Rattle.std.specs.Cmp.{ranked}
use Rattle.row_key.specs.declared.tables.Table.{Table}
use Rattle.row_key.specs.declared.tables.Table.TheVariants.{Ids, Names, Points}
use Rattle.list_lemmas.specs.BytesOrder.{bytes_cmp}
use Rattle.std.proofs.lemmas.List.{get_or_append_left}
use Rattle.cell_model.specs.Store.{is_between}
use Rattle.cell_model.specs.Ranges.{IsWithin, InOneRange}
use Rattle.list_lemmas.proofs.BoolTests.{nat_eq-refl}
use Rattle.list_lemmas.proofs.OrderedBytes.{prefix_between}
use Rattle.row_key.specs.declared.widths.Widths.{Widths}
use Rattle.row_key.specs.Regions.{name_region, ids_region, metric_byte, region_number}
use Rattle.cell_laws.specs.PartLaws.{LooksInOne}

and_first : (a b : Bool) → (a && b) ≡ true → a ≡ true
and_first true b e = refl
and_first false b e = cc

and_second : (a b : Bool) → (a && b) ≡ true → b ≡ true
and_second true b e = e
and_second false b e = absurd cc

not_true : (b : Bool) → not b ≡ true → b ≡ false
not_true true e = cc
not_true false e = refl

-- the last byte of a metric's id is the same whatever stands behind it
metric_of : (w : Widths) (m xs ys : List ℕ) → length m ≡ w.metric → metric_byte w (m ++ xs) ≡ metric_byte w (m ++ ys)
metric_of w m xs ys e =
    let some = w.metric_fits.0 in
    get_or_append_left m xs 0 (w.metric - 1) (omega (arith, e, some)) ∙ sym (get_or_append_left m ys 0 (w.metric - 1) (omega (arith, e, some)))

record Head (low : ℕ) (r : List ℕ) : Type 0 where
  first : ℕ
  rest : List ℕ
  is : r ≡ first ∷ rest
  least : low ≤ first

head_of : (low : ℕ) (r : List ℕ) → is_lt (bytes_cmp r (low ∷ [])) ≡ false → Head low r
head_of low [] e = absurd cc
head_of low (b ∷ r) e = record { first = b; rest = r; is = refl; least = at (nat_cmp b low) refl e }
  where
    at : (o : Ordering) → o ≡ nat_cmp b low → is_lt (ordering_then o (bytes_cmp r [])) ≡ false → low ≤ b
    at Less q e = absurd cc
    at Equal q e = let same : b ≡ low = ranked b low Equal q in omega (arith, same)
    at Greater q e = let up : low < b = ranked b low Greater q in omega (arith, up)

none_between : (rest ts : List ℕ) → is_lt (bytes_cmp rest ts) ≡ true → is_lt (bytes_cmp [] ts) ≡ false → ⊥
none_between rest (t ∷ ts) e f = cc
none_between [] [] e f = cc
none_between (r ∷ rs) [] e f = cc

below_head : (high b : ℕ) (rest to : List ℕ) → is_lt (bytes_cmp (b ∷ rest) to) ≡ true → is_lt (bytes_cmp (high ∷ []) to) ≡ false → b < high
below_head high b rest [] e f = absurd cc
below_head high b rest (t ∷ ts) e f = at (nat_cmp b t) refl (nat_cmp high t) refl e f
  where
    at : (o : Ordering) → o ≡ nat_cmp b t → (q : Ordering) → q ≡ nat_cmp high t → is_lt (ordering_then o (bytes_cmp rest ts)) ≡ true → is_lt (ordering_then q (bytes_cmp [] ts)) ≡ false → b < high
    at Greater x q y e f = absurd cc
    at Less x Less y e f = absurd cc
    at Equal x Less y e f = absurd cc
    at Less x Equal y e f = let one : b < t = ranked b t Less x in let two : high ≡ t = ranked high t Equal y in omega (arith, one, two)
    at Less x Greater y e f = let one : b < t = ranked b t Less x in let two : t < high = ranked high t Greater y in omega (arith, one, two)
    at Equal x Equal y e f = absurd (none_between rest ts e f)
    at Equal x Greater y e f = let one : b ≡ t = ranked b t Equal x in let two : t < high = ranked high t Greater y in omega (arith, one, two)

head_from : (a b : ℕ) (xs ys : List ℕ) → is_lt (bytes_cmp (b ∷ ys) (a ∷ xs)) ≡ false → a ≤ b
head_from a b xs ys e = at (nat_cmp b a) refl e
  where
    at : (o : Ordering) → o ≡ nat_cmp b a → is_lt (ordering_then o (bytes_cmp ys xs)) ≡ false → a ≤ b
    at Less q e = absurd cc
    at Equal q e = let same : b ≡ a = ranked b a Equal q in omega (arith, same)
    at Greater q e = let up : a < b = ranked b a Greater q in omega (arith, up)

ids_name : (b : ℕ) (bs : List ℕ) → 1 ≤ b → ids_region (b ∷ bs) ≡ name_region b
ids_name b [] le = at (nat_eq b 0) refl
  where
    at : (t : Bool) → nat_eq b 0 ≡ t → (if t then 0 else name_region b) ≡ name_region b
    at true e = let zero_is : b ≡ 0 = search (rules, e) in absurd (omega (arith, le, zero_is))
    at false e = refl
ids_name b (c ∷ bs) le = refl

one : (b : ℕ) → b < 65 → name_region b ≡ 1
one b lt = grind (arith, lt)

two : (b : ℕ) → 65 ≤ b → b < 97 → name_region b ≡ 2
two b le lt = grind (arith, le, lt)

three : (b : ℕ) → 97 ≤ b → b < 110 → name_region b ≡ 3
three b le lt = grind (arith, le, lt)

four : (b : ℕ) → 110 ≤ b → name_region b ≡ 4
four b le = grind (arith, le)

names_at : (low high k a : ℕ) (xs to bytes : List ℕ) → 1 ≤ low → ((b : ℕ) → low ≤ b → b < high → name_region b ≡ k) → low ≤ a → is_lt (bytes_cmp bytes (a ∷ xs)) ≡ false → is_lt (bytes_cmp bytes to) ≡ true → is_lt (bytes_cmp (high ∷ []) to) ≡ false
    → ids_region bytes ≡ ids_region (a ∷ xs)
names_at low high k a xs to [] some region le up down top = absurd cc
names_at low high k a xs to (b ∷ bs) some region le up down top =
    let order = head_from a b xs bs up in
    let under = below_head high b bs to down top in
    ids_name b bs (omega (arith, some, le, order)) ∙ region b (omega (arith, le, order)) under ∙ sym (region a le (omega (arith, order, under))) ∙ sym (ids_name a xs (omega (arith, some, le)))

names_in : (low high k : ℕ) (from to bytes : List ℕ) → 1 ≤ low → ((b : ℕ) → low ≤ b → b < high → name_region b ≡ k) → IsWithin low high from to → is_lt (bytes_cmp bytes from) ≡ false → is_lt (bytes_cmp bytes to) ≡ true → ids_region bytes ≡ ids_region from
names_in low high k from to bytes some region w up down =
    let a = head_of low from w.from_on in
    names_at low high k a.first a.rest to bytes some region a.least (subst (λ (z : List ℕ). is_lt (bytes_cmp bytes z) ≡ false) a.is up) down w.to_at ∙ ap ids_region (sym a.is)

same_region : (a b : ℕ) → a ≡ b → nat_eq a b ≡ true
same_region a b e = subst (λ (n : ℕ). nat_eq a n ≡ true) e (nat_eq-refl a)

names_all : (w : Widths) (from to bytes : List ℕ) → InOneRange w Ids from to → is_lt (bytes_cmp bytes from) ≡ false → is_lt (bytes_cmp bytes to) ≡ true → ids_region bytes ≡ ids_region from
names_all v from to bytes (inl w) up down = names_in 1 65 1 from to bytes (omega arith) (λ b le lt. one b lt) w up down
names_all v from to bytes (inr (inl w)) up down = names_in 65 97 2 from to bytes (omega arith) two w up down
names_all v from to bytes (inr (inr (inl w))) up down = names_in 97 110 3 from to bytes (omega arith) three w up down
names_all v from to bytes (inr (inr (inr w))) up down = names_in 110 123 4 from to bytes (omega arith) (λ b le lt. four b le) w up down

looks : (v : Widths) (D : ℕ) (table : Table) (from to : List ℕ) → InOneRange v table from to → (t : Table) (bytes : List ℕ) → is_between table from to (record { table = t; bytes = bytes }) ≡ true → nat_eq (region_number v D t bytes) (region_number v D table from) ≡ true
looks v D Names from to r t bytes e = absurd r
looks v D Ids from to r Names bytes e = absurd cc
looks v D Ids from to r Points bytes e = absurd cc
looks v D Points from to r Ids bytes e = absurd cc
looks v D Points from to r Names bytes e = absurd cc
looks v D Ids from to r Ids bytes e =
    let up = not_true _ (and_first _ _ e) in
    let down = and_second _ _ e in
    same_region (ids_region bytes) (ids_region from) (names_all v from to bytes r up down)
looks v D Points from to r Points bytes e =
    let up = not_true _ (and_first _ _ e) in
    let down = and_second _ _ e in
    let w = prefix_between r.metric r.from_rest r.to_rest bytes (subst (λ (z : List ℕ). is_lt (bytes_cmp bytes z) ≡ false) r.from_is up) (subst (λ (z : List ℕ). is_lt (bytes_cmp bytes z) ≡ true) r.to_is down) in
    let same : metric_byte v bytes ≡ metric_byte v from = ap (metric_byte v) w.1 ∙ metric_of v r.metric w.0 r.from_rest r.whole ∙ ap (metric_byte v) (sym r.from_is) in
    same_region (region_number v D Points bytes) (region_number v D Points from) (ap (λ n. 9 + n % D) same)

pub looks_in_one : LooksInOne
looks_in_one w D table from to r row e = looks w D table from to r row.table row.bytes e

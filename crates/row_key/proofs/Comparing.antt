-- Rows compare as their keys.
use Rattle.std.proofs.Common.{◌≡◌, ℕ, ◌^◌, ◌≤◌, ◌<◌, true, false, List, [], ◌∷◌, ◌++◌, append_assoc, append-nil, refl, sym, ap, ap₂, ◌∙◌, arith}
use Rattle.std.proofs.lemmas.List.Elements.{All-head, All-tail, All-weaker}
use Rattle.std.proofs.lemmas.Cmp.{ranked, tied_itself, nat_cmp_total, nat_list_cmp_total}
use Rattle.std.specs.Prelude.{All, ◌↔◌}
use Rattle.std.specs.List.{flat_map}
use Rattle.std.specs.Int.{byte_at, bytes_high_first}
use Rattle.std.specs.declared.cmp.Ordering.{Ordering}
use Rattle.std.specs.declared.cmp.Ordering.TheVariants.{Less, Equal, Greater}
use Rattle.std.specs.Ordering.{nat_cmp, ordering_then, ordering_reverse, is_lt}
use Rattle.std.specs.Cmp.Lexicographic.{slice_cmp}
use Rattle.list_lemmas.proofs.OrderedBytes.{not_below_none, then_assoc}
use Rattle.row_key.specs.declared.widths.Widths.{Widths}
use Rattle.row_key.specs.declared.keys.RowKey.{RowKey}
use Rattle.row_key.specs.Key.{IsId, IsKey, IsWidth, Small, id_bytes, key_bytes, hour_bytes, most_ids, pair_bytes}
use Rattle.list_lemmas.specs.BytesOrder.{bytes_cmp}
use Rattle.row_key.specs.KeyOrder.{pair_cmp, key_cmp, IsInRange}
use Rattle.row_key.proofs.EachWidth.{at_width, fits_four}

-- ---- numbers of three and of four bytes

less_step : (a b : ℕ) (o : Ordering) → (b < a → ⊥) → (a ≡ b → o ≡ Less) → ordering_then (nat_cmp a b) o ≡ Less
less_step a b o up same = at (nat_cmp a b) refl
  where
    at : (r : Ordering) → r ≡ nat_cmp a b → ordering_then r o ≡ Less
    at Less e = refl
    at Equal e = same (ranked a b Equal e)
    at Greater e = absurd (up (ranked a b Greater e))

-- the lesser id has the lesser bytes, whatever stands behind them
abbrev Below : ℕ → Type 0
Below width = (x y : ℕ) (r s : List ℕ) → x < y → y ≤ most_ids width → bytes_cmp (id_bytes width x ++ r) (id_bytes width y ++ s) ≡ Less

below_two : Below 2
below_two x y r s lt most =
    less_step (byte_at 1 x) (byte_at 1 y) _ (λ u. omega (arith, lt, most, u)) (λ a.
    less_step (byte_at 0 x) (byte_at 0 y) _ (λ u. omega (arith, lt, most, a, u)) (λ b. absurd (omega (arith, lt, most, a, b))))

below_three : Below 3
below_three x y r s lt most =
    less_step (byte_at 2 x) (byte_at 2 y) _ (λ u. omega (arith, lt, most, u)) (λ a.
    less_step (byte_at 1 x) (byte_at 1 y) _ (λ u. omega (arith, lt, most, a, u)) (λ b.
    less_step (byte_at 0 x) (byte_at 0 y) _ (λ u. omega (arith, lt, most, a, b, u)) (λ c. absurd (omega (arith, lt, most, a, b, c)))))

below_four : Below 4
below_four x y r s lt most =
    less_step (byte_at 3 x) (byte_at 3 y) _ (λ u. omega (arith, lt, most, u)) (λ a.
    less_step (byte_at 2 x) (byte_at 2 y) _ (λ u. omega (arith, lt, most, a, u)) (λ b.
    less_step (byte_at 1 x) (byte_at 1 y) _ (λ u. omega (arith, lt, most, a, b, u)) (λ c.
    less_step (byte_at 0 x) (byte_at 0 y) _ (λ u. omega (arith, lt, most, a, b, c, u)) (λ d. absurd (omega (arith, lt, most, a, b, c, d))))))

below : (width : ℕ) → IsWidth width → Below width
below = at_width Below below_two below_three below_four

same_front : (front r s : List ℕ) → bytes_cmp (front ++ r) (front ++ s) ≡ bytes_cmp r s
same_front [] r s = refl
same_front (x ∷ front) r s = ap (λ o. ordering_then o (bytes_cmp (front ++ r) (front ++ s))) (tied_itself nat_cmp_total x) ∙ same_front front r s

turned : (xs ys : List ℕ) → bytes_cmp ys xs ≡ Less → bytes_cmp xs ys ≡ Greater
turned xs ys e = nat_list_cmp_total.antisymm xs ys ∙ ap ordering_reverse e

fronts : (width : ℕ) → IsWidth width → (x y : ℕ) (r s : List ℕ) → x ≤ most_ids width → y ≤ most_ids width → bytes_cmp (id_bytes width x ++ r) (id_bytes width y ++ s) ≡ ordering_then (nat_cmp x y) (bytes_cmp r s)
fronts width fits x y r s lx ly = at (nat_cmp x y) refl
  where
    at : (o : Ordering) → o ≡ nat_cmp x y → bytes_cmp (id_bytes width x ++ r) (id_bytes width y ++ s) ≡ ordering_then o (bytes_cmp r s)
    at Less e = below width fits x y r s (ranked x y Less e) ly
    at Equal e = ap (λ n. bytes_cmp (id_bytes width x ++ r) (id_bytes width n ++ s)) (sym (ranked x y Equal e)) ∙ same_front (id_bytes width x) r s
    at Greater e = turned (id_bytes width x ++ r) (id_bytes width y ++ s) (below width fits y x s r (ranked x y Greater e) lx)

-- an id's bytes stand behind none
abbrev AboveNone : ℕ → Type 0
AboveNone width = (x : ℕ) (r : List ℕ) → (bytes_cmp (id_bytes width x ++ r) [] ≡ Greater) × (bytes_cmp [] (id_bytes width x ++ r) ≡ Less)

above_none : (width : ℕ) → IsWidth width → AboveNone width
above_none = at_width AboveNone (λ x r. (refl, refl)) (λ x r. (refl, refl)) (λ x r. (refl, refl))

-- ---- keys

pair_then : (w : Widths) (p : ℕ × ℕ) (r : List ℕ) → pair_bytes w p ++ r ≡ id_bytes w.tag_key p.0 ++ (id_bytes w.tag_value p.1 ++ r)
pair_then w p r = append_assoc (id_bytes w.tag_key p.0) (id_bytes w.tag_value p.1) r

pairs_compare : (w : Widths) (ps qs : List (ℕ × ℕ)) → All (Small w) ps → All (Small w) qs → bytes_cmp (flat_map (pair_bytes w) ps) (flat_map (pair_bytes w) qs) ≡ slice_cmp pair_cmp ps qs
pairs_compare w [] [] sp sq = refl
pairs_compare w [] (q ∷ qs) sp sq = ap (bytes_cmp []) (pair_then w q (flat_map (pair_bytes w) qs)) ∙ (above_none w.tag_key w.key_fits q.0 _).1
pairs_compare w (p ∷ ps) [] sp sq = ap (λ l. bytes_cmp l []) (pair_then w p (flat_map (pair_bytes w) ps)) ∙ (above_none w.tag_key w.key_fits p.0 _).0
pairs_compare w (p ∷ ps) (q ∷ qs) sp sq =
    let a = All-head (Small w) p ps sp in
    let b = All-head (Small w) q qs sq in
    let rest = pairs_compare w ps qs (All-tail (Small w) p ps sp) (All-tail (Small w) q qs sq) in
    ap₂ bytes_cmp (pair_then w p (flat_map (pair_bytes w) ps)) (pair_then w q (flat_map (pair_bytes w) qs))
    ∙ fronts w.tag_key w.key_fits p.0 q.0 (id_bytes w.tag_value p.1 ++ flat_map (pair_bytes w) ps) (id_bytes w.tag_value q.1 ++ flat_map (pair_bytes w) qs) a.0 b.0
    ∙ ap (ordering_then (nat_cmp p.0 q.0)) (fronts w.tag_value w.value_fits p.1 q.1 (flat_map (pair_bytes w) ps) (flat_map (pair_bytes w) qs) a.1 b.1 ∙ ap (ordering_then (nat_cmp p.1 q.1)) rest)
    ∙ then_assoc (nat_cmp p.0 q.0) (nat_cmp p.1 q.1) (slice_cmp pair_cmp ps qs)

small_ids : (w : Widths) (ps : List (ℕ × ℕ)) → All (λ p. IsId w.tag_key p.0 × IsId w.tag_value p.1) ps → All (Small w) ps
small_ids w ps ids = All-weaker (λ p. IsId w.tag_key p.0 × IsId w.tag_value p.1) (Small w) (λ p h. (h.0.1, h.1.1)) ps ids

hours_compare : (w : Widths) (m n b c : ℕ) (r s : List ℕ) → m ≤ most_ids w.metric → n ≤ most_ids w.metric → b < 2 ^ 32 → c < 2 ^ 32
    → bytes_cmp (hour_bytes w m b ++ r) (hour_bytes w n c ++ s) ≡ ordering_then (nat_cmp m n) (ordering_then (nat_cmp b c) (bytes_cmp r s))
hours_compare w m n b c r s lm ln lb lc =
    ap₂ bytes_cmp (append_assoc (id_bytes w.metric m) (bytes_high_first 4 b) r) (append_assoc (id_bytes w.metric n) (bytes_high_first 4 c) s)
    ∙ fronts w.metric w.metric_fits m n (bytes_high_first 4 b ++ r) (bytes_high_first 4 c ++ s) lm ln
    ∙ ap (ordering_then (nat_cmp m n)) (fronts 4 fits_four b c r s (omega (arith, lb)) (omega (arith, lc)))

pub keys_compare : (w : Widths) (a b : RowKey) → IsKey w a → IsKey w b → bytes_cmp (key_bytes w a) (key_bytes w b) ≡ key_cmp a b
keys_compare w a b x y =
    hours_compare w a.metric b.metric a.base b.base (flat_map (pair_bytes w) a.pairs.items) (flat_map (pair_bytes w) b.pairs.items) x.metric.1 y.metric.1 x.base y.base
    ∙ ap (λ o. ordering_then (nat_cmp a.metric b.metric) (ordering_then (nat_cmp a.base b.base) o)) (pairs_compare w a.pairs.items b.pairs.items (small_ids w a.pairs.items x.ids) (small_ids w b.pairs.items y.ids))

-- ---- a range of hours

Inside : Ordering → Ordering → Type 0
Inside low high = (is_lt low ≡ false) × (high ≡ Less)

within : (m n b from to : ℕ) (o : Ordering) → is_lt o ≡ false
    → (is_lt (ordering_then (nat_cmp m n) (ordering_then (nat_cmp b from) o)) ≡ false) × (ordering_then (nat_cmp m n) (ordering_then (nat_cmp b to) o) ≡ Less) → (m ≡ n) × (from ≤ b) × (b < to)
within m n b from to o end h = at (nat_cmp m n) refl h
  where
    low : (r : Ordering) → r ≡ nat_cmp b from → is_lt (ordering_then r o) ≡ false → from ≤ b
    low Less e h = cc
    low Equal e h = let same = ranked b from Equal e in omega (arith, same)
    low Greater e h = let up = ranked b from Greater e in omega (arith, up)

    high : (r : Ordering) → r ≡ nat_cmp b to → ordering_then r o ≡ Less → b < to
    high Less e h = ranked b to Less e
    high Equal e h = let bad : true ≡ false = ap is_lt (sym h) ∙ end in absurd cc
    high Greater e h = absurd cc

    at : (r : Ordering) → r ≡ nat_cmp m n → (is_lt (ordering_then r (ordering_then (nat_cmp b from) o)) ≡ false) × (ordering_then r (ordering_then (nat_cmp b to) o) ≡ Less) → (m ≡ n) × (from ≤ b) × (b < to)
    at Less e (p, q) = absurd cc
    at Equal e (p, q) = (ranked m n Equal e, low (nat_cmp b from) refl p, high (nat_cmp b to) refl q)
    at Greater e (p, q) = absurd cc

from_step : (a b : ℕ) (o : Ordering) → b ≤ a → is_lt o ≡ false → is_lt (ordering_then (nat_cmp a b) o) ≡ false
from_step a b o le end = at (nat_cmp a b) refl
  where
    at : (r : Ordering) → r ≡ nat_cmp a b → is_lt (ordering_then r o) ≡ false
    at Less e = let low = ranked a b Less e in absurd (omega (arith, low, le))
    at Equal e = end
    at Greater e = refl

inside : (m n b from to : ℕ) (o : Ordering) → is_lt o ≡ false → (m ≡ n) × (from ≤ b) × (b < to)
    → (is_lt (ordering_then (nat_cmp m n) (ordering_then (nat_cmp b from) o)) ≡ false) × (ordering_then (nat_cmp m n) (ordering_then (nat_cmp b to) o) ≡ Less)
inside m n b from to o end (e, low, high) =
    let tie : nat_cmp m n ≡ Equal = ap (nat_cmp m) (sym e) ∙ tied_itself nat_cmp_total m in (
      ap (λ r. is_lt (ordering_then r (ordering_then (nat_cmp b from) o))) tie ∙ from_step b from o low end,
      ap (λ r. ordering_then r (ordering_then (nat_cmp b to) o)) tie ∙ less_step b to o (λ up. omega (arith, up, high)) (λ same. absurd (omega (arith, same, high))),
    )

pub hours_are_between : (w : Widths) (key : RowKey) (metric from to : ℕ) → IsKey w key → metric ≤ most_ids w.metric → from < 2 ^ 32 → to < 2 ^ 32
    → IsInRange (hour_bytes w metric from) (hour_bytes w metric to) (key_bytes w key) ↔ ((key.metric ≡ metric) × (from ≤ key.base) × (key.base < to))
hours_are_between w key metric from to is lm lf lt =
    let tags = flat_map (pair_bytes w) key.pairs.items in
    let end = not_below_none tags in
    let a = ap (bytes_cmp (key_bytes w key)) (sym (append-nil (hour_bytes w metric from))) ∙ hours_compare w key.metric metric key.base from tags [] is.metric.1 lm is.base lf in
    let b = ap (bytes_cmp (key_bytes w key)) (sym (append-nil (hour_bytes w metric to))) ∙ hours_compare w key.metric metric key.base to tags [] is.metric.1 lm is.base lt in (
      λ h. within key.metric metric key.base from to (bytes_cmp tags []) end (ap is_lt (sym a) ∙ h.0, sym b ∙ h.1),
      λ h. let both = inside key.metric metric key.base from to (bytes_cmp tags []) end h in (ap is_lt a ∙ both.0, b ∙ both.1),
    )

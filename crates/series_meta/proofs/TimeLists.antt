-- Times of series by their ids, and those of one row more.
use Rattle.std.proofs.Common.{◌≡◌, ◌⊎◌, inl, inr, ℕ, ◌+◌, ◌*◌, ◌<◌, ◌≤◌, Bool, true, false, cond, List, [], ◌∷◌, ◌++◌, length, map, refl, sym, ap, subst, arith, length-append}
use Rattle.std.specs.Prelude.{AllPairs, Contains, Option, None, Some, unwrap_or}
use Rattle.std.proofs.lemmas.List.{length-map}
use Rattle.std.proofs.lemmas.List.Elements.{Contains-append_left, Contains-append_cases}
use Rattle.std.specs.declared.cmp.Ordering.{Ordering}
use Rattle.std.specs.declared.cmp.Ordering.TheVariants.{Less, Equal, Greater}
use Rattle.std.specs.Ordering.{is_eq, eq_by_cmp, nat_cmp}
use Rattle.std.specs.Cmp.{tied_itself}
use Rattle.std.specs.FinMap.{IsAntisymmetric, slice_cmp-IsAntisymmetric}
use Rattle.std.proofs.lemmas.Map.Lookups.{exact_pairs, exact_unsigned}
use Rattle.list_lemmas.proofs.ListMembers.{here, there, map_in, pairs_in, pairs_tail}
use Rattle.list_lemmas.proofs.ListParts.{pairs_cons}
use Rattle.span_merge.specs.Spans.{pairs_cmp}
use Rattle.series_meta.specs.PairsOrder.{pairs_cmp_total}
use Rattle.series_meta.specs.SeriesTimes.{Times, IsCount}

abbrev pub Pairs : Type 0
Pairs = List (ℕ × ℕ)

pub pairs_exact : IsAntisymmetric pairs_cmp
pairs_exact = slice_cmp-IsAntisymmetric (exact_pairs nat_cmp nat_cmp exact_unsigned exact_unsigned)

equal : (r : Ordering) → is_eq r ≡ true → r ≡ Equal
equal Less e = cc
equal Equal e = refl
equal Greater e = cc

pub same_pairs : (p q : Pairs) → eq_by_cmp pairs_cmp p q ≡ true → p ≡ q
same_pairs p q e = pairs_exact p q (equal (pairs_cmp p q) e)

pub tied_pairs : (p q : Pairs) → p ≡ q → eq_by_cmp pairs_cmp p q ≡ true
tied_pairs p q same = subst (λ (x : Pairs). eq_by_cmp pairs_cmp p x ≡ true) same (ap is_eq (tied_itself pairs_cmp_total p))

-- ---- rising numbers

pub rising_joined : (xs ys : List ℕ) → AllPairs (λ s t. s < t) xs → AllPairs (λ s t. s < t) ys → ((x y : ℕ) → Contains xs x → Contains ys y → x < y) → AllPairs (λ s t. s < t) (xs ++ ys)
rising_joined [] ys ux uy below = uy
rising_joined (x ∷ xs) ys ux uy below =
    pairs_cons (λ s t. s < t) x (xs ++ ys)
    (λ y c. elim (Contains-append_cases xs ys y c) [
      | inl old ↦ pairs_in (λ s t. s < t) x y xs ux old
      | inr new ↦ below x y (here x xs) new
    ])
    (rising_joined xs ys (pairs_tail (λ s t. s < t) x xs ux) uy (λ a b i j. below a b (there x a xs i) j))

-- the times of a row's offsets, whose hour begins at this second
abbrev pub row_times : ℕ → List ℕ → List ℕ
row_times base offsets = map (λ o. base * 1000 + o) offsets

pub row_times_rise : (base : ℕ) (offsets : List ℕ) → AllPairs (λ i j. i < j) offsets → AllPairs (λ s t. s < t) (row_times base offsets)
row_times_rise base [] up = λ i j d lt within. absurd (omega (arith, within))
row_times_rise base (x ∷ offsets) up =
    pairs_cons (λ s t. s < t) (base * 1000 + x) (row_times base offsets)
    (λ t c.
    let w = map_in (λ o. base * 1000 + o) offsets t c in
    let lt = pairs_in (λ i j. i < j) x w.0 offsets up w.1 in
    let is = w.2 in
    omega (arith, lt, is))
    (row_times_rise base offsets (pairs_tail (λ i j. i < j) x offsets up))

-- ---- times behind those of one series

-- the series with these ids has these times behind its own
abbrev pub behind_of : Times → Pairs → List ℕ → Times
behind_of times pairs more q = cond (eq_by_cmp pairs_cmp pairs q) (times q ++ more) (times q)

pub behind_here : (times : Times) (p : Pairs) (more : List ℕ) → behind_of times p more p ≡ times p ++ more
behind_here times p more = ap (λ b. cond b (times p ++ more) (times p)) (tied_pairs p p refl)

pub behind_keeps : (times : Times) (p q : Pairs) (more : List ℕ) (t : ℕ) → Contains (times q) t → Contains (behind_of times p more q) t
behind_keeps times p q more t c = at (eq_by_cmp pairs_cmp p q)
  where
    at : (b : Bool) → Contains (cond b (times q ++ more) (times q)) t
    at true = Contains-append_left (times q) more t c
    at false = c

pub behind_cases : (times : Times) (p q : Pairs) (more : List ℕ) (t : ℕ) → Contains (behind_of times p more q) t → Contains (times q) t ⊎ ((p ≡ q) × Contains more t)
behind_cases times p q more t c = at (eq_by_cmp pairs_cmp p q) refl c
  where
    at : (b : Bool) → eq_by_cmp pairs_cmp p q ≡ b → Contains (cond b (times q ++ more) (times q)) t → Contains (times q) t ⊎ ((p ≡ q) × Contains more t)
    at true e c = elim (Contains-append_cases (times q) more t c) [ inl old ↦ inl old | inr new ↦ inr (same_pairs p q e, new) ]
    at false e c = inl c

pub behind_rises : (times : Times) (p q : Pairs) (more : List ℕ) → AllPairs (λ s t. s < t) (times q) → AllPairs (λ s t. s < t) more → ((x y : ℕ) → p ≡ q → Contains (times q) x → Contains more y → x < y) → AllPairs (λ s t. s < t) (behind_of times p more q)
behind_rises times p q more up new below = at (eq_by_cmp pairs_cmp p q) refl
  where
    at : (b : Bool) → eq_by_cmp pairs_cmp p q ≡ b → AllPairs (λ s t. s < t) (cond b (times q ++ more) (times q))
    at true e = rising_joined (times q) more up new (λ x y i j. below x y (same_pairs p q e) i j)
    at false e = up

-- ---- how many they are

counted_length : (times : List ℕ) (o : Option ℕ) → IsCount times o → unwrap_or o 0 ≡ length times
counted_length times None is = sym is
counted_length times (Some n) is = is.0

-- some more are counted for one series
pub count_more : (times : Times) (p q : Pairs) (more : List ℕ) (count : ℕ) (old new : Option ℕ) → count ≡ length more → 1 ≤ count → IsCount (times q) old → new ≡ cond (eq_by_cmp pairs_cmp p q) (Some (unwrap_or old 0 + count)) old → IsCount (behind_of times p more q) new
count_more times p q more count old new is some had now = at (eq_by_cmp pairs_cmp p q) now
  where
    at : (b : Bool) → new ≡ cond b (Some (unwrap_or old 0 + count)) old → IsCount (cond b (times q ++ more) (times q)) new
    at true e =
        let n = counted_length (times q) old had in
        let l = length-append (times q) more in
        subst (IsCount (times q ++ more)) (sym e) (omega (arith, n, l, is), omega (arith, some))
    at false e = subst (IsCount (times q)) (sym e) had

-- none more
pub count_none : (times : Times) (p q : Pairs) (more : List ℕ) (o : Option ℕ) → length more ≡ 0 → IsCount (times q) o → IsCount (behind_of times p more q) o
count_none times p q more o none had = at (eq_by_cmp pairs_cmp p q)
  where
    longer : (o : Option ℕ) → IsCount (times q) o → IsCount (times q ++ more) o
    longer None is = let l = length-append (times q) more in omega (arith, l, none, is)
    longer (Some n) is = let l = length-append (times q) more in let a = is.0 in (omega (arith, l, none, a), is.1)

    at : (b : Bool) → IsCount (cond b (times q ++ more) (times q)) o
    at true = longer o had
    at false = had

pub none_behind : (times : Times) (p q : Pairs) (more : List ℕ) → length more ≡ 0 → length (behind_of times p more q) ≡ length (times q)
none_behind times p q more none = at (eq_by_cmp pairs_cmp p q)
  where
    at : (b : Bool) → length (cond b (times q ++ more) (times q)) ≡ length (times q)
    at true = let l = length-append (times q) more in omega (arith, l, none)
    at false = refl

pub row_times_length : (base : ℕ) (offsets : List ℕ) → length (row_times base offsets) ≡ length offsets
row_times_length base offsets = length-map offsets (λ o. base * 1000 + o)

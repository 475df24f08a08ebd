-- The points that merging keeps of a row, as points of a range of times.
use Rattle.std.proofs.Common.{◌≡◌, ◌⊎◌, inl, inr, ℕ, ◌+◌, ◌-◌, ◌*◌, ◌<◌, ◌≤◌, Bool, true, false, cond, List, [], ◌∷◌, refl, sym, subst, ◌∙◌, arith}
use Rattle.std.specs.Prelude.{ℤ, Contains, Option, None, Some, option_map, map, min, not, find}
use Rattle.std.specs.Ordering.{int_eq}
use Rattle.std.proofs.lemmas.Bool.Decides.{Decides-int_eq}
use Rattle.std.proofs.lemmas.List.Elements.{Contains-append_cases}
use Rattle.qual_codec.specs.declared.cells.Cell.{Cell}
use Rattle.qual_codec.specs.declared.cells.Dot.{Dot}
use Rattle.qual_codec.specs.declared.cells.MergeFault.TheVariants as merge
use Rattle.qual_codec.specs.Merge.{AreDots, values_at, first_conflict, MergesTo, TellsConflict}
use Rattle.row_scan.specs.RowTimes.{KeepsPoints}
use Rattle.query_run.specs.RowDots.{dot_at, IsIn, HasDots, Conflicts}
use Rattle.query_run.proofs.Lower as lower

-- ---- values that don't conflict are one

some_none : {A B : Type 0} (f : A → B) (o : Option A) → option_map f o ≡ None → o ≡ None
some_none f None e = refl
some_none f (Some x) e = cc

not_found : (a : ℤ) (vs : List ℤ) → find (λ b. not (int_eq a b)) vs ≡ None → (v : ℤ) → Contains vs v → a ≡ v
not_found a [] e v c = absurd (lower.not_in v c)
not_found a (w ∷ vs) e v c = at (int_eq a w) refl e (lower.split w v vs c) (not_found a vs)
  where
    at : (t : Bool) → int_eq a w ≡ t → cond (not t) (Some w) (find (λ b. not (int_eq a b)) vs) ≡ None → (w ≡ v) ⊎ Contains vs v
        → (find (λ b. not (int_eq a b)) vs ≡ None → (u : ℤ) → Contains vs u → a ≡ u) → a ≡ v
    at true i f (inl same) go = (Decides-int_eq a w).0 i ∙ same
    at true i f (inr later) go = go f v later
    at false i f c go = cc

pub one_value : (vs : List ℤ) → first_conflict vs ≡ None → (v w : ℤ) → Contains vs v → Contains vs w → v ≡ w
one_value [] e v w c d = absurd (lower.not_in v c)
one_value (a ∷ vs) e v w c d = sym (first v c) ∙ first w d
  where
    same : (u : ℤ) → Contains vs u → a ≡ u
    same = not_found a vs (some_none (λ b. (a, b)) (find (λ b. not (int_eq a b)) vs) e)

    first : (u : ℤ) → Contains (a ∷ vs) u → a ≡ u
    first u c = elim (lower.split a u vs c) [ inl is ↦ is | inr later ↦ same u later ]

-- ---- the offsets are within the hour

pub are_offsets : (cells : List Cell) (all : List Dot) → AreDots cells all → (x : Dot) → Contains all x → x.item.offset ≤ 3599999
are_offsets [] all are x c = absurd (lower.not_in x (subst (λ (l : List Dot). Contains l x) are c))
are_offsets (k ∷ cells) all are x c =
    elim (Contains-append_cases are.0 are.1 x (subst (λ (l : List Dot). Contains l x) are.4 c)) [
      | inl l ↦ lower.dot_offset k.qual k.value are.0 x are.2 l
      | inr r ↦ are_offsets cells are.1 are.3 x r
    ]

-- ---- what is kept

same_point : (base : ℕ) (x y : Dot) → x.item.offset ≡ y.item.offset → x.value ≡ y.value → dot_at base x ≡ dot_at base y
same_point base x y o v = λ i. (base * 1000 + o i, v i)

pub has_dots : (cells : List Cell) (base start end first last : ℕ) (kept : List Dot) → base * 1000 ≤ end → first ≡ start - base * 1000 → last ≡ min (end - base * 1000) 3599999 → MergesTo cells first last kept
    → HasDots cells base start end (map (dot_at base) kept)
has_dots cells base start end first last kept le f l (all, are, keeps) = record {
  all = all;
  are = are;
  each = λ d c.
      let w = lower.map_in (dot_at base) kept d c in
      let k = keeps.each w.0 w.1 in
      let from_on = k.1 in
      let up_to = k.2 in
      (w.0, k.0, sym w.2, subst (λ (p : ℕ × ℤ). IsIn start end p.0) w.2 (omega (arith, from_on, f), omega (arith, up_to, l, le)));
  there = λ x c within.
      let low = within.0 in
      let high = within.1 in
      let most = are_offsets cells all are x c in
      let from_on : first ≤ x.item.offset = omega (arith, low, f) in
      let up_to : x.item.offset ≤ last = omega (arith, high, l, most, le) in
      let b = keeps.best x c from_on up_to in
      let same = b.2.offset in
      let e = keeps.each b.0 b.1 in
      let value = one_value (values_at x.item.offset all) (keeps.one_value x.item.offset from_on up_to) b.0.value x.value (lower.dot_value all b.0 x.item.offset e.0 (sym same)) (lower.dot_value all x x.item.offset c refl) in
      subst (Contains (map (dot_at base) kept)) (same_point base b.0 x (sym same) value) (lower.in_map (dot_at base) kept b.0 b.1);
  one = λ offset within. none offset within;
}
  where
    no_dots : (offset : ℕ) → 3599999 < offset → first_conflict (values_at offset all) ≡ None
    no_dots offset big =
        lower.no_conflict (values_at offset all) (λ v w c d.
        let x = lower.value_dot all offset v c in
        let most = are_offsets cells all are x.dot x.among in
        let is = x.offset_is in
        absurd (omega (arith, most, is, big)))

    none : (offset : ℕ) → IsIn start end (base * 1000 + offset) → first_conflict (values_at offset all) ≡ None
    none offset within = elim (split_at offset) [
      | inl small ↦ (let low = within.0 in let high = within.1 in keeps.one_value offset (omega (arith, low, f)) (omega (arith, high, l, small, le)))
      | inr big ↦ no_dots offset big
    ]
      where
        split_at : (n : ℕ) → (n ≤ 3599999) ⊎ (3599999 < n)
        split_at n = grind arith

pub conflicts : (cells : List Cell) (base start end first last offset : ℕ) (a b : ℤ) → base * 1000 ≤ end → first ≡ start - base * 1000 → last ≡ min (end - base * 1000) 3599999
    → TellsConflict cells first last (merge.Conflict offset a b) → Conflicts cells base start end (base * 1000 + offset) a b
conflicts cells base start end first last offset a b le f l (all, are, cl) = record {
  all = all;
  are = are;
  offset = offset;
  time_is = refl;
  within = let low = cl.from_on in let high = cl.up_to in (omega (arith, low, f), omega (arith, high, l, le));
  values = cl.values;
  least = λ lower low lt. cl.least lower (omega (arith, low, f)) lt;
}

-- the points that were kept, at their times
pub has_kept : (cells : List Cell) (base start end first last : ℕ) (dots : List (ℕ × ℤ)) → base * 1000 ≤ end → first ≡ start - base * 1000 → last ≡ min (end - base * 1000) 3599999 → KeepsPoints cells base first last dots → HasDots cells base start end dots
has_kept cells base start end first last dots le f l (kept, m, is) = subst (HasDots cells base start end) (sym is) (has_dots cells base start end first last kept le f l m)

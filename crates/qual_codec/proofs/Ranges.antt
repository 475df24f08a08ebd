-- Sorting the dots in a range by offset, and what is kept of them.
use Rattle.std.proofs.Common.{◌≡◌, ℕ, ◌≤◌, Bool, true, false, cond, not, ◌&&◌, List, [], ◌∷◌, filter, refl, sym, ap, subst, ◌∙◌, arith, rules}
use Rattle.std.specs.Prelude.{pos, map, nat_eq, nat_le}
use Rattle.std.specs.declared.cmp.Ordering.{Ordering}
use Rattle.std.specs.declared.cmp.Ordering.TheVariants.{Less, Equal, Greater}
use Rattle.std.specs.Ordering.{nat_cmp, is_lt, ordering_reverse}
use Rattle.std.specs.Cmp.{ranked, nat_cmp_total}
use Rattle.std.proofs.lemmas.Bool.{eq-eqb, eqb-true}
use Rattle.std.specs.List.Sorted.{IsPermutation, IsStableByKey, ties}
use Rattle.std.proofs.lemmas.List.Sorted.{IsPermutation-sym, Contains-permutation}
use Rattle.std.proofs.lemmas.List.Elements.{filter_agree}
use Rattle.qual_codec.specs.declared.cells.Dot.{Dot}
use Rattle.qual_codec.specs.declared.cells.MergeFault.{MergeFault}
use Rattle.qual_codec.specs.declared.cells.MergeFault.TheVariants.{Conflict, OutOfMemory}
use Rattle.qual_codec.specs.Merge.{offset_of, is_within, values_at, first_conflict, Keeps, ConflictsAt}
use Rattle.qual_codec.specs.MergeSteps.{AreSorted, KeepsAll, ConflictsIn}
use Rattle.list_lemmas.proofs.ListParts.{in_filter, to_filter}

-- ---- the sort

-- a dot of this offset
abbrev dot_at : ℕ → Dot
dot_at offset = record { item = record { offset = offset; fine = false; len = 1 }; value = pos 0 }

same_offset : (a b : ℕ) → not (is_lt (nat_cmp a b)) && not (is_lt (nat_cmp b a)) ≡ nat_eq a b
same_offset a b = at (nat_cmp a b) (nat_cmp b a) (nat_cmp_total.antisymm b a) (nat_eq a b) refl refl
  where
    at : (r s : Ordering) → s ≡ ordering_reverse r → (t : Bool) → nat_eq a b ≡ t → r ≡ nat_cmp a b → not (is_lt r) && not (is_lt s) ≡ t
    at Less s turned true t e = let same = eqb-true a b t in let lt = ranked a b Less e in absurd (omega (arith, same, lt))
    at Less s turned false t e = refl
    at Equal s turned true t e = ap (λ x. not (is_lt x)) turned
    at Equal s turned false t e = let same = ranked a b Equal e in let w = eq-eqb a b same in cc
    at Greater s turned true t e = let same = eqb-true a b t in let lt = ranked a b Greater e in absurd (omega (arith, same, lt))
    at Greater s turned false t e = ap (λ x. not (is_lt x)) turned

pub stable_values : (dots sorted : List Dot) → IsStableByKey offset_of nat_cmp dots sorted → (offset : ℕ) → values_at offset sorted ≡ values_at offset dots
stable_values dots sorted stable offset =
    ap (map (λ (d : Dot). d.value)) (sym (filter_agree (ties (λ (d e : Dot). is_lt (nat_cmp d.item.offset e.item.offset)) (dot_at offset)) (λ (d : Dot). nat_eq offset d.item.offset) (λ d. same_offset offset d.item.offset) sorted)
    ∙ stable (dot_at offset)
    ∙ filter_agree (ties (λ (d e : Dot). is_lt (nat_cmp d.item.offset e.item.offset)) (dot_at offset)) (λ (d : Dot). nat_eq offset d.item.offset) (λ d. same_offset offset d.item.offset) dots)

pub are_sorted : (dots sorted : List Dot) → IsPermutation dots sorted → IsStableByKey offset_of nat_cmp dots sorted → AreSorted dots sorted
are_sorted dots sorted p stable = record {
  there = λ d c. Contains-permutation dots sorted d p c;
  back = λ d c. Contains-permutation sorted dots d (IsPermutation-sym dots sorted p) c;
  same = stable_values dots sorted stable;
}

-- ---- the range

within_both : (first last : ℕ) (d : Dot) → is_within first last d ≡ true → (first ≤ d.item.offset) × (d.item.offset ≤ last)
within_both first last d e = at (nat_le first d.item.offset) (nat_le d.item.offset last) refl refl e
  where
    at : (a b : Bool) → nat_le first d.item.offset ≡ a → nat_le d.item.offset last ≡ b → a && b ≡ true → (first ≤ d.item.offset) × (d.item.offset ≤ last)
    at true true x y e = (search (rules, x), search (rules, y))
    at true false x y e = cc
    at false b x y e = cc

is_within_both : (first last : ℕ) (d : Dot) → first ≤ d.item.offset → d.item.offset ≤ last → is_within first last d ≡ true
is_within_both first last d a b = let x : nat_le first d.item.offset ≡ true = search (rules, a) in let y : nat_le d.item.offset last ≡ true = search (rules, b) in ap (λ t. t && nat_le d.item.offset last) x ∙ y

-- at an offset in the range a filter keeps the values
values_within : (first last offset : ℕ) → first ≤ offset → offset ≤ last → (dots : List Dot) → values_at offset (filter (is_within first last) dots) ≡ values_at offset dots
values_within first last offset a b dots = ap (map (λ (d : Dot). d.value)) (twice dots)
  where
    twice : (ds : List Dot) → filter (λ (d : Dot). nat_eq offset d.item.offset) (filter (is_within first last) ds) ≡ filter (λ (d : Dot). nat_eq offset d.item.offset) ds
    twice [] = refl
    twice (d ∷ ds) = at (nat_eq offset d.item.offset) refl (is_within first last d) refl (twice ds)
      where
        at : (t : Bool) → nat_eq offset d.item.offset ≡ t → (u : Bool) → is_within first last d ≡ u → filter (λ (d : Dot). nat_eq offset d.item.offset) (filter (is_within first last) ds) ≡ filter (λ (d : Dot). nat_eq offset d.item.offset) ds
            → filter (λ (d : Dot). nat_eq offset d.item.offset) (cond u (d ∷ filter (is_within first last) ds) (filter (is_within first last) ds)) ≡ cond t (d ∷ filter (λ (d : Dot). nat_eq offset d.item.offset) ds) (filter (λ (d : Dot). nat_eq offset d.item.offset) ds)
        at true x true y go = ap (λ b. cond b (d ∷ filter (λ (d : Dot). nat_eq offset d.item.offset) (filter (is_within first last) ds)) (filter (λ (d : Dot). nat_eq offset d.item.offset) (filter (is_within first last) ds))) x ∙ ap (λ l. d ∷ l) go
        at false x true y go = ap (λ b. cond b (d ∷ filter (λ (d : Dot). nat_eq offset d.item.offset) (filter (is_within first last) ds)) (filter (λ (d : Dot). nat_eq offset d.item.offset) (filter (is_within first last) ds))) x ∙ go
        at true x false y go = let same = eqb-true offset d.item.offset x in let w = is_within_both first last d (subst (λ o. first ≤ o) same a) (subst (λ o. o ≤ last) same b) in cc
        at false x false y go = go

pub keeps_within : (first last : ℕ) (all sorted kept : List Dot) → AreSorted (filter (is_within first last) all) sorted → KeepsAll sorted kept → Keeps all first last kept
keeps_within first last all sorted kept s k = record {
  rising = k.rising;
  each = λ d c. let w = in_filter (is_within first last) all d (s.back d (k.each d c)) in let r = within_both first last d w.1 in (w.0, r.0, r.1);
  best = λ d c a b. k.best d (s.there d (to_filter (is_within first last) all d c (is_within_both first last d a b)));
  one_value = λ offset a b. ap first_conflict (sym (s.same offset ∙ values_within first last offset a b all)) ∙ k.one_value offset;
}

pub conflicts_within : (first last : ℕ) (all sorted : List Dot) (fault : MergeFault) → AreSorted (filter (is_within first last) all) sorted → ConflictsIn sorted fault → ConflictsAt all first last fault
conflicts_within first last all sorted (Conflict offset a b) s k =
    let here = in_filter (is_within first last) all k.dot (s.back k.dot k.among) in
    let range = within_both first last k.dot here.1 in
    let low = subst (λ o. first ≤ o) k.offset_is range.0 in
    let high = subst (λ o. o ≤ last) k.offset_is range.1 in
    record {
      from_on = low;
      up_to = high;
      values = ap first_conflict (sym (s.same offset ∙ values_within first last offset low high all)) ∙ k.values;
      least = λ lower from_on lt. ap first_conflict (sym (s.same lower ∙ values_within first last lower from_on (omega (arith, lt, high)) all)) ∙ k.least lower lt;
    }
conflicts_within first last all sorted OutOfMemory s k = tt

-- Data points whose offsets rise: merging keeps all of them that are in the range.
use Rattle.std.proofs.Common.{◌≡◌, ◌⊎◌, inl, inr, ℕ, ◌+◌, ◌<◌, ◌≤◌, List, [], ◌∷◌, ◌++◌, length, take, get_or, refl, sym, ap, subst, ◌∙◌, arith}
use Rattle.std.specs.Prelude.{AllPairs, Contains, filter}
use Rattle.std.proofs.lemmas.List.{take_more}
use Rattle.std.proofs.lemmas.List.Elements.{Contains-push_cases}
use Rattle.std.proofs.lemmas.List.Kept.{AllPairs-filter}
use Rattle.qual_codec.specs.declared.cells.Dot.{Dot}
use Rattle.qual_codec.specs.Merge.{Keeps, is_within}
use Rattle.qual_codec.specs.MergeSteps.{AreSorted, KeepsAll}
use Rattle.list_lemmas.proofs.ListMembers.{not_in, pairs_in, pairs_tail, split}
use Rattle.list_lemmas.proofs.ListParts.{pairs_push}
use Rattle.qual_codec.proofs.Ordering.{good_refl}
use Rattle.qual_codec.proofs.Best.{Rise, kept_all}
use Rattle.qual_codec.proofs.Ranges.{keeps_within}

abbrev pub AreRising : List Dot → Type 0
AreRising dots = AllPairs Rise dots

-- they rise, and are below this offset
pub record RiseBelow (dots : List Dot) (least : ℕ) : Type 0 where
  pub rising : AreRising dots
  pub below : (d : Dot) → Contains dots d → d.item.offset < least

pub none_below : RiseBelow [] 0
none_below = record { rising = λ i j d lt within. absurd (omega (arith, lt, within)); below = λ d c. absurd (not_in d c) }

-- one more that is from this offset on
pub rise_push : (dots : List Dot) (d : Dot) (least next : ℕ) → RiseBelow dots least → least ≤ d.item.offset → next ≡ d.item.offset + 1 → RiseBelow (dots ++ d ∷ []) next
rise_push dots d least next r from_on n = record {
  rising = pairs_push Rise dots d r.rising (λ x c. let b = r.below x c in omega (arith, b, from_on));
  below = λ x c. at x (Contains-push_cases dots d x c);
}
  where
    at : (x : Dot) → Contains dots x ⊎ (d ≡ x) → x.item.offset < next
    at x (inl c) = let b = r.below x c in omega (arith, b, from_on, n)
    at x (inr same) = let o = ap (λ (y : Dot). y.item.offset) same in omega (arith, o, n)

-- the next of a list
pub rise_at : (dots : List Dot) (i : ℕ) (d : Dot) (least next : ℕ) → RiseBelow (take i dots) least → i < length dots → least ≤ (get_or dots i d).item.offset → next ≡ (get_or dots i d).item.offset + 1 → RiseBelow (take (i + 1) dots) next
rise_at dots i d least next r lt from_on n = subst (λ (l : List Dot). RiseBelow l next) (sym (take_more dots i d lt)) (rise_push (take i dots) (get_or dots i d) least next r from_on n)

-- of one offset there is one at most
one_at : (dots : List Dot) (x y : Dot) → AreRising dots → Contains dots x → Contains dots y → x.item.offset ≡ y.item.offset → x ≡ y
one_at [] x y r c d e = absurd (not_in x c)
one_at (z ∷ dots) x y r c d e = at (split z x dots c) (split z y dots d) (one_at dots x y (pairs_tail Rise z dots r))
  where
    at : (z ≡ x) ⊎ Contains dots x → (z ≡ y) ⊎ Contains dots y → (Contains dots x → Contains dots y → x.item.offset ≡ y.item.offset → x ≡ y) → x ≡ y
    at (inl a) (inl b) go = sym a ∙ b
    at (inl a) (inr j) go = let lt = pairs_in Rise z y dots r j in let o = ap (λ (w : Dot). w.item.offset) a in absurd (omega (arith, lt, o, e))
    at (inr i) (inl b) go = let lt = pairs_in Rise z x dots r i in let o = ap (λ (w : Dot). w.item.offset) b in absurd (omega (arith, lt, o, e))
    at (inr i) (inr j) go = go i j e

-- all of them are kept
kept_rising : (dots : List Dot) → AreRising dots → KeepsAll dots dots
kept_rising dots r = kept_all dots dots (record {
  rising = r;
  each = λ d c. c;
  best = λ d c. (d, c, good_refl d.item);
  one = λ k d i c o. ap (λ (x : Dot). x.value) (one_at dots d k r c i (sym o));
})

-- where those in the range rise, merging keeps them
pub keeps_cut : (dots cut : List Dot) (first last : ℕ) → cut ≡ filter (is_within first last) dots → AreRising cut → Keeps dots first last cut
keeps_cut dots cut first last is r =
    keeps_within first last dots cut cut (subst (λ (l : List Dot). AreSorted l cut) is (record { there = λ d c. c; back = λ d c. c; same = λ offset. refl })) (kept_rising cut r)

-- where all rise, it keeps those in the range
pub keeps_rising : (dots : List Dot) (first last : ℕ) → AreRising dots → Keeps dots first last (filter (is_within first last) dots)
keeps_rising dots first last r = keeps_cut dots (filter (is_within first last) dots) first last refl (AllPairs-filter Rise (is_within first last) dots r)

-- The values of dots at an offset, and where they conflict.
use Rattle.std.proofs.Common.{◌≡◌, ◌≢◌, ℕ, Bool, true, false, cond, List, [], ◌∷◌, ◌++◌, refl, sym, ap, subst, ◌∙◌}
use Rattle.std.specs.Prelude.{ℤ, None, Some, option_map, Contains, map, filter, find, not, nat_eq}
use Rattle.std.specs.Ordering.{int_eq}
use Rattle.std.proofs.lemmas.List.Elements.{filter-append}
use Rattle.std.proofs.lemmas.List.{map-append}
use Rattle.std.proofs.lemmas.Bool.Decides.{Decides-int_eq}
use Rattle.list_lemmas.proofs.BoolTests.{nat_eq-same, nat_eq_is}
use Rattle.qual_codec.specs.declared.cells.Dot.{Dot}
use Rattle.qual_codec.specs.Merge.{values_at, first_conflict}
use Rattle.list_lemmas.proofs.ListParts.{in_filter, to_filter}
use Rattle.list_lemmas.proofs.ListMembers.{here, there, not_in, map_in, in_map}

same_int : (a b : ℤ) → a ≡ b → int_eq a b ≡ true
same_int a b e = (Decides-int_eq a b).1 e

other_int : (a b : ℤ) → a ≢ b → int_eq a b ≡ false
other_int a b e = at (int_eq a b) refl
  where
    at : (t : Bool) → int_eq a b ≡ t → t ≡ false
    at true i = absurd (e ((Decides-int_eq a b).0 i))
    at false i = refl

find_none : (a : ℤ) (vs : List ℤ) → ((v : ℤ) → Contains vs v → a ≡ v) → find (λ b. not (int_eq a b)) vs ≡ None
find_none a [] same = refl
find_none a (v ∷ vs) same = ap (λ t. cond (not t) (Some v) (find (λ b. not (int_eq a b)) vs)) (same_int a v (same v (here v vs))) ∙ find_none a vs (λ w c. same w (there v w vs c))

-- values that are one don't conflict
pub no_conflict : (vs : List ℤ) → ((v w : ℤ) → Contains vs v → Contains vs w → v ≡ w) → first_conflict vs ≡ None
no_conflict [] same = refl
no_conflict (a ∷ vs) same = ap (option_map (λ b. (a, b))) (find_none a vs (λ v c. same a v (here a vs) (there a v vs c)))

find_first : (a b : ℤ) (vs us : List ℤ) → ((v : ℤ) → Contains vs v → a ≡ v) → a ≢ b → find (λ c. not (int_eq a c)) (vs ++ b ∷ us) ≡ Some b
find_first a b [] us same differ = ap (λ t. cond (not t) (Some b) (find (λ c. not (int_eq a c)) us)) (other_int a b differ)
find_first a b (v ∷ vs) us same differ = ap (λ t. cond (not t) (Some v) (find (λ c. not (int_eq a c)) (vs ++ b ∷ us))) (same_int a v (same v (here v vs))) ∙ find_first a b vs us (λ w c. same w (there v w vs c)) differ

-- behind values that are one, the first other is the conflict
pub one_conflict : (a b : ℤ) (vs us : List ℤ) → Contains vs a → ((v : ℤ) → Contains vs v → a ≡ v) → a ≢ b → first_conflict (vs ++ b ∷ us) ≡ Some (a, b)
one_conflict a b [] us c same differ = absurd (not_in a c)
one_conflict a b (v ∷ vs) us c same differ =
    subst (λ (x : ℤ). first_conflict ((x ∷ vs) ++ b ∷ us) ≡ Some (a, b)) (same v (here v vs)) (ap (option_map (λ c. (a, c))) (find_first a b vs us (λ w i. same w (there v w vs i)) differ))

-- a value at an offset is a dot's
pub record DotAt (dots : List Dot) (offset : ℕ) (value : ℤ) : Type 0 where
  pub dot : Dot
  pub among : Contains dots dot
  pub offset_is : dot.item.offset ≡ offset
  pub value_is : dot.value ≡ value

pub value_dot : (dots : List Dot) (offset : ℕ) (value : ℤ) → Contains (values_at offset dots) value → DotAt dots offset value
value_dot dots offset value c =
    let w = map_in (λ (d : Dot). d.value) (filter (λ (d : Dot). nat_eq offset d.item.offset) dots) value c in
    let f = in_filter (λ (d : Dot). nat_eq offset d.item.offset) dots w.0 w.1 in
    record { dot = w.0; among = f.0; offset_is = sym (nat_eq_is offset w.0.item.offset f.1); value_is = w.2 }

pub dot_value : (dots : List Dot) (d : Dot) (offset : ℕ) → Contains dots d → d.item.offset ≡ offset → Contains (values_at offset dots) d.value
dot_value dots d offset c is = in_map (λ (d : Dot). d.value) (filter (λ (d : Dot). nat_eq offset d.item.offset) dots) d (to_filter (λ (d : Dot). nat_eq offset d.item.offset) dots d c (nat_eq-same offset d.item.offset (sym is)))

pub values_append : (offset : ℕ) (xs ys : List Dot) → values_at offset (xs ++ ys) ≡ values_at offset xs ++ values_at offset ys
values_append offset xs ys =
    ap (map (λ (d : Dot). d.value)) (filter-append (λ (d : Dot). nat_eq offset d.item.offset) xs ys)
    ∙ map-append (λ (d : Dot). d.value) (filter (λ (d : Dot). nat_eq offset d.item.offset) xs) (filter (λ (d : Dot). nat_eq offset d.item.offset) ys)

-- the value of a dot at its own offset is the first of these
pub values_cons : (d : Dot) (ds : List Dot) → values_at d.item.offset (d ∷ ds) ≡ d.value ∷ values_at d.item.offset ds
values_cons d ds = ap (λ t. map (λ (d : Dot). d.value) (cond t (d ∷ filter (λ (e : Dot). nat_eq d.item.offset e.item.offset) ds) (filter (λ (e : Dot). nat_eq d.item.offset e.item.offset) ds))) (nat_eq-same d.item.offset d.item.offset refl)

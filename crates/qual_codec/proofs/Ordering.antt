-- The order of qualifiers is reflexive, transitive and antisymmetric.
use Rattle.std.proofs.Common.{◌≡◌, ◌⊎◌, inl, inr, ℕ, ◌≤◌, ◌<◌, Bool, true, false, List, [], ◌∷◌, refl, sym, ap, subst, ◌∙◌, arith}
use Rattle.std.specs.Prelude.{Contains}
use Rattle.std.specs.List.{flat_map}
use Rattle.qual_codec.specs.declared.cells.Item.{Item}
use Rattle.qual_codec.specs.Items.{Rises, item_bytes}
use Rattle.qual_codec.specs.Order.{IsAsGood, IsAtMost, IsBelow}
use Rattle.qual_codec.proofs.Bits.{items_once}
use Rattle.list_lemmas.proofs.ListMembers.{here, there, split, not_in, pairs_in, pairs_tail}

-- ---- items

abbrev Low : Item → Item → Type 0
Low i j = i.offset < j.offset

-- items of one offset are one
one_at : (xs : List Item) (a b : Item) → Rises xs → Contains xs a → Contains xs b → a.offset ≡ b.offset → a ≡ b
one_at [] a b r ca cb e = absurd (not_in a ca)
one_at (x ∷ xs) a b r ca cb e = at (split x a xs ca) (split x b xs cb) (λ p q. one_at xs a b (pairs_tail Low x xs r) p q e)
  where
    at : (x ≡ a) ⊎ Contains xs a → (x ≡ b) ⊎ Contains xs b → (Contains xs a → Contains xs b → a ≡ b) → a ≡ b
    at (inl p) (inl q) go = sym p ∙ q
    at (inl p) (inr q) go = let low = pairs_in Low x b xs r q in let same = ap (λ (i : Item). i.offset) p in absurd (omega (arith, low, same, e))
    at (inr p) (inl q) go = let low = pairs_in Low x a xs r p in let same = ap (λ (i : Item). i.offset) q in absurd (omega (arith, low, same, e))
    at (inr p) (inr q) go = go p q

-- rising lists with the same members are one
same_members : (xs ys : List Item) → Rises xs → Rises ys → ((i : Item) → Contains xs i → Contains ys i) → ((i : Item) → Contains ys i → Contains xs i) → xs ≡ ys
same_members [] [] rx ry f g = refl
same_members [] (y ∷ ys) rx ry f g = absurd (not_in y (g y (here y ys)))
same_members (x ∷ xs) [] rx ry f g = absurd (not_in x (f x (here x xs)))
same_members (x ∷ xs) (y ∷ ys) rx ry f g =
    let head = first (split y x ys (f x (here x xs))) (split x y xs (g y (here y ys))) in
    let rest = same_members xs ys (pairs_tail Low x xs rx) (pairs_tail Low y ys ry)
    (λ i c. later y ys i (split y i ys (f i (there x i xs c))) (subst (λ (z : Item). z.offset < i.offset) head (pairs_in Low x i xs rx c)))
    (λ i c. later x xs i (split x i xs (g i (there y i ys c))) (subst (λ (z : Item). z.offset < i.offset) (sym head) (pairs_in Low y i ys ry c))) in
    λ k. head k ∷ rest k
  where
    first : (y ≡ x) ⊎ Contains ys x → (x ≡ y) ⊎ Contains xs y → x ≡ y
    first (inl p) q = sym p
    first (inr p) (inl q) = q
    first (inr p) (inr q) = let a = pairs_in Low y x ys ry p in let b = pairs_in Low x y xs rx q in absurd (omega (arith, a, b))

    later : (z : Item) (zs : List Item) (i : Item) → (z ≡ i) ⊎ Contains zs i → z.offset < i.offset → Contains zs i
    later z zs i (inl p) low = let same = ap (λ (w : Item). w.offset) p in absurd (omega (arith, same, low))
    later z zs i (inr c) low = c

opposite : (b : Bool) → b ≡ true → b ≡ false → ⊥
opposite b t f = let e : true ≡ false = sym t ∙ f in cc

pub good_refl : (i : Item) → IsAsGood i i
good_refl i = record { offset = refl; better = inr (refl, omega arith) }

pub good_trans : (i j k : Item) → IsAsGood i j → IsAsGood j k → IsAsGood i k
good_trans i j k a b = record { offset = a.offset ∙ b.offset; better = at a.better b.better }
  where
    at : ((i.fine ≡ true) × (j.fine ≡ false)) ⊎ ((i.fine ≡ j.fine) × (i.len ≤ j.len)) → ((j.fine ≡ true) × (k.fine ≡ false)) ⊎ ((j.fine ≡ k.fine) × (j.len ≤ k.len))
        → ((i.fine ≡ true) × (k.fine ≡ false)) ⊎ ((i.fine ≡ k.fine) × (i.len ≤ k.len))
    at (inl p) (inl q) = absurd (opposite j.fine q.0 p.1)
    at (inl p) (inr q) = inl (p.0, sym q.0 ∙ p.1)
    at (inr p) (inl q) = inl (p.0 ∙ q.0, q.1)
    at (inr p) (inr q) = let l = p.1 in let m = q.1 in inr (p.0 ∙ q.0, omega (arith, l, m))

good_antisym : (i j : Item) → IsAsGood i j → IsAsGood j i → i ≡ j
good_antisym i j a b = at a.better b.better
  where
    at : ((i.fine ≡ true) × (j.fine ≡ false)) ⊎ ((i.fine ≡ j.fine) × (i.len ≤ j.len)) → ((j.fine ≡ true) × (i.fine ≡ false)) ⊎ ((j.fine ≡ i.fine) × (j.len ≤ i.len)) → i ≡ j
    at (inl p) (inl q) = absurd (opposite j.fine q.0 p.1)
    at (inl p) (inr q) = absurd (opposite i.fine p.0 (sym q.0 ∙ p.1))
    at (inr p) (inl q) = absurd (opposite j.fine q.0 (sym p.0 ∙ q.1))
    at (inr p) (inr q) = let l = p.1 in let m = q.1 in let len : i.len ≡ j.len = omega (arith, l, m) in λ k. record { offset = a.offset k; fine = p.0 k; len = len k }

pub at_most_trans : (q r t : List ℕ) → IsAtMost q r → IsAtMost r t → IsAtMost q t
at_most_trans q r t a b = record { items = a.items; others = b.others; reads = a.reads; others_read = b.others_read; each = each }
  where
    each : (i : Item) → Contains a.items i → (k : Item) × Contains b.others k × IsAsGood i k
    each i c =
        let j = a.each i c in
        let k = b.each j.0 (subst (λ (l : List Item). Contains l j.0) (items_once r a.others b.items a.others_read b.reads) j.1) in
        (k.0, k.1, good_trans i j.0 k.0 j.2 k.2)

-- an item of the lesser stands in the greater, where the greater is at most the lesser
shared : (xs ys : List Item) → Rises xs → ((i : Item) → Contains xs i → (j : Item) × Contains ys j × IsAsGood i j) → ((i : Item) → Contains ys i → (j : Item) × Contains xs j × IsAsGood i j)
    → (i : Item) → Contains xs i → Contains ys i
shared xs ys r f g i c =
    let j = f i c in
    let k = g j.0 j.1 in
    let back = one_at xs k.0 i r k.1 c (sym (j.2.offset ∙ k.2.offset)) in
    let same = good_antisym i j.0 j.2 (subst (λ (z : Item). IsAsGood j.0 z) back k.2) in
    subst (λ (z : Item). Contains ys z) (sym same) j.1

pub at_most_antisym : (q r : List ℕ) → IsAtMost q r → IsAtMost r q → q ≡ r
at_most_antisym q r a b =
    let xs = items_once q b.others a.items b.others_read a.reads in
    let ys = items_once r b.items a.others b.reads a.others_read in
    let back : (i : Item) → Contains a.others i → (j : Item) × Contains a.items j × IsAsGood i j =
    λ i c. let w = b.each i (subst (λ (l : List Item). Contains l i) (sym ys) c) in (w.0, subst (λ (l : List Item). Contains l w.0) xs w.1, w.2) in
    let same = same_members a.items a.others a.reads.rising a.others_read.rising (shared a.items a.others a.reads.rising a.each back) (shared a.others a.items a.others_read.rising back a.each) in
    a.reads.qual_is ∙ ap (flat_map item_bytes) same ∙ sym a.others_read.qual_is

pub below_extends : (p q r s : List ℕ) → IsAtMost p q → IsBelow q r → IsAtMost r s → IsBelow p s
below_extends p q r s a b c =
    record {
      at_most = at_most_trans p q s a (at_most_trans q r s b.at_most c);
      differ = λ e. b.differ (at_most_antisym q r b.at_most (at_most_trans r s q c (subst (λ x. IsAtMost x q) e a)));
    }

-- The order of bytes: prefixes, ranges by a first byte, and the bytes behind a name.
use Rattle.std.proofs.Common.{◌≡◌, ◌⊎◌, inl, inr, ℕ, ◌≤◌, ◌<◌, false, List, [], ◌∷◌, ◌++◌, length, refl, sym, ap, subst, ◌∙◌, arith, Less, Equal, Greater}
use Rattle.std.specs.Prelude.{All, Some, slice_get}
use Rattle.std.specs.declared.cmp.Ordering.{Ordering}
use Rattle.std.specs.Ordering.{nat_cmp, is_lt, ordering_then, ordering_reverse}
use Rattle.std.proofs.lemmas.Cmp.{nat_list_cmp_total, nat_cmp_total, tied_itself, by_ranked, ranked}
use Rattle.std.proofs.lemmas.Map.Lookups.{exact_bytes}
use Rattle.list_lemmas.specs.BytesOrder.{bytes_cmp}
use Rattle.uid_table.specs.Suggest.{HasPrefix, Skips, StartsAt}

-- by the order of two bytes
pub by_order : {G : Type 0} (x y : ℕ) → (nat_cmp x y ≡ Less → x < y → G) → (nat_cmp x y ≡ Equal → x ≡ y → G) → (nat_cmp x y ≡ Greater → y < x → G) → G
by_order x y less same more = by_ranked (x < y) (x ≡ y) (y < x) (nat_cmp x y) (ranked x y (nat_cmp x y) refl) less same more

-- the first bytes decide, or else the rest
pub decides : (x y : ℕ) (a b : List ℕ) (o : Ordering) → nat_cmp x y ≡ o → bytes_cmp (x ∷ a) (y ∷ b) ≡ ordering_then o (bytes_cmp a b)
decides x y a b o e = ap (λ r. ordering_then r (bytes_cmp a b)) e

pub not_both : (o : Ordering) → o ≡ Less → is_lt o ≡ false → ⊥
not_both o e f = cc

pub greater_less : Greater ≡ Less → ⊥
greater_less e = cc

pub not_less : (o : Ordering) → (o ≡ Less → ⊥) → is_lt o ≡ false
not_less Less n = absurd (n refl)
not_less Equal n = refl
not_less Greater n = refl

-- either the first is below the second or it is not
pub less_or_not : (o : Ordering) → (o ≡ Less) ⊎ (is_lt o ≡ false)
less_or_not Less = inl refl
less_or_not Equal = inr refl
less_or_not Greater = inr refl

pub nothing_below : (b : List ℕ) → bytes_cmp b [] ≡ Less → ⊥
nothing_below [] e = cc
nothing_below (x ∷ b) e = cc

-- what has a prefix isn't below it
pub prefix_first : (p rest : List ℕ) → bytes_cmp (p ++ rest) p ≡ Less → ⊥
prefix_first [] rest e = nothing_below rest e
prefix_first (x ∷ p) rest e = prefix_first p rest (sym (decides x x (p ++ rest) p Equal (tied_itself nat_cmp_total x)) ∙ e)

-- what is above bytes that aren't below a prefix and don't have it doesn't have it either
pub past_prefix : (p b rest : List ℕ) → (bytes_cmp b p ≡ Less → ⊥) → (HasPrefix p b → ⊥) → bytes_cmp b (p ++ rest) ≡ Less → ⊥
past_prefix [] b rest on lacks lt = lacks (b, refl)
past_prefix (x ∷ p) [] rest on lacks lt = on refl
past_prefix (x ∷ p) (y ∷ b) rest on lacks lt =
    by_order y x
    (λ o l. on (decides y x b p Less o))
    (λ o s. past_prefix p b rest (λ e. on (decides y x b p Equal o ∙ e)) (λ h. lacks (h.0, (λ i. s i ∷ h.1 i))) (sym (decides y x b (p ++ rest) Equal o) ∙ lt))
    (λ o l. greater_less (sym (decides y x b (p ++ rest) Greater o) ∙ lt))

-- the least bytes above a name
pub behind_is_above : (b : List ℕ) → bytes_cmp b (b ++ 0 ∷ []) ≡ Less
behind_is_above [] = refl
behind_is_above (x ∷ b) = decides x x b (b ++ 0 ∷ []) Equal (tied_itself nat_cmp_total x) ∙ behind_is_above b

pub up_to_behind : (n b : List ℕ) → bytes_cmp n (b ++ 0 ∷ []) ≡ Less → (bytes_cmp n b ≡ Less) ⊎ (n ≡ b)
up_to_behind [] [] e = inr refl
up_to_behind (x ∷ n) [] e =
    by_order x 0
    (λ o l. absurd (omega (arith, l)))
    (λ o s. absurd (nothing_below n (sym (decides x 0 n [] Equal o) ∙ e)))
    (λ o l. absurd (greater_less (sym (decides x 0 n [] Greater o) ∙ e)))
up_to_behind [] (y ∷ b) e = inl refl
up_to_behind (x ∷ n) (y ∷ b) e =
    by_order x y
    (λ o l. inl (decides x y n b Less o))
    (λ o s. elim (up_to_behind n b (sym (decides x y n (b ++ 0 ∷ []) Equal o) ∙ e)) [
      | inl lt ↦ inl (decides x y n b Equal o ∙ lt)
      | inr is ↦ inr (λ i. s i ∷ is i)
    ])
    (λ o l. absurd (greater_less (sym (decides x y n (b ++ 0 ∷ []) Greater o) ∙ e)))

pub below_trans : (a b c : List ℕ) → bytes_cmp a b ≡ Less → bytes_cmp b c ≡ Less → bytes_cmp a c ≡ Less
below_trans = nat_list_cmp_total.trans

-- what isn't below a bound isn't so behind it
pub behind_above : (b p : List ℕ) → is_lt (bytes_cmp b p) ≡ false → is_lt (bytes_cmp (b ++ 0 ∷ []) p) ≡ false
behind_above b p e = not_less _ (λ lt. not_both _ (below_trans b (b ++ 0 ∷ []) p (behind_is_above b) lt) e)

pub three : {G : Type 0} (o : Ordering) → (o ≡ Less → G) → (o ≡ Equal → G) → (o ≡ Greater → G) → G
three Less l e g = l refl
three Equal l e g = e refl
three Greater l e g = g refl

-- what isn't below bytes is above all that is below them
pub at_least : (a b c : List ℕ) → is_lt (bytes_cmp a b) ≡ false → bytes_cmp a c ≡ Less → bytes_cmp b c ≡ Less
at_least a b c on lt =
    three (bytes_cmp a b)
    (λ l. absurd (not_both _ l on))
    (λ e. subst (λ x. bytes_cmp x c ≡ Less) (exact_bytes a b e) lt)
    (λ g. below_trans b a c (nat_list_cmp_total.antisymm b a ∙ ap ordering_reverse g) lt)

-- and so the other way round
pub not_below : (a b c : List ℕ) → is_lt (bytes_cmp a b) ≡ false → is_lt (bytes_cmp b c) ≡ false → is_lt (bytes_cmp a c) ≡ false
not_below a b c ab bc = not_less _ (λ lt. not_both _ (at_least a b c ab lt) bc)

-- bytes below those that begin with a byte
pub first_below : (x high : ℕ) (b : List ℕ) → bytes_cmp (x ∷ b) (high ∷ []) ≡ Less → x < high
first_below x high b e =
    by_order x high (λ o l. l) (λ o s. absurd (nothing_below b (sym (decides x high b [] Equal o) ∙ e))) (λ o l. absurd (greater_less (sym (decides x high b [] Greater o) ∙ e)))

pub below_first : (x high : ℕ) (b : List ℕ) → x < high → bytes_cmp (x ∷ b) (high ∷ []) ≡ Less
below_first x high b lt = by_order x high (λ o l. decides x high b [] Less o) (λ o s. absurd (omega (arith, lt, s))) (λ o l. absurd (omega (arith, lt, l)))

-- what begins with a byte that isn't below another isn't below it
pub first_above : (x low : ℕ) (b : List ℕ) → low ≤ x → is_lt (bytes_cmp (x ∷ b) (low ∷ [])) ≡ false
first_above x low b le = not_less _ (λ e. let lt = first_below x low b e in omega (arith, le, lt))

pub high_above : (high x : ℕ) (b : List ℕ) → x < high → is_lt (bytes_cmp (high ∷ []) (x ∷ b)) ≡ false
high_above high x b lt = by_order high x (λ o l. absurd (omega (arith, lt, l))) (λ o s. absurd (omega (arith, lt, s))) (λ o l. ap is_lt (decides high x [] b Greater o))

-- behind a name before a byte the range goes on
pub behind_in : (b : List ℕ) (high : ℕ) → 0 < high → bytes_cmp b (high ∷ []) ≡ Less → is_lt (bytes_cmp (high ∷ []) (b ++ 0 ∷ [])) ≡ false
behind_in [] high some e = high_above high 0 [] some
behind_in (x ∷ b) high some e = high_above high x (b ++ 0 ∷ []) (first_below x high b e)

-- no name that begins with a byte outside of a range is in it
pub outside : (x low high : ℕ) (p : List ℕ) → (x < low) ⊎ (high ≤ x) → Skips (x ∷ p) low (high ∷ [])
outside x low high p out name is pre lt = subst (λ n. bytes_cmp n (low ∷ []) ≡ Less) (sym pre.1) (at out)
  where
    under : x < high
    under = first_below x high (p ++ pre.0) (subst (λ n. bytes_cmp n (high ∷ []) ≡ Less) pre.1 lt)

    at : (x < low) ⊎ (high ≤ x) → bytes_cmp (x ∷ (p ++ pre.0)) (low ∷ []) ≡ Less
    at (inl l) = below_first x low (p ++ pre.0) l
    at (inr h) = absurd (let u = under in omega (arith, h, u))

-- the names with a prefix in a range are from the prefix on
pub starts : (x low high : ℕ) (p : List ℕ) → low ≤ x → x < high → length (x ∷ p) ≤ 255 → All (λ b. b < 256) (x ∷ p) → StartsAt (x ∷ p) low high (Some (x ∷ p))
starts x low high p on below short bytes = (
  record {
    on = first_above x low p on;
    at = high_above high x p below;
    above = ap is_lt (tied_itself nat_list_cmp_total (x ∷ p));
    short = omega (arith, short);
    bytes = bytes;
  },
  λ name is pre lt. absurd (prefix_first (x ∷ p) pre.0 (subst (λ n. bytes_cmp n (x ∷ p) ≡ Less) pre.1 lt)),
)

pub tied : (b : List ℕ) → bytes_cmp b b ≡ Equal
tied b = tied_itself nat_list_cmp_total b

same_byte : (x y : ℕ) → Some x ≡ Some y → x ≡ y
same_byte x y e = cc

-- the same, where the first byte was read
pub outside_of : (prefix : List ℕ) (x low high : ℕ) → Some x ≡ slice_get prefix 0 → (x < low) ⊎ ((low ≤ x) × (high ≤ x)) → Skips prefix low (high ∷ [])
outside_of [] x low high e out = absurd cc
outside_of (y ∷ p) x low high e out = outside y low high p (at out)
  where
    at : (x < low) ⊎ ((low ≤ x) × (high ≤ x)) → (y < low) ⊎ (high ≤ y)
    at (inl l) = inl (let s = same_byte x y e in omega (arith, l, s))
    at (inr h) = inr (let s = same_byte x y e in let b = h.1 in omega (arith, b, s))

pub starts_of : (prefix start : List ℕ) (x low high : ℕ) → Some x ≡ slice_get prefix 0 → low ≤ x → x < high → length prefix ≤ 255 → All (λ b. b < 256) prefix → start ≡ prefix → StartsAt prefix low high (Some start)
starts_of [] start x low high e on below short bytes is = absurd cc
starts_of (y ∷ p) start x low high e on below short bytes is =
    let s = same_byte x y e in
    subst (λ (f : List ℕ). StartsAt (y ∷ p) low high (Some f)) (sym is) (starts y low high p (omega (arith, on, s)) (omega (arith, below, s)) short bytes)

-- What a series has at a time, seen from where a cursor stands.
use Rattle.std.proofs.Common.{◌≡◌, ◌≢◌, ℕ, zero, suc, ◌+◌, ◌-◌, ◌<◌, ◌≤◌, ℤ, Bool, true, false, ◌&&◌, ltb, eqb, List, [], ◌∷◌, length, drop, get_or, Option, None, Some, is_some, refl, sym, ap, subst, ◌∙◌, ⊎_elim, drop-cons, arith}
use Rattle.std.specs.List.{AllWithin}
use Rattle.std.proofs.lemmas.Bool.{ne_eqb, ltb-true, ltb-false, lt-ltb, cond-false, cases_lt, cases_order}
use Rattle.std.proofs.lemmas.List.{drop_all, get_or_default}
use Rattle.std.proofs.lemmas.List.Elements.{recursion_from_All}
use Rattle.std.proofs.lemmas.Map.{lookup-none}
use Rattle.std.proofs.lemmas.Option.{none-some, same_Some}
use Rattle.tsd_base.specs.Dots.{IsRising}
use Rattle.lerp_aggregate.specs.Aggregation.{value_at, value_or_between, given_at}
use Rattle.lerp_aggregate.specs.Interpolation.{between, nearest_before, nearest_after}
use Rattle.lerp_aggregate.specs.Walks.{first_time}
use Rattle.lerp_aggregate.proofs.Nearest.{before_is, after_is}
use Rattle.lerp_aggregate.proofs.Rising.{first_at}

-- a time that no point has
pub absent : (series : List (ℕ × ℤ)) (u : ℕ) → ((k : ℕ) (d : ℕ × ℤ) → k < length series → (get_or series k d).0 ≢ u) → value_at series u ≡ None
absent series u apart = lookup-none _ _ (recursion_from_All (λ (p : ℕ × ℤ). eqb u p.0 ≡ false) series (λ k d inside. ne_eqb u _ (λ e. apart k d inside (sym e))))

-- a time that a point of a series in order has
pub present : (series : List (ℕ × ℤ)) (k : ℕ) (d : ℕ × ℤ) → IsRising series → k < length series → value_at series (get_or series k d).0 ≡ Some (get_or series k d).1
present [] k d rising inside = absurd (omega arith)
present (p ∷ series) zero d rising inside = first_at p series p.0 refl
present (p ∷ series) (suc k) d rising inside =
    let above : p.0 < (get_or series k d).0 = rising 0 (suc k) d (omega arith) inside in
    cond-false _ _ _ (ne_eqb _ p.0 (λ e. omega arith)) ∙ present series k d (λ i j e before within. rising (suc i) (suc j) e (omega arith) (omega arith)) (omega arith)

-- a time before the next one
abbrev pub Precedes : ℕ → Option ℕ → Type 0
Precedes u None = Unit {0}
Precedes u (Some next) = u < next

-- the next one is not before a time
abbrev pub Late : ℕ → Option ℕ → Type 0
Late u None = Unit {0}
Late u (Some next) = u ≤ next

-- a time at which nothing is given: no points are left, or only later ones, and nothing is taken between points
abbrev pub Skips : Bool → ℕ → Option ℕ → Type 0
Skips b u None = Unit {0}
Skips b u (Some next) = (b ≡ false) × (u < next)

-- a cursor that isn't between two points, though one is left, has passed none
not_begun : (b : Bool) → (b && true) ≡ false → b ≡ false
not_begun true e = e
not_begun false e = refl

between_none : (o : Option (ℕ × ℤ)) (u : ℕ) → between o None u ≡ None
between_none None u = refl
between_none (Some p) u = refl

-- points from a place on are not before the one there
up_to : (s : List (ℕ × ℤ)) (n k : ℕ) (d : ℕ × ℤ) → IsRising s → n ≤ k → k < length s → (get_or s n d).0 ≤ (get_or s k d).0
up_to s n k d rising low high =
    ⊎_elim (λ (e : n ≡ k). let same = ap (λ j. (get_or s j d).0) e in omega (arith, same)) (λ apart. ⊎_elim
    (λ (less : n < k). let above : (get_or s n d).0 < (get_or s k d).0 = rising n k d less high in omega (arith, above))
    (λ (more : k < n). omega arith)
    apart) (cases_order n k)

pub head_is : (s : List (ℕ × ℤ)) (n : ℕ) (d : ℕ × ℤ) → n < length s → first_time (drop n s) ≡ Some (get_or s n d).0
head_is s n d inside = ap first_time (drop-cons s n d inside)

pub none_is : (s : List (ℕ × ℤ)) (n : ℕ) → length s ≤ n → first_time (drop n s) ≡ None
none_is s n end = ap first_time (drop_all n s end)

-- where there is a next time, there is a point that has it
pub at_next : (s : List (ℕ × ℤ)) (n time : ℕ) → first_time (drop n s) ≡ Some time → (n < length s) × ((d : ℕ × ℤ) → (get_or s n d).0 ≡ time)
at_next s n time is =
    ⊎_elim
    (λ (inside : n < length s). (inside, λ (d : ℕ × ℤ). same_Some _ _ (sym (head_is s n d inside) ∙ is)))
    (λ (end : length s ≤ n). absurd (none-some time (sym (none_is s n end) ∙ is)))
    (cases_lt n (length s))

-- a series in order with n points behind a cursor
module _ (s : List (ℕ × ℤ)) (n : ℕ) (rising : IsRising s) where
  -- each point that is left is after a time before the next
  later_than : (u : ℕ) → Precedes u (first_time (drop n s)) → (k : ℕ) (d : ℕ × ℤ) → n ≤ k → k < length s → u < (get_or s k d).0
  later_than u h k d low high =
      let first : u < (get_or s n d).0 = subst (Precedes u) (head_is s n d (omega arith)) h in
      let rest = up_to s n k d rising low high in
      omega (arith, first, rest)

  pub late_than : (u : ℕ) → Late u (first_time (drop n s)) → AllWithin (λ p. u ≤ p.0) s n (length s)
  late_than u h k d low high =
      let first : u ≤ (get_or s n d).0 = subst (Late u) (head_is s n d (omega arith)) h in
      let rest = up_to s n k d rising low high in
      omega (arith, first, rest)

  pub after_stays : (u : ℕ) → Precedes u (first_time (drop n s)) → AllWithin (λ p. u + 1 ≤ p.0) s n (length s)
  after_stays u h k d low high = let later = later_than u h k d low high in omega (arith, later)

  -- where the points behind it are before time T, and u is not
  module _ (T u : ℕ) (before : AllWithin (λ p. p.0 < T) s 0 n) (on_or_after : T ≤ u) where
    pub before_stays : AllWithin (λ p. p.0 < u + 1) s 0 n
    before_stays k d low high = let b : (get_or s k d).0 < T = before k d low high in omega (arith, b, on_or_after)

    pub not_here : Precedes u (first_time (drop n s)) → value_at s u ≡ None
    not_here h = absent s u (λ k d inside e. ⊎_elim
        (λ (less : k < n). let b : (get_or s k d).0 < T = before k d (omega arith) less in omega (arith, b, e, on_or_after))
        (λ (more : n ≤ k). let l = later_than u h k d more inside in omega (arith, l, e))
        (cases_lt k n))

  module _ (T u : ℕ) (before : AllWithin (λ p. p.0 < T) s 0 n) (on_or_after : T ≤ u) where
    none_after : first_time (drop n s) ≡ None → nearest_after s u ≡ None
    none_after none = after_is s u None (λ v pass. let later = ltb-true _ _ pass in not_here T v before (omega (arith, later, on_or_after)) (subst (Precedes v) (sym none) tt))

  -- the point at the place
  pub gives_here : (b : Bool) (u : ℕ) (d : ℕ × ℤ) → n < length s → (get_or s n d).0 ≡ u → given_at b s u ≡ Some (get_or s n d).1
  gives_here true u d inside e = ap (λ o. value_or_between o s u) (sym (ap (value_at s) e) ∙ present s n d rising inside)
  gives_here false u d inside e = sym (ap (value_at s) e) ∙ present s n d rising inside

  pub before_moves : (T u : ℕ) (d : ℕ × ℤ) → AllWithin (λ p. p.0 < T) s 0 n → T ≤ u → (get_or s n d).0 ≡ u → n < length s → AllWithin (λ p. p.0 < u + 1) s 0 (n + 1)
  before_moves T u d before on_or_after e inside k d2 low high =
      ⊎_elim (λ (less : k < n). before_stays T u before on_or_after k d2 low less)
      (λ (more : n ≤ k).
      let same : k ≡ n = omega (arith, more, high) in
      let at : (get_or s k d2).0 ≡ u = ap (λ j. (get_or s j d2).0) same ∙ ap (λ p. p.0) (get_or_default s n d2 d inside) ∙ e in
      omega (arith, at))
      (cases_lt k n)

  pub after_moves : (u : ℕ) (d : ℕ × ℤ) → (get_or s n d).0 ≡ u → n < length s → AllWithin (λ p. u + 1 ≤ p.0) s (n + 1) (length s)
  after_moves u d e inside k d2 low high = let above : (get_or s n d2).0 < (get_or s k d2).0 = rising n k d2 (omega arith) high in
      let at : (get_or s n d2).0 ≡ u = ap (λ p. p.0) (get_or_default s n d2 d inside) ∙ e in
      omega (arith, above, at)

  -- between the points behind it, before u, and those that are left, after u
  module _ (u : ℕ) (before : AllWithin (λ p. p.0 < u) s 0 n) (after : AllWithin (λ p. u + 1 ≤ p.0) s n (length s)) where
    pub none_before : n ≡ 0 → nearest_before s u ≡ None
    none_before none = before_is s u None (λ v pass. let less = ltb-true _ _ pass in absent s v (λ k d inside e. let l : u + 1 ≤ (get_or s k d).0 = after k d (omega arith) inside in omega (arith, l, e, less)))

    pub last_before : (d : ℕ × ℤ) → 0 < n → n ≤ length s → nearest_before s u ≡ Some (get_or s (n - 1) d)
    last_before d some inside =
        let here : (get_or s (n - 1) d).0 < u = before (n - 1) d (omega arith) (omega arith) in
        before_is s u (Some (get_or s (n - 1) d)) (
          lt-ltb _ _ here,
          present s (n - 1) d rising (omega arith),
          λ v pass less. absent s v (λ k e within is. between_them v k e within (ltb-true _ _ pass) less is),
        ) where
          between_them : (v k : ℕ) (e : ℕ × ℤ) → k < length s → v < u → u - v < u - (get_or s (n - 1) d).0 → (get_or s k e).0 ≡ v → ⊥
          between_them v k e within earlier less is =
              let last : (get_or s (n - 1) d).0 ≡ (get_or s (n - 1) e).0 = ap (λ p. p.0) (get_or_default s (n - 1) d e (omega (arith, some, inside))) in
              ⊎_elim
              (λ (low : k < n).
              let rise : (get_or s k e).0 ≤ (get_or s (n - 1) e).0 = up_to s k (n - 1) e rising (omega (arith, low)) (omega (arith, some, inside)) in
              omega (arith, last, rise, less, is, earlier))
              (λ (high : n ≤ k). let later : u + 1 ≤ (get_or s k e).0 = after k e high within in omega (arith, later, is, earlier))
              (cases_lt k n)

    pub first_after : (d : ℕ × ℤ) → n < length s → nearest_after s u ≡ Some (get_or s n d)
    first_after d inside =
        let here : u + 1 ≤ (get_or s n d).0 = after n d (omega arith) inside in
        after_is s u (Some (get_or s n d)) (
          lt-ltb _ _ (omega (arith, here)),
          present s n d rising inside,
          λ v pass less. absent s v (λ k e within is. between_them v k e within (ltb-true _ _ pass) less is),
        ) where
          between_them : (v k : ℕ) (e : ℕ × ℤ) → k < length s → u < v → v - u < (get_or s n d).0 - u → (get_or s k e).0 ≡ v → ⊥
          between_them v k e within later less is =
              let first : (get_or s n d).0 ≡ (get_or s n e).0 = ap (λ p. p.0) (get_or_default s n d e inside) in
              ⊎_elim
              (λ (low : k < n). let b : (get_or s k e).0 < u = before k e (omega arith) low in omega (arith, b, is, later))
              (λ (high : n ≤ k). let rise : (get_or s n e).0 ≤ (get_or s k e).0 = up_to s n k e rising high within in omega (arith, first, rise, less, is, later))
              (cases_lt k n)

  -- a series whose cursor isn't between two points, or of which nothing is taken between them, gives nothing before the next one
  module _ (T u : ℕ) (before : AllWithin (λ p. p.0 < T) s 0 n) (on_or_after : T ≤ u) where
    gives_none_at : (b : Bool) (o : Option ℕ) → first_time (drop n s) ≡ o → Skips (b && (ltb 0 n && is_some o)) u o → given_at b s u ≡ None
    gives_none_at true None none h =
        ap (λ o. value_or_between o s u) (not_here T u before on_or_after (subst (Precedes u) (sym none) tt)) ∙ ap (λ o. between (nearest_before s u) o u) (none_after T u before on_or_after none) ∙ between_none (nearest_before s u) u
    gives_none_at true (Some next) is h =
        let ahead = subst (Precedes u) (sym is) h.1 in
        let begun = not_begun (ltb 0 n) h.0 in
        let first : n ≡ 0 = (let least = ltb-false 0 n begun in omega (arith, least)) in
        ap (λ o. value_or_between o s u) (not_here T u before on_or_after ahead) ∙ ap (λ o. between o (nearest_after s u) u) (none_before u (λ k d low high. let b : (get_or s k d).0 < T = before k d low high in omega (arith, b, on_or_after)) (after_stays u ahead) first)
    gives_none_at false None none h = not_here T u before on_or_after (subst (Precedes u) (sym none) tt)
    gives_none_at false (Some next) is h = not_here T u before on_or_after (subst (Precedes u) (sym is) h.1)

    pub gives_none : (b : Bool) → Skips (b && (ltb 0 n && is_some (first_time (drop n s)))) u (first_time (drop n s)) → given_at b s u ≡ None
    gives_none b h = gives_none_at b (first_time (drop n s)) refl h

-- Keys in order, by their pairs.
use Rattle.std.proofs.Common.{◌≡◌, ◌⊎◌, inl, inr, ℕ, ◌<◌, ◌≤◌, false, List, [], ◌∷◌, ◌++◌, refl, sym, ap, ◌∙◌, arith}
use Rattle.std.specs.Prelude.{AllPairs}
use Rattle.std.specs.declared.cmp.Ordering.{Ordering}
use Rattle.std.specs.declared.cmp.Ordering.TheVariants.{Less, Equal, Greater}
use Rattle.std.specs.Ordering.{is_lt, nat_cmp, ordering_then}
use Rattle.std.specs.Cmp.{tied_itself, nat_cmp_total, ranked}
use Rattle.std.specs.Cmp.Lexicographic.{slice_cmp}
use Rattle.row_key.specs.declared.keys.RowKey.{RowKey}
use Rattle.row_key.specs.KeyOrder.{key_cmp, pair_cmp}
use Rattle.std.proofs.lemmas.List.Elements.{Contains-append_left}
use Rattle.metric_scan.proofs.Lower as lower

abbrev Pairs : Type 0
Pairs = List (ℕ × ℕ)

pub then_assoc : (a b c : Ordering) → ordering_then (ordering_then a b) c ≡ ordering_then a (ordering_then b c)
then_assoc Less b c = refl
then_assoc Equal b c = refl
then_assoc Greater b c = refl

-- numbers that come first are one, where what follows decides that nothing is below, but below something
pub record Tied (a b : ℕ) (o u : Ordering) : Type 0 where
  pub same : a ≡ b
  pub on : is_lt o ≡ false
  pub below : u ≡ Less

pub tied : (a b : ℕ) (o u : Ordering) → is_lt (ordering_then (nat_cmp a b) o) ≡ false → ordering_then (nat_cmp a b) u ≡ Less → Tied a b o u
tied a b o u on below = at (nat_cmp a b) refl on below
  where
    at : (r : Ordering) → r ≡ nat_cmp a b → is_lt (ordering_then r o) ≡ false → ordering_then r u ≡ Less → Tied a b o u
    at Less e on below = absurd cc
    at Equal e on below = record { same = ranked a b Equal e; on = on; below = below }
    at Greater e on below = absurd cc

pub not_under : (a b : ℕ) (o : Ordering) → is_lt (ordering_then (nat_cmp a b) o) ≡ false → (b < a) ⊎ ((a ≡ b) × (is_lt o ≡ false))
not_under a b o on = at (nat_cmp a b) refl on
  where
    at : (r : Ordering) → r ≡ nat_cmp a b → is_lt (ordering_then r o) ≡ false → (b < a) ⊎ ((a ≡ b) × (is_lt o ≡ false))
    at Less e on = absurd cc
    at Equal e on = inr (ranked a b Equal e, on)
    at Greater e on = inl (ranked a b Greater e)

pub under : (a b : ℕ) (u : Ordering) → ordering_then (nat_cmp a b) u ≡ Less → (a < b) ⊎ ((a ≡ b) × (u ≡ Less))
under a b u below = at (nat_cmp a b) refl below
  where
    at : (r : Ordering) → r ≡ nat_cmp a b → ordering_then r u ≡ Less → (a < b) ⊎ ((a ≡ b) × (u ≡ Less))
    at Less e below = inl (ranked a b Less e)
    at Equal e below = inr (ranked a b Equal e, below)
    at Greater e below = absurd cc

pub less_is : (a b : ℕ) (u : Ordering) → a < b → ordering_then (nat_cmp a b) u ≡ Less
less_is a b u lt = at (nat_cmp a b) refl
  where
    at : (r : Ordering) → r ≡ nat_cmp a b → ordering_then r u ≡ Less
    at Less e = refl
    at Equal e = let same = ranked a b Equal e in absurd (omega (arith, same, lt))
    at Greater e = let up = ranked a b Greater e in absurd (omega (arith, up, lt))

pub same_then : (a b : ℕ) (u : Ordering) → a ≡ b → ordering_then (nat_cmp a b) u ≡ u
same_then a b u e = ap (λ n. ordering_then (nat_cmp a n) u) (sym e) ∙ ap (λ r. ordering_then r u) (tied_itself nat_cmp_total a)

-- ---- lists of pairs

pub never_below_none : (qs : Pairs) → slice_cmp pair_cmp qs [] ≡ Less → ⊥
never_below_none [] e = cc
never_below_none (q ∷ qs) e = cc

same_front : (front more rest : Pairs) → slice_cmp pair_cmp (front ++ more) (front ++ rest) ≡ slice_cmp pair_cmp more rest
same_front [] more rest = refl
same_front (p ∷ front) more rest =
    then_assoc (nat_cmp p.0 p.0) (nat_cmp p.1 p.1) (slice_cmp pair_cmp (front ++ more) (front ++ rest)) ∙ same_then p.0 p.0 (ordering_then (nat_cmp p.1 p.1) (slice_cmp pair_cmp (front ++ more) (front ++ rest))) refl
    ∙ same_then p.1 p.1 (slice_cmp pair_cmp (front ++ more) (front ++ rest)) refl ∙ same_front front more rest

-- behind the same front
pub behind_front : (front more rest : Pairs) → is_lt (slice_cmp pair_cmp (front ++ more) (front ++ rest)) ≡ false → is_lt (slice_cmp pair_cmp more rest) ≡ false
behind_front front more rest on = ap is_lt (sym (same_front front more rest)) ∙ on

-- with a greater value in its place, and nothing behind it, the list is above
pub value_above : (front rest : Pairs) (id value next : ℕ) → value < next → slice_cmp pair_cmp (front ++ (id, value) ∷ rest) (front ++ (id, next) ∷ []) ≡ Less
value_above front rest id value next lt =
    same_front front ((id, value) ∷ rest) ((id, next) ∷ []) ∙ then_assoc (nat_cmp id id) (nat_cmp value next) (slice_cmp pair_cmp rest []) ∙ same_then id id (ordering_then (nat_cmp value next) (slice_cmp pair_cmp rest [])) refl
    ∙ less_is value next (slice_cmp pair_cmp rest []) lt

-- it begins with the front, and has at this id a value from the one on and below the other
pub record ValueBetween (front : Pairs) (id value next : ℕ) (qs : Pairs) : Type 0 where
  pub at : ℕ
  pub rest : Pairs
  pub are : qs ≡ front ++ (id, at) ∷ rest
  pub from_on : value ≤ at
  pub below : at < next

pub value_between : (front : Pairs) (id value next : ℕ) (rest qs : Pairs) → is_lt (slice_cmp pair_cmp qs (front ++ (id, value) ∷ rest)) ≡ false → slice_cmp pair_cmp qs (front ++ (id, next) ∷ []) ≡ Less → ValueBetween front id value next qs
value_between [] id value next rest [] on below = absurd cc
value_between [] id value next rest (q ∷ qs) on below =
    let a = tied q.0 id (ordering_then (nat_cmp q.1 value) (slice_cmp pair_cmp qs rest)) (ordering_then (nat_cmp q.1 next) (slice_cmp pair_cmp qs []))
    (ap is_lt (sym (then_assoc (nat_cmp q.0 id) (nat_cmp q.1 value) (slice_cmp pair_cmp qs rest))) ∙ on) (sym (then_assoc (nat_cmp q.0 id) (nat_cmp q.1 next) (slice_cmp pair_cmp qs [])) ∙ below) in
    record {
      at = q.1;
      rest = qs;
      are = λ i. (a.same i, q.1) ∷ qs;
      from_on = elim (not_under q.1 value (slice_cmp pair_cmp qs rest) a.on) [ inl lt ↦ omega (arith, lt) | inr tie ↦ (let same = tie.0 in omega (arith, same)) ];
      below = elim (under q.1 next (slice_cmp pair_cmp qs []) a.below) [ inl lt ↦ lt | inr tie ↦ absurd (never_below_none qs tie.1) ];
    }
value_between (p ∷ front) id value next rest [] on below = absurd cc
value_between (p ∷ front) id value next rest (q ∷ qs) on below =
    let o = slice_cmp pair_cmp qs (front ++ (id, value) ∷ rest) in
    let u = slice_cmp pair_cmp qs (front ++ (id, next) ∷ []) in
    let a = tied q.0 p.0 (ordering_then (nat_cmp q.1 p.1) o) (ordering_then (nat_cmp q.1 p.1) u) (ap is_lt (sym (then_assoc (nat_cmp q.0 p.0) (nat_cmp q.1 p.1) o)) ∙ on) (sym (then_assoc (nat_cmp q.0 p.0) (nat_cmp q.1 p.1) u) ∙ below) in
    let b = tied q.1 p.1 o u a.on a.below in
    let c = value_between front id value next rest qs b.on b.below in
    record { at = c.at; rest = c.rest; are = λ i. (a.same i, b.same i) ∷ c.are i; from_on = c.from_on; below = c.below }

-- it has a first pair, which is not below this one
pub record FirstFrom (id value : ℕ) (more : Pairs) : Type 0 where
  pub pair : ℕ × ℕ
  pub tail : Pairs
  pub are : more ≡ pair ∷ tail
  pub from_on : (id < pair.0) ⊎ ((pair.0 ≡ id) × (value ≤ pair.1))

pub first_from : (id value : ℕ) (rest more : Pairs) → is_lt (slice_cmp pair_cmp more ((id, value) ∷ rest)) ≡ false → FirstFrom id value more
first_from id value rest [] on = absurd cc
first_from id value rest (q ∷ qs) on = record {
  pair = q;
  tail = qs;
  are = refl;
  from_on = elim (not_under q.0 id (ordering_then (nat_cmp q.1 value) (slice_cmp pair_cmp qs rest)) (ap is_lt (sym (then_assoc (nat_cmp q.0 id) (nat_cmp q.1 value) (slice_cmp pair_cmp qs rest))) ∙ on)) [
    | inl lt ↦ inl lt
    | inr tie ↦ inr (tie.0, elim (not_under q.1 value (slice_cmp pair_cmp qs rest) tie.1) [ inl lt ↦ omega (arith, lt) | inr same ↦ (let e = same.0 in omega (arith, e)) ])
  ];
}

-- ---- lists that rise by the ids of their keys

abbrev pub Lesser : ℕ × ℕ → ℕ × ℕ → Type 0
Lesser p q = p.0 < q.0

pub rising_front : (front rest : Pairs) → AllPairs Lesser (front ++ rest) → AllPairs Lesser front
rising_front [] rest up = λ i j d lt within. absurd (omega (arith, within))
rising_front (p ∷ front) rest up =
    lower.pairs_cons Lesser p front (λ q c. lower.pairs_in Lesser p q (front ++ rest) up (Contains-append_left front rest q c)) (rising_front front rest (lower.pairs_tail Lesser p (front ++ rest) up))

pub rising_rest : (front rest : Pairs) → AllPairs Lesser (front ++ rest) → AllPairs Lesser rest
rising_rest [] rest up = up
rising_rest (p ∷ front) rest up = rising_rest front rest (lower.pairs_tail Lesser p (front ++ rest) up)

-- ---- keys of one metric

-- it has this hour, and its pairs are from these on and below those
pub record HourTied (key target k : RowKey) : Type 0 where
  pub on : is_lt (slice_cmp pair_cmp k.pairs.items key.pairs.items) ≡ false
  pub below : slice_cmp pair_cmp k.pairs.items target.pairs.items ≡ Less

pub hour_tied : (key target k : RowKey) → target.metric ≡ key.metric → target.base ≡ key.base → is_lt (key_cmp k key) ≡ false → key_cmp k target ≡ Less → HourTied key target k
hour_tied key target k metric base on below =
    let o = slice_cmp pair_cmp k.pairs.items key.pairs.items in
    let u = slice_cmp pair_cmp k.pairs.items target.pairs.items in
    let a = tied k.metric key.metric (ordering_then (nat_cmp k.base key.base) o) (ordering_then (nat_cmp k.base key.base) u) on
    (ap (λ m. ordering_then (nat_cmp k.metric m) (ordering_then (nat_cmp k.base key.base) u)) (sym metric) ∙ ap (λ b. ordering_then (nat_cmp k.metric target.metric) (ordering_then (nat_cmp k.base b) u)) (sym base) ∙ below) in
    let b = tied k.base key.base o u a.on a.below in
    record { on = b.on; below = b.below }

-- Going on behind a key that fails a filter.
use Rattle.std.proofs.Common.{◌≡◌, ◌⊎◌, inl, inr, ℕ, ◌+◌, ◌-◌, ◌%◌, ◌^◌, ◌<◌, ◌≤◌, Bool, true, false, List, [], ◌∷◌, ◌++◌, length, take, drop, get_or, refl, sym, ap, subst, ◌∙◌, arith, append_assoc, length-append}
use Rattle.std.specs.Prelude.{All, AllPairs, Contains, Option, None, Some, IfSome, nat_eq, ◌&&◌}
use Rattle.std.specs.List.{list_any}
use Rattle.std.specs.declared.cmp.Ordering.TheVariants.{Less}
use Rattle.std.specs.Ordering.{is_lt, nat_cmp, ordering_then}
use Rattle.std.specs.Cmp.Lexicographic.{slice_cmp}
use Rattle.std.proofs.lemmas.Bool.{false≢true}
use Rattle.std.proofs.lemmas.Bool.Decides.{nat_tests}
use Rattle.std.proofs.lemmas.List.{get_or_default, take-append-drop, drop_more, take_more, length-take-le}
use Rattle.std.proofs.lemmas.List.Elements.{All-contains, All-push, All-take, All-weaker, Contains-append_right, Contains-append_cases}
use Rattle.row_key.specs.declared.widths.Widths.{Widths}
use Rattle.row_key.specs.declared.keys.RowKey.{RowKey}
use Rattle.row_hours.specs.declared.hours.TheConstants.{HOUR}
use Rattle.row_key.specs.Key.{IsId, IsKey, IsWidth, most_ids}
use Rattle.row_key.specs.KeyOrder.{key_cmp, pair_cmp}
use Rattle.metric_scan.specs.declared.id_filter.IdTest.{IdTest}
use Rattle.metric_scan.specs.declared.id_filter.IdTest.TheVariants.{OneOf}
use Rattle.metric_scan.specs.declared.id_filter.IdFilter.{IdFilter}
use Rattle.metric_scan.specs.IdFilters.{passes_filter, passes_test}
use Rattle.metric_scan.specs.IdSets.{IsLeastAbove}
use Rattle.metric_scan.specs.KeyJumps.{IsFromTo, JumpsOver, IsBehind, IsNextId, IsNextValue}
use Rattle.metric_scan.proofs.SomeOf.{in_any, any_in}
use Rattle.metric_scan.proofs.Lower as lower
use Rattle.metric_scan.proofs.PairOrder.{Lesser, then_assoc, tied, not_under, under, less_is, same_then, never_below_none, behind_front, value_above, ValueBetween, value_between, first_from, rising_front, rising_rest, hour_tied}

abbrev Pairs : Type 0
Pairs = List (ℕ × ℕ)

-- the ids of a pair are ids
abbrev ArePairIds : Widths → ℕ × ℕ → Type 0
ArePairIds widths p = IsId widths.tag_key p.0 × IsId widths.tag_value p.1

not_true : (b : Bool) → (b ≡ true → ⊥) → b ≡ false
not_true true no_ = absurd (no_ refl)
not_true false no_ = refl

nat_is : (a b : ℕ) → nat_eq a b ≡ true → a ≡ b
nat_is a b e = grind (arith, nat_tests, e)

is_nat : (a b : ℕ) → a ≡ b → nat_eq a b ≡ true
is_nat a b e = grind (arith, nat_tests, e)

and_true : (a b : Bool) → a ≡ true → b ≡ true → (a && b) ≡ true
and_true true b e f = f
and_true false b e f = cc

both : (a b : Bool) → (a && b) ≡ true → (a ≡ true) × (b ≡ true)
both true b e = (refl, e)
both false b e = cc

pub if_some : {X : Type 0} (P Q : X → Type 0) (o : Option X) → ((x : X) → P x → Q x) → IfSome o P → IfSome o Q
if_some P Q None go i = i
if_some P Q (Some x) go i = go x i

-- no pair passes, where those of the front have lesser ids, and the next one has a greater id or a value that fails
pub none_passes : (f : IdFilter) (front tail : Pairs) (pair : ℕ × ℕ) → AllPairs Lesser (front ++ pair ∷ tail) → ((p : ℕ × ℕ) → Contains front p → p.0 < f.key) → (f.key < pair.0) ⊎ ((pair.0 ≡ f.key) × (passes_test f.test pair.1 ≡ false))
    → passes_filter f (front ++ pair ∷ tail) ≡ false
none_passes f front tail pair up before at =
    not_true (passes_filter f (front ++ pair ∷ tail)) (λ e.
    let w = any_in (λ (p : ℕ × ℕ). nat_eq f.key p.0 && passes_test f.test p.1) (front ++ pair ∷ tail) e in
    let h = both (nat_eq f.key w.0.0) (passes_test f.test w.0.1) w.2 in
    let key = nat_is f.key w.0.0 h.0 in
    elim (Contains-append_cases front (pair ∷ tail) w.0 w.1) [
      | inl early ↦ (let lt = before w.0 early in omega (arith, key, lt))
      | inr late ↦ elim (lower.split pair w.0 tail late) [
        | inl same ↦ elim at [
          | inl lt ↦ (let k = ap (λ (p : ℕ × ℕ). p.0) same in omega (arith, lt, k, key))
          | inr fails ↦ false≢true (sym fails.1 ∙ ap (λ (p : ℕ × ℕ). passes_test f.test p.1) same ∙ h.1)
        ]
        | inr behind ↦ (
            let lt = lower.pairs_in Lesser pair w.0 tail (rising_rest front (pair ∷ tail) up) behind in
            elim at [ inl above ↦ omega (arith, above, lt, key) | inr fails ↦ (let e = fails.0 in omega (arith, e, lt, key)) ])
      ]
    ])

-- a key, cut at one of its pairs
module _ (widths : Widths) (key : RowKey) (place id value : ℕ) (is : IsKey widths key) (lt : place < length key.pairs.items) (at : get_or key.pairs.items place (0, 0) ≡ (id, value)) where
  abbrev front : Pairs
  front = take place key.pairs.items

  abbrev rest : Pairs
  rest = drop (place + 1) key.pairs.items

  cut : key.pairs.items ≡ front ++ (id, value) ∷ rest
  cut = sym (take-append-drop place key.pairs.items) ∙ ap (λ (l : Pairs). front ++ l) (drop_more key.pairs.items place (0, 0) lt ∙ ap (λ (p : ℕ × ℕ). p ∷ rest) at)

  rising : AllPairs Lesser (front ++ (id, value) ∷ rest)
  rising = subst (AllPairs Lesser) cut is.rising

  lesser : (p : ℕ × ℕ) → Contains front p → p.0 < id
  lesser p c = lower.pairs_before Lesser front (id, value) rest rising p c

  its_ids : ArePairIds widths (id, value)
  its_ids = subst (ArePairIds widths) at (is.ids place (0, 0) lt)

  -- and another with a greater value there, and nothing behind it
  module _ (target : RowKey) (next : ℕ) (metric : target.metric ≡ key.metric) (base : target.base ≡ key.base) (pairs : target.pairs.items ≡ front ++ (id, next) ∷ []) (above : value < next) (most : next ≤ most_ids widths.tag_value) where
    put_key : IsKey widths target
    put_key =
        let size = ap (λ (l : Pairs). length l) pairs ∙ length-append front ((id, next) ∷ []) in
        let taken = length-take-le place key.pairs.items (omega (arith, lt)) in
        let few = is.most in
        record {
          metric = subst (IsId widths.metric) (sym metric) is.metric;
          base = subst (λ b. b < 2 ^ 32) (sym base) is.base;
          hour = ap (λ b. b % HOUR) base ∙ is.hour;
          some = omega (arith, size);
          most = omega (arith, size, taken, lt, few);
          ids = subst (All (ArePairIds widths)) (sym pairs)
              (All-push (ArePairIds widths) front (id, next) (All-take (ArePairIds widths) place key.pairs.items is.ids) (its_ids.0, (omega (arith, above), most)));
          rising = subst (AllPairs Lesser) (sym pairs) (lower.pairs_push Lesser front (id, next) (rising_front front ((id, value) ∷ rest) rising) lesser);
        }

    put_later : key_cmp key target ≡ Less
    put_later =
        same_then key.metric target.metric (ordering_then (nat_cmp key.base target.base) (slice_cmp pair_cmp key.pairs.items target.pairs.items)) (sym metric)
        ∙ same_then key.base target.base (slice_cmp pair_cmp key.pairs.items target.pairs.items) (sym base) ∙ (λ i. slice_cmp pair_cmp (cut i) (pairs i)) ∙ value_above front rest id value next above

    put_between : (k : RowKey) → IsFromTo key target k → ValueBetween front id value next k.pairs.items
    put_between k r =
        let h = hour_tied key target k metric base r.0 r.1 in
        value_between front id value next rest k.pairs.items (ap (λ (l : Pairs). is_lt (slice_cmp pair_cmp k.pairs.items l)) (sym cut) ∙ h.on) (ap (λ (l : Pairs). slice_cmp pair_cmp k.pairs.items l) (sym pairs) ∙ h.below)

    -- no value in between passes
    pub value_jumps : (f : IdFilter) → id ≡ f.key → IsNextValue (most_ids widths.tag_value) f.test value (Some next) → JumpsOver widths (passes_filter f) key target
    value_jumps f same n = record {
      is_key = put_key;
      metric_is = metric;
      later = put_later;
      over = λ k ik r.
          let b = put_between k r in
          ap (passes_filter f) b.are
          ∙ none_passes f front b.rest (id, b.at) (subst (AllPairs Lesser) b.are ik.rising) (λ p c. subst (λ n. p.0 < n) same (lesser p c)) (inr (same, n.2 b.at b.from_on b.below));
    }

    -- what is in between begins with the pairs up to this one
    pub put_behind : next ≡ value + 1 → IsBehind widths key (place + 1) target
    put_behind one = record {
      is_key = put_key;
      metric_is = metric;
      later = put_later;
      alike = λ k ik r.
          let b = put_between k r in
          let low = b.from_on in
          let high = b.below in
          let same : b.at ≡ value = omega (arith, low, high, one) in
          record {
            from_on = (hour_tied key target k metric base r.0 r.1).on;
            rest = b.rest;
            pairs_are = b.are ∙ ap (λ v. front ++ (id, v) ∷ b.rest) same ∙ sym (append_assoc front ((id, value) ∷ []) b.rest) ∙ ap (λ (l : Pairs). l ++ b.rest) (sym (take_more key.pairs.items place (0, 0) lt ∙ ap (λ (p : ℕ × ℕ). front ++ p ∷ []) at));
          };
    }

  -- all that begins with the pairs before this one, and is not below, fails the filter as this one does
  pub behind_jumps : (f : IdFilter) (target : RowKey) → ((p : ℕ × ℕ) → Contains front p → p.0 < f.key) → (f.key < id) ⊎ ((id ≡ f.key) × ((v : ℕ) → value ≤ v → v ≤ most_ids widths.tag_value → passes_test f.test v ≡ false)) → IsBehind widths key place target → JumpsOver widths (passes_filter f) key target
  behind_jumps f target before fails b = record {
    is_key = b.is_key;
    metric_is = b.metric_is;
    later = b.later;
    over = λ k ik r.
        let g = b.alike k ik r in
        let w = first_from id value rest g.rest (behind_front front g.rest ((id, value) ∷ rest) ((λ i. is_lt (slice_cmp pair_cmp (sym g.pairs_are i) (sym cut i))) ∙ g.from_on)) in
        let are = g.pairs_are ∙ ap (λ (l : Pairs). front ++ l) w.are in
        let small = (All-contains (ArePairIds widths) (front ++ w.pair ∷ w.tail) w.pair (subst (All (ArePairIds widths)) are ik.ids) (Contains-append_right front (w.pair ∷ w.tail) w.pair (lower.here w.pair w.tail))).1 in
        ap (passes_filter f) are ∙ none_passes f front w.tail w.pair (subst (AllPairs Lesser) are ik.rising) before (at_first w.pair small.1 w.from_on fails);
  }
    where
      at_first : (pair : ℕ × ℕ) → pair.1 ≤ most_ids widths.tag_value → (id < pair.0) ⊎ ((pair.0 ≡ id) × (value ≤ pair.1)) → (f.key < id) ⊎ ((id ≡ f.key) × ((v : ℕ) → value ≤ v → v ≤ most_ids widths.tag_value → passes_test f.test v ≡ false))
          → (f.key < pair.0) ⊎ ((pair.0 ≡ f.key) × (passes_test f.test pair.1 ≡ false))
      at_first pair small (inl lt) (inl low) = inl (omega (arith, lt, low))
      at_first pair small (inl lt) (inr fails) = let e = fails.0 in inl (omega (arith, lt, e))
      at_first pair small (inr same) (inl low) = let e = same.0 in inl (omega (arith, e, low))
      at_first pair small (inr same) (inr fails) = inr (same.0 ∙ fails.0, fails.1 pair.1 same.1 small)

-- ---- of the pairs as they are listed

inside : (place n : ℕ) → place ≤ n → (place ≡ n → ⊥) → place < n
inside place n le not_end = grind (arith, le, not_end)

module _ (widths : Widths) (key : RowKey) (listed : Pairs) (place : ℕ) (is : IsKey widths key) (listed_is : listed ≡ key.pairs.items) (most : place ≤ length listed) (not_end : place ≡ length listed → ⊥) where
  abbrev pair : ℕ × ℕ
  pair = get_or listed place (0, 0)

  lt : place < length key.pairs.items
  lt = subst (λ (l : Pairs). place < length l) listed_is (inside place (length listed) most not_end)

  at : get_or key.pairs.items place (0, 0) ≡ (pair.0, pair.1)
  at = ap (λ (l : Pairs). get_or l place (0, 0)) (sym listed_is)

  -- where the key of the pair is the filter's, its value fails
  pub its_value_fails : (f : IdFilter) → passes_filter f key.pairs.items ≡ false → pair.0 ≡ f.key → passes_test f.test pair.1 ≡ false
  its_value_fails f fails same = not_true (passes_test f.test pair.1) (λ e.
      let among : Contains key.pairs.items pair = subst (Contains key.pairs.items) at (place, lt, get_or_default key.pairs.items place (get_or key.pairs.items place (0, 0)) (0, 0) lt) in
      false≢true (sym fails ∙ in_any (λ (p : ℕ × ℕ). nat_eq f.key p.0 && passes_test f.test p.1) pair key.pairs.items among (and_true (nat_eq f.key pair.0) (passes_test f.test pair.1) (is_nat f.key pair.0 (sym same)) e)))

  pub value_target : (f : IdFilter) (target : RowKey) (next : ℕ) → pair.0 ≡ f.key → IsNextValue (most_ids widths.tag_value) f.test pair.1 (Some next) → target.metric ≡ key.metric → target.base ≡ key.base → target.pairs.items ≡ take place key.pairs.items ++ (pair.0, next) ∷ []
      → JumpsOver widths (passes_filter f) key target
  value_target f target next same n metric base pairs = value_jumps widths key place pair.0 pair.1 is lt at target next metric base pairs n.0 n.1 f same n

  -- behind all that begin with the pairs before it
  pub other_target : (f : IdFilter) (o : Option RowKey) → All (λ (p : ℕ × ℕ). p.0 < f.key) (take place listed) → (place < length listed → f.key ≤ pair.0) → (pair.0 ≡ f.key → ⊥) → IfSome o (IsBehind widths key place) → IfSome o (JumpsOver widths (passes_filter f) key)
  other_target f o before from differs b =
      let low = from (inside place (length listed) most not_end) in
      if_some (IsBehind widths key place) (JumpsOver widths (passes_filter f) key) o (λ target t. behind_jumps widths key place pair.0 pair.1 is lt at f target (lesser_of f before) (inl (grind (arith, low, differs))) t) b
    where
      lesser_of : (f : IdFilter) → All (λ (p : ℕ × ℕ). p.0 < f.key) (take place listed) → (p : ℕ × ℕ) → Contains (take place key.pairs.items) p → p.0 < f.key
      lesser_of f all p c = All-contains (λ (q : ℕ × ℕ). q.0 < f.key) (take place key.pairs.items) p (subst (λ (l : Pairs). All (λ (q : ℕ × ℕ). q.0 < f.key) (take place l)) listed_is all) c

  pub last_target : (f : IdFilter) (o : Option RowKey) → All (λ (p : ℕ × ℕ). p.0 < f.key) (take place listed) → pair.0 ≡ f.key → IsNextValue (most_ids widths.tag_value) f.test pair.1 None → IfSome o (IsBehind widths key place) → IfSome o (JumpsOver widths (passes_filter f) key)
  last_target f o before same n b =
      if_some (IsBehind widths key place) (JumpsOver widths (passes_filter f) key) o
      (λ target t. behind_jumps widths key place pair.0 pair.1 is lt at f target
      (λ p c. All-contains (λ (q : ℕ × ℕ). q.0 < f.key) (take place key.pairs.items) p (subst (λ (l : Pairs). All (λ (q : ℕ × ℕ). q.0 < f.key) (take place l)) listed_is before) c) (inr (same, n)) t) b

-- the pair before this one, with the next value
pub value_more : (widths : Widths) (key : RowKey) (listed : Pairs) (place next : ℕ) (target : RowKey) → IsKey widths key → listed ≡ key.pairs.items → place ≤ length key.pairs.items → (place ≡ 0 → ⊥) → IsNextId (most_ids widths.tag_value) (get_or listed (place - 1) (0, 0)).1 (Some next) → target.metric ≡ key.metric → target.base ≡ key.base
    → target.pairs.items ≡ take (place - 1) key.pairs.items ++ ((get_or listed (place - 1) (0, 0)).0, next) ∷ [] → IsBehind widths key place target
value_more widths key listed place next target is listed_is le some n metric base pairs =
    let lt : place - 1 < length key.pairs.items = grind (arith, le, some) in
    let pair = get_or listed (place - 1) (0, 0) in
    let at : get_or key.pairs.items (place - 1) (0, 0) ≡ (pair.0, pair.1) = ap (λ (l : Pairs). get_or l (place - 1) (0, 0)) (sym listed_is) in
    let back : place - 1 + 1 ≡ place = grind (arith, some) in
    let above = n.0 in
    subst (λ m. IsBehind widths key m target) back (put_behind widths key (place - 1) pair.0 pair.1 is lt at target next metric base pairs (omega (arith, above)) n.1 n.0)

-- ---- the next hour

not_below_ones : (widths : Widths) (qs : Pairs) → 1 ≤ length qs → All (ArePairIds widths) qs → slice_cmp pair_cmp qs ((1, 1) ∷ []) ≡ Less → ⊥
not_below_ones widths [] some ids e = omega (arith, some)
not_below_ones widths (q ∷ qs) some ids e =
    let is = ids 0 (0, 0) some in
    let key = is.0.0 in
    let value = is.1.0 in
    elim (under q.0 1 (ordering_then (nat_cmp q.1 1) (slice_cmp pair_cmp qs [])) (sym (then_assoc (nat_cmp q.0 1) (nat_cmp q.1 1) (slice_cmp pair_cmp qs [])) ∙ e)) [
      | inl lt ↦ omega (arith, lt, key)
      | inr tie ↦ elim (under q.1 1 (slice_cmp pair_cmp qs []) tie.1) [ inl lt ↦ omega (arith, lt, value) | inr none ↦ never_below_none qs none.1 ]
    ]

between_hours : (a b : ℕ) → a % HOUR ≡ 0 → b % HOUR ≡ 0 → a < b → b < a + HOUR → ⊥
between_hours a b x y lt less = omega (arith, x, y, lt, less)

-- each width has an id
one_id : (width : ℕ) → IsWidth width → IsId width 1
one_id width fits = (omega arith, lower.at_width (λ k. 1 ≤ most_ids k) (omega arith) (omega arith) (omega arith) width fits)

pub hour_behind : (widths : Widths) (key target : RowKey) → IsKey widths key → target.metric ≡ key.metric → target.base ≡ key.base + HOUR → target.base < 2 ^ 32 → target.pairs.items ≡ (1, 1) ∷ [] → IsBehind widths key 0 target
hour_behind widths key target is metric base fits pairs = record {
  is_key = record {
    metric = subst (IsId widths.metric) (sym metric) is.metric;
    base = fits;
    hour = let h = is.hour in omega (arith, h, base);
    some = let n = ap (λ (l : Pairs). length l) pairs in omega (arith, n);
    most = let n = ap (λ (l : Pairs). length l) pairs in omega (arith, n);
    ids = subst (All (ArePairIds widths)) (sym pairs) (All-push (ArePairIds widths) [] (1, 1) (λ k d lt. absurd (omega (arith, lt))) (one_id widths.tag_key widths.key_fits, one_id widths.tag_value widths.value_fits));
    rising = subst (AllPairs Lesser) (sym pairs) (λ i j d lt within. absurd (omega (arith, lt, within)));
  };
  metric_is = metric;
  later = same_then key.metric target.metric (ordering_then (nat_cmp key.base target.base) (slice_cmp pair_cmp key.pairs.items target.pairs.items)) (sym metric) ∙ less_is key.base target.base (slice_cmp pair_cmp key.pairs.items target.pairs.items) (omega (arith, base));
  alike = λ k ik r.
      let o = slice_cmp pair_cmp k.pairs.items key.pairs.items in
      let u = slice_cmp pair_cmp k.pairs.items target.pairs.items in
      let a = tied k.metric key.metric (ordering_then (nat_cmp k.base key.base) o) (ordering_then (nat_cmp k.base target.base) u) r.0 (ap (λ m. ordering_then (nat_cmp k.metric m) (ordering_then (nat_cmp k.base target.base) u)) (sym metric) ∙ r.1) in
      elim (not_under k.base key.base o a.on) [
        | inl lt ↦ elim (under k.base target.base u a.below) [
          | inl less ↦ absurd (between_hours key.base k.base is.hour ik.hour lt (omega (arith, less, base)))
          | inr tie ↦ absurd (not_below_ones widths k.pairs.items ik.some ik.ids (ap (λ (l : Pairs). slice_cmp pair_cmp k.pairs.items l) (sym pairs) ∙ tie.1))
        ]
        | inr tie ↦ record { from_on = tie.1; rest = k.pairs.items; pairs_are = refl }
      ];
}

-- ---- for the loops

pub before_more : (pairs : Pairs) (i id : ℕ) → i < length pairs → All (λ (p : ℕ × ℕ). p.0 < id) (take i pairs) → (get_or pairs i (0, 0)).0 < id → All (λ (p : ℕ × ℕ). p.0 < id) (take (i + 1) pairs)
before_more pairs i id lt all its = subst (All (λ (p : ℕ × ℕ). p.0 < id)) (sym (take_more pairs i (0, 0) lt)) (All-push (λ (p : ℕ × ℕ). p.0 < id) (take i pairs) (get_or pairs i (0, 0)) all its)

above_or : (a b : ℕ) → a ≤ b → (a < b) ⊎ (a ≡ b)
above_or a b le = grind (arith, le)

-- where the value isn't listed, and each listed id above it is from some number on, none from the value on is listed below that number
unlisted : (ids : List ℕ) (value from : ℕ) → list_any (nat_eq value) ids ≡ false → All (λ id. value < id → from ≤ id) ids → (id : ℕ) → value ≤ id → id < from → list_any (nat_eq id) ids ≡ false
unlisted ids value from none all id low below = not_true (list_any (nat_eq id) ids) (λ e.
    let w = any_in (nat_eq id) ids e in
    let same = nat_is id w.0 w.2 in
    elim (above_or value id low) [
      | inl lt ↦ (let le = All-contains (λ x. value < x → from ≤ x) ids w.0 all w.1 (omega (arith, lt, same)) in omega (arith, le, below, same))
      | inr tie ↦ false≢true (sym none ∙ ap (λ n. list_any (nat_eq n) ids) tie ∙ e)
    ])

-- the least of the listed ids above a value is the next one
next_listed : (most value : ℕ) (ids : List ℕ) (next : Option ℕ) → list_any (nat_eq value) ids ≡ false → IsLeastAbove most value ids next → IsNextValue most (OneOf ids) value next
next_listed most value ids (Some next) none (above, small, all) = (above, small, unlisted ids value next none all)
next_listed most value ids None none all =
    λ id low small. unlisted ids value (most + 1) none (All-weaker (λ x. value < x → most < x) (λ x. value < x → most + 1 ≤ x) (λ x h lt. let large = h lt in omega (arith, large)) ids all) id low (omega (arith, small))

pub listed_next : (most : ℕ) (test : IdTest) (ids : List ℕ) (value : ℕ) (next : Option ℕ) → test ≡ OneOf ids → passes_test test value ≡ false → IsLeastAbove most value ids next → IsNextValue most test value next
listed_next most test ids value next is fails least = subst (λ (t : IdTest). IsNextValue most t value next) (sym is) (next_listed most value ids next (ap (λ (t : IdTest). passes_test t value) (sym is) ∙ fails) least)

-- with another name of the greatest id
pub id_named : (told most id next : ℕ) → told ≡ most → IsNextId told id (Some next) → IsNextId most id (Some next)
id_named told most id next same (is, small) = (is, subst (λ (n : ℕ). next ≤ n) same small)

pub some_next : (told most : ℕ) (test : IdTest) (value next : ℕ) → told ≡ most → IsNextValue told test value (Some next) → IsNextValue most test value (Some next)
some_next told most test value next same is = subst (λ (n : ℕ). IsNextValue n test value (Some next)) same is

pub none_next : (told most : ℕ) (test : IdTest) (value : ℕ) (next : Option ℕ) → told ≡ most → next ≡ None → IsNextValue told test value next → IsNextValue most test value None
none_next told most test value next same none is = subst (λ (n : ℕ). IsNextValue n test value None) same (subst (IsNextValue told test value) none is)

-- of any test the id behind the value is the next one
pub any_next : (most : ℕ) (test : IdTest) (value : ℕ) (next : Option ℕ) → passes_test test value ≡ false → IsNextId most value next → IsNextValue most test value next
any_next most test value (Some next) fails (is, small) = (omega (arith, is), small, λ id low below. subst (λ n. passes_test test n ≡ false) (let e : value ≡ id = omega (arith, is, low, below) in e) fails)
any_next most test value None fails large = λ id low small. subst (λ n. passes_test test n ≡ false) (let e : value ≡ id = omega (arith, large, low, small) in e) fails

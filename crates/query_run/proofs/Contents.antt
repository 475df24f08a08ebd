-- What is collected of the rows so far, and of one more.
use Rattle.std.proofs.Common.{◌≡◌, ◌⊎◌, inl, inr, ℕ, ◌+◌, ◌*◌, ◌<◌, ◌≤◌, Bool, true, false, cond, List, [], ◌∷◌, ◌++◌, length, refl, sym, ap, subst, ◌∙◌, arith, length-append}
use Rattle.std.specs.Prelude.{ℤ, Contains, Option, None, Some, unwrap_or}
use Rattle.std.proofs.lemmas.List.Elements.{Contains-append_left, Contains-append_right, Contains-append_cases}
use Rattle.std.specs.declared.cmp.Ordering.{Ordering}
use Rattle.std.specs.declared.cmp.Ordering.TheVariants.{Less, Equal, Greater}
use Rattle.std.specs.Ordering.{is_eq, eq_by_cmp, match_ordering, nat_cmp}
use Rattle.std.specs.Cmp.{tied_itself}
use Rattle.std.specs.Map.{lookup}
use Rattle.std.specs.BTreeMap.{insert_entry, is_at}
use Rattle.std.specs.FinMap as fin
use Rattle.std.specs.FinMap.{IsAntisymmetric, slice_cmp-IsAntisymmetric}
use Rattle.std.specs.FinMap.Entries.{find-put}
use Rattle.std.proofs.lemmas.Map.Lookups.{exact_pairs, exact_unsigned}
use Rattle.row_key.specs.declared.widths.Widths.{Widths}
use Rattle.row_key.specs.declared.keys.RowKey.{RowKey}
use Rattle.row_key.specs.Key.{key_bytes}
use Rattle.cell_model.specs.declared.row.Row.{Row}
use Rattle.cell_model.specs.declared.row.Found.{Found}
use Rattle.list_lemmas.specs.BytesOrder.{bytes_cmp}
use Rattle.tsd_base.specs.declared.kinds.Down.{Down}
use Rattle.span_merge.specs.Spans.{Span, KeptSpan, pairs_cmp, dots_of, added}
use Rattle.query_run.specs.RowDots.{dot_at}
use Rattle.metric_scan.specs.Walks.{Picks, KeyOf}
use Rattle.query_run.specs.Collection.{RowIsIn, RowIsConflictFree, DotIsFrom, Gathered, Adds, RowTaken, StandsBehind}
use Rattle.query_run.proofs.Lower as lower
use Rattle.query_run.proofs.RowPoints.{are_offsets}
use Rattle.query_run.proofs.Titles.{pairs_total}
use Rattle.metric_scan.proofs.ScanSteps.{hours_rise, hour_before}

-- ---- the points of series

abbrev Pairs : Type 0
Pairs = List (ℕ × ℕ)

abbrev Dots : Type 0
Dots = List (ℕ × ℤ)

pairs_exact : IsAntisymmetric pairs_cmp
pairs_exact = slice_cmp-IsAntisymmetric (exact_pairs nat_cmp nat_cmp exact_unsigned exact_unsigned)

equal : (r : Ordering) → is_eq r ≡ true → r ≡ Equal
equal Less e = cc
equal Equal e = refl
equal Greater e = cc

none_some : {X : Type 0} (x : X) → ◌≡◌ {A = Option X} None (Some x) → ⊥
none_some x e = cc

same_Some : {X : Type 0} (x y : X) → ◌≡◌ {A = Option X} (Some x) (Some y) → x ≡ y
same_Some x y e = cc

abbrev look : Pairs → List Span → Option Dots
look pairs spans = lookup (is_at (pairs_cmp pairs)) spans

looked : (spans : List Span) (pairs : Pairs) (dots : Dots) → look pairs spans ≡ Some dots → Contains spans (pairs, dots)
looked [] pairs dots e = absurd (none_some dots e)
looked (s ∷ spans) pairs dots e = at (is_at (pairs_cmp pairs) s.0) refl e (looked spans pairs dots)
  where
    at : (b : Bool) → is_at (pairs_cmp pairs) s.0 ≡ b → cond b (Some s.1) (look pairs spans) ≡ Some dots → (look pairs spans ≡ Some dots → Contains spans (pairs, dots)) → Contains (s ∷ spans) (pairs, dots)
    at true b e go =
        let key : pairs ≡ s.0 = pairs_exact pairs s.0 (equal (pairs_cmp pairs s.0) b) in
        let value : s.1 ≡ dots = same_Some s.1 dots e in
        let same : ◌≡◌ {A = Span} s (pairs, dots) = λ i. ((sym key) i, value i) in
        subst (Contains (s ∷ spans)) same (lower.here s spans)
    at false b e go = lower.there s (pairs, dots) spans (go e)

-- a point of a series stands in it
pub dot_stands : (spans : List Span) (pairs : Pairs) (d : ℕ × ℤ) → Contains (dots_of spans pairs) d → Contains spans (pairs, dots_of spans pairs)
dot_stands spans pairs d c = at (look pairs spans) refl c
  where
    at : (o : Option Dots) → look pairs spans ≡ o → Contains (unwrap_or o []) d → Contains spans (pairs, dots_of spans pairs)
    at None e c = absurd (lower.not_in d c)
    at (Some dots) e c = subst (λ (l : Dots). Contains spans (pairs, l)) (ap (λ (o : Option Dots). unwrap_or o []) (sym e)) (looked spans pairs dots e)

look_added : (spans : List Span) (pairs q : Pairs) (dots : Dots) → look q (insert_entry pairs_cmp spans pairs dots) ≡ cond (eq_by_cmp pairs_cmp q pairs) (Some dots) (look q spans)
look_added spans pairs q dots =
    ap (look q) (lower.insert_entry-put pairs_cmp pairs dots spans) ∙ lower.lookup-find pairs_cmp q (fin.put pairs_cmp pairs dots spans) ∙ find-put pairs_cmp pairs_total q pairs dots spans
    ∙ ap (cond (eq_by_cmp pairs_cmp q pairs) (Some dots)) (sym (lower.lookup-find pairs_cmp q spans))

-- the series that is added to has its points and these
pub added_here : (spans : List Span) (pairs : Pairs) (dots : Dots) → dots_of (added spans pairs dots) pairs ≡ dots_of spans pairs ++ dots
added_here spans pairs dots =
    ap (λ (o : Option Dots). unwrap_or o []) (look_added spans pairs pairs (dots_of spans pairs ++ dots) ∙ ap (λ r. cond (is_eq r) (Some (dots_of spans pairs ++ dots)) (look pairs spans)) (tied_itself pairs_total pairs))

-- no series loses a point
pub added_keeps : (spans : List Span) (pairs q : Pairs) (dots : Dots) (d : ℕ × ℤ) → Contains (dots_of spans q) d → Contains (dots_of (added spans pairs dots) q) d
added_keeps spans pairs q dots d c = at (eq_by_cmp pairs_cmp q pairs) refl
  where
    at : (b : Bool) → eq_by_cmp pairs_cmp q pairs ≡ b → Contains (dots_of (added spans pairs dots) q) d
    at true b =
        let same : q ≡ pairs = pairs_exact q pairs (equal (pairs_cmp q pairs) b) in
        subst (λ (x : Pairs). Contains (dots_of (added spans pairs dots) x) d) (sym same)
        (subst (λ (l : Dots). Contains l d) (sym (added_here spans pairs dots)) (Contains-append_left (dots_of spans pairs) dots d (subst (λ (x : Pairs). Contains (dots_of spans x) d) same c)))
    at false b =
        subst (λ (o : Option Dots). Contains (unwrap_or o []) d) (sym (look_added spans pairs q (dots_of spans pairs ++ dots) ∙ ap (λ t. cond t (Some (dots_of spans pairs ++ dots)) (look q spans)) b)) c

-- a series is the one that was added to, or it was there
entry_cases : (spans : List Span) (pairs : Pairs) (dots : Dots) (s : Span) → Contains (insert_entry pairs_cmp spans pairs dots) s → (◌≡◌ {A = Span} (pairs, dots) s) ⊎ Contains spans s
entry_cases [] pairs dots s c = lower.split {X = Span} (pairs, dots) s [] c
entry_cases (t ∷ spans) pairs dots s c = at (pairs_cmp pairs t.0) refl c (entry_cases spans pairs dots s)
  where
    at : (r : Ordering) → pairs_cmp pairs t.0 ≡ r → Contains (match_ordering r ((pairs, dots) ∷ t ∷ spans) ((t.0, dots) ∷ spans) (t ∷ insert_entry pairs_cmp spans pairs dots)) s
        → (Contains (insert_entry pairs_cmp spans pairs dots) s → (◌≡◌ {A = Span} (pairs, dots) s) ⊎ Contains spans s) → (◌≡◌ {A = Span} (pairs, dots) s) ⊎ Contains (t ∷ spans) s
    at Less e c go = lower.split {X = Span} (pairs, dots) s (t ∷ spans) c
    at Equal e c go = elim (lower.split {X = Span} (t.0, dots) s spans c) [
      | inl same ↦ (let key : pairs ≡ t.0 = pairs_exact pairs t.0 e in inl ((λ i. (key i, dots)) ∙ same))
      | inr later ↦ inr (lower.there t s spans later)
    ]
    at Greater e c go = elim (lower.split t s (insert_entry pairs_cmp spans pairs dots) c) [
      | inl same ↦ inr (subst (Contains (t ∷ spans)) same (lower.here t spans))
      | inr later ↦ elim (go later) [ inl new ↦ inl new | inr old ↦ inr (lower.there t s spans old) ]
    ]

-- ---- points are behind each other

pub stands_behind : (picks : Picks) (widths : Widths) (id start end : ℕ) (founds : List Found) (spans : List Span) (f : Found) (key : RowKey) → Gathered picks widths id start end founds spans → KeyOf widths id start end f key
    → ((g : Found) → Contains founds g → bytes_cmp g.row.bytes f.row.bytes ≡ Less) → StandsBehind spans key
stands_behind picks widths id start end founds spans f key gathered of passed =
    lower.all_of (λ d. d.0 < key.base * 1000) (dots_of spans key.pairs.items) (λ d c.
    let w = gathered.from (key.pairs.items, dots_of spans key.pairs.items) d (dot_stands spans key.pairs.items d c) c in
    let rows = passed w.found w.among in
    let bytes : bytes_cmp (key_bytes widths w.key) (key_bytes widths key) ≡ Less = subst (λ (x : Row × Row). bytes_cmp x.0.bytes x.1.bytes ≡ Less) (λ i. (w.of.row_is i, of.row_is i)) rows in
    let base = hours_rise widths w.key key w.of.is_key of.is_key (w.of.metric_is ∙ sym of.metric_is) w.pairs_are bytes in
    let time : d.0 ≡ w.key.base * 1000 + w.dot.item.offset = ap (λ (x : ℕ × ℤ). x.0) w.dot_is in
    let before = hour_before w.key.base key.base w.dot.item.offset base (are_offsets w.found.cells w.all w.are w.dot w.there) w.of.is_key.hour of.is_key.hour in
    omega (arith, time, before))

-- ---- one row more

kept_row : (picks : Picks) (widths : Widths) (id start end : ℕ) (spans more : List Span) (f : Found) → ((q : Pairs) (d : ℕ × ℤ) → Contains (dots_of spans q) d → Contains (dots_of more q) d) → RowIsIn picks widths id start end spans f → RowIsIn picks widths id start end more f
kept_row picks widths id start end spans more f keeps r =
    record { key = r.key; of = r.of; is_in = λ picked. let w = r.is_in picked in record { conflict_free = w.conflict_free; there = λ x c within. keeps r.key.pairs.items (dot_at r.key.base x) (w.there x c within) } }

from_more : (picks : Picks) (widths : Widths) (id start end : ℕ) (founds more : List Found) (pairs : Pairs) (d : ℕ × ℤ) → ((f : Found) → Contains founds f → Contains more f) → DotIsFrom picks widths id start end founds pairs d → DotIsFrom picks widths id start end more pairs d
from_more picks widths id start end founds more pairs d within w = record {
  found = w.found;
  among = within w.found w.among;
  key = w.key;
  of = w.of;
  picked = w.picked;
  pairs_are = w.pairs_are;
  all = w.all;
  are = w.are;
  dot = w.dot;
  there = w.there;
  dot_is = w.dot_is;
  within = w.within;
}

adds_keeps : (spans more : List Span) (pairs : Pairs) (dots : Dots) → Adds spans pairs dots more → (q : Pairs) (d : ℕ × ℤ) → Contains (dots_of spans q) d → Contains (dots_of more q) d
adds_keeps spans more pairs dots (inl (none, same)) q d c = subst (λ (l : List Span). Contains (dots_of l q) d) (sym same) c
adds_keeps spans more pairs dots (inr (some, is)) q d c = subst (λ (l : List Span). Contains (dots_of l q) d) (sym is) (added_keeps spans pairs q dots d c)

adds_has : (spans more : List Span) (pairs : Pairs) (dots : Dots) → Adds spans pairs dots more → (d : ℕ × ℤ) → Contains dots d → Contains (dots_of more pairs) d
adds_has spans more pairs dots (inl (none, same)) d c = absurd (lower.not_in d (subst (λ (l : Dots). Contains l d) none c))
adds_has spans more pairs dots (inr (some, is)) d c =
    subst (λ (l : List Span). Contains (dots_of l pairs) d) (sym is) (subst (λ (l : Dots). Contains l d) (sym (added_here spans pairs dots)) (Contains-append_right (dots_of spans pairs) dots d c))

pub gathered_taken : (picks : Picks) (how : Option Down) (widths : Widths) (id start end : ℕ) (founds : List Found) (f : Found) (key : RowKey) (spans : List Span) (kept : List KeptSpan) → Gathered picks widths id start end founds spans → KeyOf widths id start end f key → picks key.pairs.items ≡ true
    → (t : RowTaken how key f.cells start end spans kept) → Gathered picks widths id start end (founds ++ f ∷ []) t.added.more
gathered_taken picks how widths id start end founds f key spans kept g of picked t = record {
  rows = λ h c. elim (Contains-append_cases founds (f ∷ []) h c) [
    | inl old ↦ kept_row picks widths id start end spans t.added.more h keeps (g.rows h old)
    | inr new ↦ elim (lower.split f h [] new) [ inl same ↦ subst (RowIsIn picks widths id start end t.added.more) same mine | inr none ↦ absurd (lower.not_in h none) ]
  ];
  from = λ x d c i. from_at t.added.adds x d c i;
  some = λ x c. some_at t.added.adds x c;
}
  where
    keeps : (q : Pairs) (d : ℕ × ℤ) → Contains (dots_of spans q) d → Contains (dots_of t.added.more q) d
    keeps = adds_keeps spans t.added.more key.pairs.items t.dots t.added.adds

    mine : RowIsIn picks widths id start end t.added.more f
    mine = record {
      key = key;
      of = of;
      is_in = λ picked. record { conflict_free = record { all = t.has.all; are = t.has.are; one = t.has.one }; there = λ x c within. adds_has spans t.added.more key.pairs.items t.dots t.added.adds (dot_at key.base x) (t.has.there x c within) };
    }

    within : (h : Found) → Contains founds h → Contains (founds ++ f ∷ []) h
    within h c = Contains-append_left founds (f ∷ []) h c

    last : Contains (founds ++ f ∷ []) f
    last = Contains-append_right founds (f ∷ []) f (lower.here f [])

    new_dot : (d : ℕ × ℤ) → Contains t.dots d → DotIsFrom picks widths id start end (founds ++ f ∷ []) key.pairs.items d
    new_dot d c =
        let w = t.has.each d c in
        record { found = f; among = last; key = key; of = of; picked = picked; pairs_are = refl; all = t.has.all; are = t.has.are; dot = w.0; there = w.1; dot_is = w.2; within = w.3 }

    old_dot : (x : Span) (d : ℕ × ℤ) → Contains spans x → Contains x.1 d → DotIsFrom picks widths id start end (founds ++ f ∷ []) x.0 d
    old_dot x d c i = from_more picks widths id start end founds (founds ++ f ∷ []) x.0 d within (g.from x d c i)

    both_dots : (d : ℕ × ℤ) → Contains (dots_of spans key.pairs.items ++ t.dots) d → DotIsFrom picks widths id start end (founds ++ f ∷ []) key.pairs.items d
    both_dots d c = elim (Contains-append_cases (dots_of spans key.pairs.items) t.dots d c) [
      | inl old ↦ old_dot (key.pairs.items, dots_of spans key.pairs.items) d (dot_stands spans key.pairs.items d old) old
      | inr new ↦ new_dot d new
    ]

    from_at : Adds spans key.pairs.items t.dots t.added.more → (x : Span) (d : ℕ × ℤ) → Contains t.added.more x → Contains x.1 d → DotIsFrom picks widths id start end (founds ++ f ∷ []) x.0 d
    from_at (inl (none, same)) x d c i = old_dot x d (subst (λ (l : List Span). Contains l x) same c) i
    from_at (inr (some, is)) x d c i = elim (entry_cases spans key.pairs.items (dots_of spans key.pairs.items ++ t.dots) x (subst (λ (l : List Span). Contains l x) is c)) [
      | inl same ↦ subst (λ (y : Span). DotIsFrom picks widths id start end (founds ++ f ∷ []) y.0 d) same (both_dots d (subst (λ (y : Span). Contains y.1 d) (sym same) i))
      | inr old ↦ old_dot x d old i
    ]

    some_at : Adds spans key.pairs.items t.dots t.added.more → (x : Span) → Contains t.added.more x → 1 ≤ length x.1
    some_at (inl (none, same)) x c = g.some x (subst (λ (l : List Span). Contains l x) same c)
    some_at (inr (some, is)) x c = elim (entry_cases spans key.pairs.items (dots_of spans key.pairs.items ++ t.dots) x (subst (λ (l : List Span). Contains l x) is c)) [
      | inl same ↦ subst (λ (y : Span). 1 ≤ length y.1) same (let l = length-append (dots_of spans key.pairs.items) t.dots in let n = some in omega (arith, l, n))
      | inr old ↦ g.some x old
    ]

-- a row that isn't asked for
pub gathered_left : (picks : Picks) (widths : Widths) (id start end : ℕ) (founds : List Found) (f : Found) (key : RowKey) (spans : List Span) → Gathered picks widths id start end founds spans → KeyOf widths id start end f key → picks key.pairs.items ≡ false
    → Gathered picks widths id start end (founds ++ f ∷ []) spans
gathered_left picks widths id start end founds f key spans g of fails = record {
  rows = λ h c. elim (Contains-append_cases founds (f ∷ []) h c) [
    | inl old ↦ g.rows h old
    | inr new ↦ elim (lower.split f h [] new) [ inl same ↦ subst (RowIsIn picks widths id start end spans) same mine | inr none ↦ absurd (lower.not_in h none) ]
  ];
  from = λ x d c i. from_more picks widths id start end founds (founds ++ f ∷ []) x.0 d (λ h c. Contains-append_left founds (f ∷ []) h c) (g.from x d c i);
  some = g.some;
}
  where
    never : (b : Bool) → b ≡ true → b ≡ false → ⊥
    never true e n = cc
    never false e n = cc

    mine : RowIsIn picks widths id start end spans f
    mine = record { key = key; of = of; is_in = λ picked. absurd (never (picks key.pairs.items) picked fails) }

pub gathered_none : (picks : Picks) (widths : Widths) (id start end : ℕ) → Gathered picks widths id start end [] []
gathered_none picks widths id start end = record { rows = λ f c. absurd (lower.not_in f c); from = λ s d c i. absurd (lower.not_in s c); some = λ s c. absurd (lower.not_in s c) }

pub row_conflict_free : (picks : Picks) (widths : Widths) (id start end : ℕ) (spans : List Span) (f : Found) → RowIsIn picks widths id start end spans f → RowIsConflictFree picks widths id start end f
row_conflict_free picks widths id start end spans f r = record { key = r.key; of = r.of; conflict_free = λ picked. (r.is_in picked).conflict_free }

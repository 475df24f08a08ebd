-- Series before and behind a place.
use Rattle.std.proofs.Common.{◌≡◌, ◌≢◌, ◌⊎◌, inl, inr, ℕ, ℤ, Bool, true, false, ◌+◌, ◌-◌, ◌<◌, ◌≤◌, List, [], ◌∷◌, ◌++◌, length, map, reverse, refl, sym, ap, subst, ◌∙◌, slice_index_or, slice_set, arith}
use Rattle.std.specs.Prelude.{All, Option, None, Some, unwrap_or, take, cond, OnOk, OnErr, Result, Ok, Err}
use Rattle.std.proofs.lemmas.List.{append_assoc, append-nil, reverse-append, map-append, take_more, take_more_set, take_all, length-set, map-set, set-get_or}
use Rattle.std.specs.Cmp.{IsTotalOrder, on_total, then_total, nat_cmp_total, alike_right, tied_back}
use Rattle.std.specs.Cmp.Lexicographic.{lists_total}
use Rattle.std.specs.FinMap.{slice_cmp-IsAntisymmetric}
use Rattle.std.specs.List.Sorted.{IsStrictlySortedBy}
use Rattle.std.specs.Map.{keys_of, lookup}
use Rattle.std.specs.BTreeMap.{insert_entry, is_at}
use Rattle.std.specs.Ordering.{nat_cmp, ordering_reverse, is_eq, match_ordering}
use Rattle.std.specs.declared.cmp.Ordering.{Ordering}
use Rattle.std.specs.declared.cmp.Ordering.TheVariants.{Less, Equal, Greater}
use Rattle.std.proofs.lemmas.Map.Lookups.{exact_pairs, exact_unsigned}
use Rattle.row_key.specs.KeyOrder.{pair_cmp}
use Rattle.tsd_base.specs.Dots.{IsAboveAll}
use Rattle.tsd_base.specs.declared.kinds.Down.{Down}
use Rattle.span_merge.specs.KeptPoints.{Keeps, KeepsMore, Takes}
use Rattle.span_merge.specs.Spans.{Span, KeptSpan, kept_span, pairs_cmp, dots_of, added, KeepsSpans, TakesLater, HasAdded, AreInOrder}
use Rattle.span_merge.specs.declared.kept_points.Kept.{Kept}
use Rattle.span_merge.specs.Places.{spans_of, kept_at, MovesLast, LastIsAbove, LastIsNotAbove, LastHas, LastHasNot, Grows, HasPut, MayPut}
use Rattle.span_merge.specs.declared.series.Series.{Series}
use Rattle.span_merge.proofs.OrderLemmas.{AreBelow, AreAbove, insert_behind, lookup_behind, insert_before, lookup_before, below_last, above_first, sorted_insert, sorted_rest, sorted_front}

pair_total : IsTotalOrder pair_cmp
pair_total = then_total (on_total (λ (p : ℕ × ℕ). p.0) nat_cmp_total) (on_total (λ (p : ℕ × ℕ). p.1) nat_cmp_total)

pairs_total : IsTotalOrder pairs_cmp
pairs_total = lists_total pair_total

same_pairs : (a b : List (ℕ × ℕ)) → pairs_cmp a b ≡ Equal → a ≡ b
same_pairs = slice_cmp-IsAntisymmetric {R = pair_cmp} (exact_pairs nat_cmp nat_cmp exact_unsigned exact_unsigned)

-- ---- the place moves

-- moving the place on leaves the series as they are
pub same_forward : (before before2 behind behind2 : List Series) → MovesLast behind behind2 before before2 → spans_of before2 behind2 ≡ spans_of before behind
same_forward before before2 behind behind2 m =
    ap (λ l. map kept_span (l ++ reverse behind2)) m.is_last
    ∙ ap (map kept_span) (append_assoc before (m.series ∷ []) (reverse behind2))
    ∙ ap (λ l. map kept_span (before ++ l)) (sym (reverse-append behind2 (m.series ∷ [])))
    ∙ ap (λ l. map kept_span (before ++ reverse l)) (sym m.was_last)

-- moving the place back does too
pub same_back : (before before2 behind behind2 : List Series) → MovesLast before before2 behind behind2 → spans_of before2 behind2 ≡ spans_of before behind
same_back before before2 behind behind2 m = sym (same_forward before2 before behind2 behind (record { series = m.series; was_last = m.is_last; is_last = m.was_last }))

-- ---- adding at the place

last_cases : {X : Type 0} (list : List X) → (list ≡ []) ⊎ ((others : List X) × (s : X) × (list ≡ others ++ s ∷ []))
last_cases [] = inl refl
last_cases (x ∷ xs) = elim (last_cases xs) [
  | inl e ↦ inr ([], x, ap (λ l. x ∷ l) e)
  | inr t ↦ inr (x ∷ t.0, t.1, ap (λ l. x ∷ l) t.2)
]

span_last : (others : List Series) (s : Series) → map kept_span (others ++ s ∷ []) ≡ map kept_span others ++ kept_span s ∷ []
span_last others s = map-append kept_span others (s ∷ [])

abbrev put : List KeptSpan → List (ℕ × ℕ) → Kept → List KeptSpan
put es k v = insert_entry pairs_cmp es k v

-- the last series of a list
one_same : (e : KeptSpan) (k : List (ℕ × ℕ)) (v : Kept) → pairs_cmp k e.0 ≡ Equal → put (e ∷ []) k v ≡ (e.0, v) ∷ []
one_same e k v h = ap (λ r. match_ordering r ((k, v) ∷ e ∷ []) ((e.0, v) ∷ []) (e ∷ (k, v) ∷ [])) h

put_last : (others : List Series) (s new : Series) (k : List (ℕ × ℕ))
    → IsStrictlySortedBy pairs_cmp (keys_of (map kept_span (others ++ s ∷ [])))
    → pairs_cmp s.pairs.items k ≡ Equal
    → new.pairs.items ≡ s.pairs.items
    → map kept_span (others ++ new ∷ []) ≡ put (map kept_span (others ++ s ∷ [])) k new.kept
put_last others s new k o h p =
    span_last others new
    ∙ ap (λ e. map kept_span others ++ e ∷ []) (ap (λ x. (x, new.kept)) p)
    ∙ sym (ap (λ l. map kept_span others ++ l) (one_same (kept_span s) k new.kept (tied_back pairs_total s.pairs.items k h)))
    ∙ sym (insert_behind pairs_cmp k new.kept (map kept_span others) (kept_span s ∷ [])
    (below_last pairs_cmp k pairs_total (map kept_span others) (kept_span s) (λ x l. sym (alike_right pairs_total s.pairs.items k x h) ∙ l)
    (subst (λ l. IsStrictlySortedBy pairs_cmp (keys_of l)) (span_last others s) o)))
    ∙ sym (ap (λ l. put l k new.kept) (span_last others s))

-- a list up to its last series
cut_last : (list : List Series) (n : ℕ) (s : Series) → 0 < length list → n ≡ length list → s ≡ slice_index_or list (n - 1) s → list ≡ take (n - 1) list ++ s ∷ []
cut_last list n s some count is =
    let here : n - 1 < length list = omega (arith, some, count)
    in let all : length list ≤ (n - 1) + 1 = omega (arith, some, count)
    in sym (take_all ((n - 1) + 1) list all) ∙ take_more list (n - 1) s here ∙ ap (λ x. take (n - 1) list ++ x ∷ []) (sym is)

-- points went to the last series, which has these ids
pub put_at_last : (list : List Series) (n : ℕ) (s new : Series) (k : List (ℕ × ℕ))
    → IsStrictlySortedBy pairs_cmp (keys_of (map kept_span list)) → LastHas k list
    → 0 < length list → n ≡ length list → s ≡ slice_index_or list (n - 1) s
    → new.pairs.items ≡ s.pairs.items
    → map kept_span (slice_set list (n - 1) new) ≡ put (map kept_span list) k new.kept
put_at_last list n s new k o has some count is p =
    let here : n - 1 < length list = omega (arith, some, count)
    in let list_is = cut_last list n s some count is
    in let all_set : length (slice_set list (n - 1) new) ≤ (n - 1) + 1 = subst (λ m. m ≤ (n - 1) + 1) (sym (length-set list (n - 1) new)) (omega (arith, some, count))
    in let set_is : slice_set list (n - 1) new ≡ take (n - 1) list ++ new ∷ [] =
    sym (take_all ((n - 1) + 1) (slice_set list (n - 1) new) all_set) ∙ take_more_set list (n - 1) new here
    in ap (map kept_span) set_is
    ∙ put_last (take (n - 1) list) s new k (subst (λ l. IsStrictlySortedBy pairs_cmp (keys_of (map kept_span l))) list_is o) (has (take (n - 1) list) s list_is) p
    ∙ ap (λ l. put (map kept_span l) k new.kept) (sym list_is)

-- the last series was written again as it was
pub same_at_last : (list : List Series) (i : ℕ) (s new : Series) → s ≡ slice_index_or list i s
    → new.pairs.items ≡ s.pairs.items → new.kept ≡ s.kept
    → map kept_span (slice_set list i new) ≡ map kept_span list
same_at_last list i s new is p k =
    map-set kept_span list i new
    ∙ ap (slice_set (map kept_span list) i) ((λ j. (p j, k j)) ∙ ap kept_span is)
    ∙ sym (map-set kept_span list i (slice_index_or list i s))
    ∙ ap (map kept_span) (set-get_or list i s)

one_kept : (e : KeptSpan) (k : List (ℕ × ℕ)) → pairs_cmp k e.0 ≡ Equal → kept_at (e ∷ []) k ≡ Some e.1
one_kept e k h = ap (λ r. cond (is_eq r) (Some e.1) None) h

-- what is kept of the last series of a list, which has these ids
kept_last : (others : List Series) (s : Series) (k : List (ℕ × ℕ)) → IsStrictlySortedBy pairs_cmp (keys_of (map kept_span (others ++ s ∷ []))) → pairs_cmp s.pairs.items k ≡ Equal
    → kept_at (map kept_span (others ++ s ∷ [])) k ≡ Some s.kept
kept_last others s k o h =
    ap (λ l. kept_at l k) (span_last others s)
    ∙ lookup_behind pairs_cmp k (map kept_span others) (kept_span s ∷ [])
    (below_last pairs_cmp k pairs_total (map kept_span others) (kept_span s) (λ x l. sym (alike_right pairs_total s.pairs.items k x h) ∙ l)
    (subst (λ l. IsStrictlySortedBy pairs_cmp (keys_of l)) (span_last others s) o))
    ∙ one_kept (kept_span s) k (tied_back pairs_total s.pairs.items k h)

pub kept_at_last : (list : List Series) (n : ℕ) (s : Series) (k : List (ℕ × ℕ))
    → IsStrictlySortedBy pairs_cmp (keys_of (map kept_span list)) → LastHas k list
    → 0 < length list → n ≡ length list → s ≡ slice_index_or list (n - 1) s
    → kept_at (map kept_span list) k ≡ Some s.kept
kept_at_last list n s k o has some count is =
    let list_is = cut_last list n s some count is
    in ap (λ l. kept_at (map kept_span l) k) list_is
    ∙ kept_last (take (n - 1) list) s k (subst (λ l. IsStrictlySortedBy pairs_cmp (keys_of (map kept_span l))) list_is o) (has (take (n - 1) list) s list_is)

-- so points went to it
pub grown_at_last : (how : Option Down) (list : List Series) (n : ℕ) (s new : Series) (k : List (ℕ × ℕ)) (dots : List (ℕ × ℤ))
    → IsStrictlySortedBy pairs_cmp (keys_of (map kept_span list)) → LastHas k list
    → 0 < length list → n ≡ length list → s ≡ slice_index_or list (n - 1) s
    → new.pairs.items ≡ s.pairs.items → KeepsMore s.kept new.kept dots
    → HasPut how (map kept_span list) k dots (map kept_span (slice_set list (n - 1) new))
grown_at_last how list n s new k dots o has some count is p more = record {
  kept = new.kept;
  grows = subst (λ (w : Option Kept). Grows how w dots new.kept) (sym (kept_at_last list n s k o has some count is)) more;
  put = put_at_last list n s new k o has some count is p;
}

less_of : (r : Ordering) → r ≢ Greater → r ≢ Equal → r ≡ Less
less_of Less g e = refl
less_of Equal g e = absurd (e refl)
less_of Greater g e = absurd (g refl)

below_push : (k : List (ℕ × ℕ)) (es : List KeptSpan) (e : KeptSpan) → AreBelow pairs_cmp k es → pairs_cmp k e.0 ≡ Greater → AreBelow pairs_cmp k (es ++ e ∷ [])
below_push k [] e b h = (h, tt)
below_push k (x ∷ es) e b h = (b.0, below_push k es e b.1 h)

all_below : (list : List Series) (k : List (ℕ × ℕ)) → IsStrictlySortedBy pairs_cmp (keys_of (map kept_span list)) → LastIsNotAbove k list → LastHasNot k list → AreBelow pairs_cmp k (map kept_span list)
all_below list k o most has = elim (last_cases list) [
  | inl e ↦ subst (λ l. AreBelow pairs_cmp k (map kept_span l)) (sym e) tt
  | inr t ↦
      let s : Series = t.1
      in let less : pairs_cmp s.pairs.items k ≡ Less = less_of (pairs_cmp s.pairs.items k) (most t.0 s t.2) (has t.0 s t.2)
      in let sorted : IsStrictlySortedBy pairs_cmp (keys_of (map kept_span t.0 ++ kept_span s ∷ [])) =
      subst (λ l. IsStrictlySortedBy pairs_cmp (keys_of l)) (ap (map kept_span) t.2 ∙ span_last t.0 s) o
      in let below : AreBelow pairs_cmp k (map kept_span t.0) =
      below_last pairs_cmp k pairs_total (map kept_span t.0) (kept_span s) (λ x l. pairs_total.trans x s.pairs.items k l less) sorted
      in subst (AreBelow pairs_cmp k) (sym (ap (map kept_span) t.2 ∙ span_last t.0 s))
      (below_push k (map kept_span t.0) (kept_span s) below (pairs_total.antisymm k s.pairs.items ∙ ap ordering_reverse less))
]

-- a new series went behind the last one
pub new_behind_last : (how : Option Down) (list : List Series) (new : Series) (k : List (ℕ × ℕ)) (dots : List (ℕ × ℤ))
    → IsStrictlySortedBy pairs_cmp (keys_of (map kept_span list)) → LastIsNotAbove k list → LastHasNot k list
    → new.pairs.items ≡ k → Keeps how new.kept dots
    → HasPut how (map kept_span list) k dots (map kept_span (list ++ new ∷ []))
new_behind_last how list new k dots o most has p keeps = record {
  kept = new.kept;
  grows = subst (λ (w : Option Kept). Grows how w dots new.kept)
      (sym (ap (λ l. kept_at l k) (sym (append-nil (map kept_span list))) ∙ lookup_behind pairs_cmp k (map kept_span list) [] below)) keeps;
  put = span_last list new
      ∙ ap (λ e. map kept_span list ++ e ∷ []) (ap (λ x. (x, new.kept)) p)
      ∙ sym (insert_behind pairs_cmp k new.kept (map kept_span list) [] below)
      ∙ ap (λ l. put l k new.kept) (append-nil (map kept_span list));
}
  where
    below : AreBelow pairs_cmp k (map kept_span list)
    below = all_below list k o most has

-- ---- the whole list

spans_apart : (before behind : List Series) → spans_of before behind ≡ map kept_span before ++ map kept_span (reverse behind)
spans_apart before behind = map-append kept_span before (reverse behind)

keys_apart : (es fs : List KeptSpan) → keys_of (es ++ fs) ≡ keys_of es ++ keys_of fs
keys_apart es fs = map-append (λ (e : KeptSpan). e.0) es fs

sorted_apart : (before behind : List Series) → IsStrictlySortedBy pairs_cmp (keys_of (spans_of before behind)) → IsStrictlySortedBy pairs_cmp (keys_of (map kept_span before) ++ keys_of (map kept_span (reverse behind)))
sorted_apart before behind o =
    subst (IsStrictlySortedBy pairs_cmp) (ap keys_of (spans_apart before behind) ∙ keys_apart (map kept_span before) (map kept_span (reverse behind))) o

-- the series before the place are in order
pub sorted_before : (before behind : List Series) → IsStrictlySortedBy pairs_cmp (keys_of (spans_of before behind)) → IsStrictlySortedBy pairs_cmp (keys_of (map kept_span before))
sorted_before before behind o = sorted_front pairs_cmp (keys_of (map kept_span before)) (keys_of (map kept_span (reverse behind))) (sorted_apart before behind o)

all_above : (before behind : List Series) (k : List (ℕ × ℕ)) → IsStrictlySortedBy pairs_cmp (keys_of (spans_of before behind)) → LastIsAbove k behind → AreAbove pairs_cmp k (map kept_span (reverse behind))
all_above before behind k o above = elim (last_cases behind) [
  | inl e ↦ subst (λ l. AreAbove pairs_cmp k (map kept_span (reverse l))) (sym e) tt
  | inr t ↦
      let s : Series = t.1
      in let reversed : reverse behind ≡ s ∷ reverse t.0 = ap reverse t.2 ∙ reverse-append t.0 (s ∷ [])
      in let sorted : IsStrictlySortedBy pairs_cmp (keys_of (map kept_span (s ∷ reverse t.0))) =
      subst (λ l. IsStrictlySortedBy pairs_cmp (keys_of (map kept_span l))) reversed
      (sorted_rest pairs_cmp (keys_of (map kept_span before)) (keys_of (map kept_span (reverse behind))) (sorted_apart before behind o))
      in subst (λ l. AreAbove pairs_cmp k (map kept_span l)) (sym reversed)
      (above_first pairs_cmp k pairs_total (kept_span s) (map kept_span (reverse t.0)) (pairs_total.antisymm k s.pairs.items ∙ ap ordering_reverse (above t.0 s t.2)) sorted)
]

-- ---- all series

-- with no series behind the place, those before it are all
pub all_before : (start : List KeptSpan) (before behind : List Series) → spans_of before behind ≡ start → behind ≡ [] → map kept_span before ≡ start
all_before start before behind whole none =
    ap (map kept_span) (sym (append-nil before))
    ∙ ap (λ l. map kept_span (before ++ reverse l)) (sym none)
    ∙ whole

pub no_spans : AreInOrder (spans_of [] [])
unfolding IsStrictlySortedBy
no_spans = tt

-- ---- an answer

either_way : {A E P Q C : Type 0} (r : Result A E) → (P → C) → (Q → C) → OnOk r P → OnErr r Q → C
either_way (Ok x) f g p q = f p
either_way (Err e) f g p q = g q

-- what adding before the place does to the whole
module _ (start : List KeptSpan) (before new behind : List Series) (k : List (ℕ × ℕ)) (whole : spans_of before behind ≡ start) (in_order : AreInOrder start) (above : LastIsAbove k behind) where
  ordered : IsStrictlySortedBy pairs_cmp (keys_of (spans_of before behind))
  ordered = subst (λ l. IsStrictlySortedBy pairs_cmp (keys_of l)) (sym whole) in_order

  abbrev later : List KeptSpan
  later = map kept_span (reverse behind)

  above_all : AreAbove pairs_cmp k later
  above_all = all_above before behind k ordered above

  pub front_ordered : IsStrictlySortedBy pairs_cmp (keys_of (map kept_span before))
  front_ordered = sorted_before before behind ordered

  -- the series with these ids stands before the place, if anywhere
  pub front_kept : kept_at start k ≡ kept_at (map kept_span before) k
  front_kept = ap (λ l. kept_at l k) (sym whole ∙ spans_apart before behind) ∙ lookup_before pairs_cmp k (map kept_span before) later above_all

  pub front_may : (dots : List (ℕ × ℤ)) → MayPut start k dots → MayPut (map kept_span before) k dots
  front_may dots may kept found = may kept (front_kept ∙ found)

  pub has_put : (how : Option Down) (dots : List (ℕ × ℤ)) → HasPut how (map kept_span before) k dots (map kept_span new) → HasPut how start k dots (spans_of new behind)
  has_put how dots h = record {
    kept = h.kept;
    grows = subst (λ (w : Option Kept). Grows how w dots h.kept) (sym front_kept) h.grows;
    put = spans_apart new behind
        ∙ ap (λ l. l ++ later) h.put
        ∙ sym (insert_before pairs_cmp k h.kept (map kept_span before) later above_all)
        ∙ ap (λ l. put l k h.kept) (sym (spans_apart before behind) ∙ whole);
  }

  pub same_all : map kept_span new ≡ map kept_span before → spans_of new behind ≡ start
  same_all e = spans_apart new behind ∙ ap (λ l. l ++ later) e ∙ sym (spans_apart before behind) ∙ whole

  pub still_ordered : {A E : Type 0} (r : Result A E) (how : Option Down) (dots : List (ℕ × ℤ)) → OnOk r (HasPut how (map kept_span before) k dots (map kept_span new)) → OnErr r (map kept_span new ≡ map kept_span before) → AreInOrder (spans_of new behind)
  still_ordered r how dots =
      either_way r
      (λ p. let h = has_put how dots p in subst AreInOrder (sym h.put) (sorted_insert pairs_cmp k pairs_total h.kept start in_order))
      (λ q. subst AreInOrder (sym (same_all q)) in_order)

-- ---- the points of what is kept

abbrev IsKept : Option Down → KeptSpan → Span → Type 0
IsKept how k s = (k.0 ≡ s.0) × Keeps how k.1 s.1

-- what is found of a series is kept of its points
abbrev Agree : Option Down → Option Kept → Option (List (ℕ × ℤ)) → Type 0
Agree how None None = Unit {0}
Agree how None (Some points) = ⊥
Agree how (Some kept) None = ⊥
Agree how (Some kept) (Some points) = Keeps how kept points

module _ (how : Option Down) (pairs : List (ℕ × ℕ)) where
  found : (kept : List KeptSpan) (spans : List Span) → KeepsSpans how kept spans → Agree how (kept_at kept pairs) (lookup (is_at (pairs_cmp pairs)) spans)
  found [] [] z = tt
  found [] (s ∷ spans) z = absurd z
  found (k ∷ kept) [] z = absurd z
  found (k ∷ kept) (s ∷ spans) z =
      subst (λ (x : List (ℕ × ℕ)). Agree how (kept_at (k ∷ kept) pairs) (cond (is_eq (pairs_cmp pairs x)) (Some s.1) (lookup (is_at (pairs_cmp pairs)) spans))) z.0.0
      (at (is_eq (pairs_cmp pairs k.0)) (found kept spans z.1))
    where
      at : (b : Bool) → Agree how (kept_at kept pairs) (lookup (is_at (pairs_cmp pairs)) spans) → Agree how (cond b (Some k.1) (kept_at kept pairs)) (cond b (Some s.1) (lookup (is_at (pairs_cmp pairs)) spans))
      at true rest = z.0.1
      at false rest = rest

  placed : (v : Kept) (points : List (ℕ × ℤ)) → Keeps how v points → (kept : List KeptSpan) (spans : List Span) → KeepsSpans how kept spans → KeepsSpans how (insert_entry pairs_cmp kept pairs v) (insert_entry pairs_cmp spans pairs points)
  placed v points keeps [] [] z = ((refl, keeps), tt)
  placed v points keeps [] (s ∷ spans) z = absurd z
  placed v points keeps (k ∷ kept) [] z = absurd z
  placed v points keeps (k ∷ kept) (s ∷ spans) z =
      subst (λ (x : List (ℕ × ℕ)). KeepsSpans how (put (k ∷ kept) pairs v) (match_ordering (pairs_cmp pairs x) ((pairs, points) ∷ s ∷ spans) ((s.0, points) ∷ spans) (s ∷ insert_entry pairs_cmp spans pairs points))) z.0.0
      (at (pairs_cmp pairs k.0) (placed v points keeps kept spans z.1))
    where
      at : (r : Ordering) → KeepsSpans how (insert_entry pairs_cmp kept pairs v) (insert_entry pairs_cmp spans pairs points)
          → KeepsSpans how (match_ordering r ((pairs, v) ∷ k ∷ kept) ((k.0, v) ∷ kept) (k ∷ insert_entry pairs_cmp kept pairs v)) (match_ordering r ((pairs, points) ∷ s ∷ spans) ((s.0, points) ∷ spans) (s ∷ insert_entry pairs_cmp spans pairs points))
      at Less rest = ((refl, keeps), z)
      at Equal rest = ((z.0.0, keeps), z.1)
      at Greater rest = (z.0, rest)

  pub takes : (kept : List KeptSpan) (dots : List (ℕ × ℤ)) → TakesLater how kept pairs dots → MayPut kept pairs dots
  takes kept dots t v is = at (lookup (is_at (pairs_cmp pairs)) t.spans) t.above (subst (λ (o : Option Kept). Agree how o (lookup (is_at (pairs_cmp pairs)) t.spans)) is (found kept t.spans t.keeps))
    where
      at : (o : Option (List (ℕ × ℤ))) → All (λ d. IsAboveAll d.0 (unwrap_or o [])) dots → Agree how (Some v) o → Takes v dots
      at None above agree = absurd agree
      at (Some points) above agree = record { how = how; points = points; keeps = agree; above = above }

  pub has_added : (old new : List KeptSpan) (dots : List (ℕ × ℤ)) → HasPut how old pairs dots new → HasAdded how old pairs dots new
  has_added old new dots h spans keeps above =
      subst (λ (l : List KeptSpan). KeepsSpans how l (added spans pairs dots)) (sym h.put)
      (placed h.kept (dots_of spans pairs ++ dots) (at (kept_at old pairs) (lookup (is_at (pairs_cmp pairs)) spans) h.grows above (found old spans keeps)) old spans keeps)
    where
      at : (k : Option Kept) (o : Option (List (ℕ × ℤ))) → Grows how k dots h.kept → All (λ d. IsAboveAll d.0 (unwrap_or o [])) dots → Agree how k o → Keeps how h.kept (unwrap_or o [] ++ dots)
      at None None grows above agree = grows
      at None (Some points) grows above agree = absurd agree
      at (Some v) None grows above agree = absurd agree
      at (Some v) (Some points) grows above agree = grows how points agree above

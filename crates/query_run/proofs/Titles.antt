-- Series in the order of their tags.
use Rattle.std.proofs.Common.{◌≡◌, ◌⊎◌, inl, inr, ℕ, ℤ, ◌+◌, ◌≤◌, Bool, true, false, cond, List, [], ◌∷◌, ◌++◌, length, get_or, refl, sym, ap, subst, ◌∙◌, arith, append_assoc}
use Rattle.std.specs.Prelude.{AllPairs, Contains, Option, map, sum_by}
use Rattle.std.specs.List.{AllZip, AllByRecursion}
use Rattle.std.specs.List.Sorted.{IsPermutation, IsSortedBy, IsStrictlySortedBy}
use Rattle.std.specs.Map.{keys_of}
use Rattle.std.specs.declared.cmp.Ordering.{Ordering}
use Rattle.std.specs.declared.cmp.Ordering.TheVariants.{Less, Equal, Greater}
use Rattle.std.specs.Ordering.{is_lt, ordering_reverse}
use Rattle.std.specs.Cmp.{tied_itself, IsTotalOrder, then_total, on_total, nat_cmp_total}
use Rattle.std.specs.Cmp.Lexicographic.{lists_total}
use Rattle.std.proofs.lemmas.List.{append-nil}
use Rattle.std.proofs.lemmas.List.Sums.{sum_by-cons}
use Rattle.std.proofs.lemmas.List.MinMax.{ranks_by}
use Rattle.std.proofs.lemmas.List.Sorted.{sorted_far, sum_by-IsPermutation, Contains-permutation, IsPermutation-sym}
use Rattle.tsd_base.specs.TagList.{Pair, tags_cmp, is_same_tags}
use Rattle.tsd_base.specs.TagOrder.{tags_cmp_exact, tags_cmp_total, tags_same, is_same_tags_equiv}
use Rattle.cell_model.specs.Readings.{Named}
use Rattle.tsd_base.specs.declared.kinds.Down.{Down}
use Rattle.span_merge.specs.KeptPoints.{Keeps}
use Rattle.span_merge.specs.Spans.{Span, KeptSpan, kept_span, pairs_cmp, KeepsSpans, AreInOrder}
use Rattle.span_merge.specs.declared.kept_points.Kept.{Kept}
use Rattle.span_merge.specs.declared.series.Series as by_ids
use Rattle.series_groups.specs.declared.named_series.Series.{Series}
use Rattle.series_groups.specs.NamedSeries as named
use Rattle.series_groups.specs.KeptSeries.{PointsOf, with_points, all_with_points}
use Rattle.metric_scan.specs.RowNames.{Names}
use Rattle.metric_scan.specs.RowTags.{OneToOne, ArePairs}
use Rattle.query_run.specs.SeriesTags.{IsTitled, IsRenamed, TitlesKept, CanTitle}
use Rattle.query_run.proofs.Lower as lower
use Rattle.metric_scan.proofs.TagNames.{zip_push, zip_left, zip_right, same_ids}

-- ---- at most one of each

module _ {X : Type 0} (key : X → List Pair) where
  abbrev Differ : X → X → Type 0
  Differ a b = key a ≡ key b → ⊥

  count_of : List Pair → X → ℕ
  count_of k x = cond (is_same_tags (key x) k) 1 0

  is_one : (k : List Pair) (x : X) → key x ≡ k → count_of k x ≡ 1
  unfolding count_of
  is_one k x e = ap (λ l. cond (is_same_tags (key x) l) 1 0) (sym e) ∙ ap (λ b. cond b 1 0) (is_same_tags_equiv.refl (key x))

  is_same_or : (k : List Pair) (x : X) → (key x ≡ k) ⊎ (◌≡◌ {A = ℕ} (count_of k x) 0)
  unfolding count_of
  is_same_or k x = at (is_same_tags (key x) k) refl
    where
      at : (b : Bool) → is_same_tags (key x) k ≡ b → (key x ≡ k) ⊎ (◌≡◌ {A = ℕ} (cond (is_same_tags (key x) k) 1 0) 0)
      at true e = inl (tags_same (key x) k e)
      at false e = inr (ap (λ b. cond b 1 0) e)

  none_of : (k : List Pair) (xs : List X) → ((x : X) → Contains xs x → key x ≡ k → ⊥) → sum_by (count_of k) xs ≡ 0
  none_of k [] h = refl
  none_of k (x ∷ xs) h =
      let rest = none_of k xs (λ y c. h y (lower.there x y xs c)) in
      let here : count_of k x ≡ 0 = elim (is_same_or k x) [ inl e ↦ absurd (h x (lower.here x xs) e) | inr z ↦ z ] in
      let all = sum_by-cons (count_of k) x xs in
      omega (arith, rest, here, all)

  at_most_one : (k : List Pair) (xs : List X) → AllPairs Differ xs → sum_by (count_of k) xs ≤ 1
  at_most_one k [] up = omega arith
  at_most_one k (x ∷ xs) up =
      let all = sum_by-cons (count_of k) x xs in
      elim (is_same_or k x) [
        | inl e ↦
            let one = is_one k x e in
            let rest = none_of k xs (λ y c f. lower.pairs_in Differ x y xs up c (e ∙ sym f)) in
            omega (arith, all, one, rest)
        | inr z ↦ (let rest = at_most_one k xs (lower.pairs_tail Differ x xs up) in omega (arith, all, z, rest))
      ]

  some_of : (k : List Pair) (xs : List X) (x : X) → Contains xs x → key x ≡ k → 1 ≤ sum_by (count_of k) xs
  some_of k [] x c e = absurd (lower.not_in x c)
  some_of k (y ∷ xs) x c e =
      let all = sum_by-cons (count_of k) y xs in
      elim (lower.split y x xs c) [
        | inl same ↦ (let one = is_one k y (ap key same ∙ e) in omega (arith, all, one))
        | inr later ↦ (let rest = some_of k xs x later e in omega (arith, all, rest))
      ]

  differ_from : (xs : List X) → ((k : List Pair) → sum_by (count_of k) xs ≤ 1) → AllPairs Differ xs
  differ_from [] h = λ i j d lt within. absurd (omega (arith, within))
  differ_from (x ∷ xs) h =
      lower.pairs_cons Differ x xs
      (λ y c same.
      let all = sum_by-cons (count_of (key x)) x xs in
      let most = h (key x) in
      let one = is_one (key x) x refl in
      let rest = some_of (key x) xs y c (sym same) in
      omega (arith, all, most, one, rest))
      (differ_from xs (λ k. let all = sum_by-cons (count_of k) x xs in let most = h k in omega (arith, all, most)))

  pub still_differ : (xs ys : List X) → IsPermutation xs ys → AllPairs Differ xs → AllPairs Differ ys
  still_differ xs ys p up = differ_from ys (λ k. let most = at_most_one k xs up in let same = sum_by-IsPermutation (count_of k) xs ys p in omega (arith, most, same))

-- ---- sorted by tags

pub tags_rise : (xs : List Series) → IsSortedBy (λ (s t : Series). is_lt (tags_cmp s.tags t.tags)) xs → AllPairs (λ (s t : Series). s.tags ≡ t.tags → ⊥) xs → AllPairs (λ (s t : Series). tags_cmp s.tags t.tags ≡ Less) xs
tags_rise xs up differ i j d lt within =
    let far = sorted_far (λ (s t : Series). is_lt (tags_cmp s.tags t.tags)) (ranks_by tags_cmp_total (λ (s : Series). s.tags)) xs up i j d (omega (arith, lt)) within in
    let other = differ i j d lt within in
    at (tags_cmp (get_or xs i d).tags (get_or xs j d).tags) refl (ap is_lt (sym (tags_cmp_total.antisymm (get_or xs j d).tags (get_or xs i d).tags)) ∙ far) other
  where
    at : (r : Ordering) → tags_cmp (get_or xs i d).tags (get_or xs j d).tags ≡ r → is_lt (ordering_reverse (tags_cmp (get_or xs i d).tags (get_or xs j d).tags)) ≡ false → ((get_or xs i d).tags ≡ (get_or xs j d).tags → ⊥)
        → tags_cmp (get_or xs i d).tags (get_or xs j d).tags ≡ Less
    at Less e f o = e
    at Equal e f o = absurd (o (tags_cmp_exact _ _ e))
    at Greater e f o = absurd (impossible (sym (ap (λ r. is_lt (ordering_reverse r)) e) ∙ f))
      where
        impossible : true ≡ false → ⊥
        impossible x = cc

-- ---- series of ids and their names

pub titled_more : (names : Names) (whole done rest more : List by_ids.Series) (s : by_ids.Series) (series longer : List Series) (t : Series) → whole ≡ done ++ rest → rest ≡ s ∷ more → AllZip (IsRenamed names) done series
    → Named names s.pairs.items t.tags → t.kept ≡ s.kept → longer ≡ series ++ t ∷ []
    → (whole ≡ (done ++ s ∷ []) ++ more) × AllZip (IsRenamed names) (done ++ s ∷ []) longer
titled_more names whole done rest more s series longer t is rest_is z tags kept longer_is = (
  is ∙ ap (λ (l : List by_ids.Series). done ++ l) rest_is ∙ sym (append_assoc done (s ∷ []) more),
  subst (AllZip (IsRenamed names) (done ++ s ∷ [])) (sym longer_is) (zip_push (IsRenamed names) done series s t z (tags, kept)),
)

none_left : {X : Type 0} (xs : List X) → length xs ≡ 0 → xs ≡ []
none_left [] e = refl
none_left (x ∷ xs) e = absurd (omega (arith, e))

pub titled_all : (names : Names) (whole done rest : List by_ids.Series) (series : List Series) → whole ≡ done ++ rest → length rest ≡ 0 → AllZip (IsRenamed names) done series → AllZip (IsRenamed names) whole series
titled_all names whole done rest series is none z =
    subst (λ (l : List by_ids.Series). AllZip (IsRenamed names) l series) (sym (is ∙ ap (λ (l : List by_ids.Series). done ++ l) (none_left rest none) ∙ append-nil done)) z

-- a series that is kept has these points
abbrev IsKept : Option Down → KeptSpan → Span → Type 0
IsKept how k s = (k.0 ≡ s.0) × Keeps how k.1 s.1

pub pairs_of_each : (how : Option Down) (names : Names) (spans : List Span) (kept : List KeptSpan) (list : List by_ids.Series) → KeepsSpans how kept spans → CanTitle names spans → map kept_span list ≡ kept → (s : by_ids.Series) → Contains list s → ArePairs names s.pairs.items
pairs_of_each how names spans kept list keeps can is s c =
    let w = zip_left (IsKept how) kept spans (kept_span s) keeps (subst (λ (l : List KeptSpan). Contains l (kept_span s)) is (lower.in_map kept_span list s c)) in
    subst (ArePairs names) (sym w.2.0) (can.each w.0 w.1)

all_rec : (P : List (ℕ × ℕ) → Type 0) (list : List by_ids.Series) → AllByRecursion P (keys_of (map kept_span list)) → (b : by_ids.Series) → Contains list b → P b.pairs.items
all_rec P [] all b c = absurd (lower.not_in b c)
all_rec P (a ∷ list) all b c = elim (lower.split a b list c) [ inl same ↦ subst (λ (x : by_ids.Series). P x.pairs.items) same all.0 | inr later ↦ all_rec P list all.1 b later ]

pub pairs_total : IsTotalOrder pairs_cmp
pairs_total = lists_total (then_total (on_total (λ (p : ℕ × ℕ). p.0) nat_cmp_total) (on_total (λ (p : ℕ × ℕ). p.1) nat_cmp_total))

less_not_same : (a b : List (ℕ × ℕ)) → a ≡ b → pairs_cmp a b ≡ Less → ⊥
less_not_same a b same e =
    let t : pairs_cmp a b ≡ Equal = subst (λ x. pairs_cmp a x ≡ Equal) same (tied_itself pairs_total a) in cc

abbrev HaveOthers : Series → Series → Type 0
HaveOthers s t = s.tags ≡ t.tags → ⊥

series_differ : (names : Names) (list : List by_ids.Series) (series : List Series) → OneToOne names → ((s : by_ids.Series) → Contains list s → ArePairs names s.pairs.items) → IsStrictlySortedBy pairs_cmp (keys_of (map kept_span list))
    → AllZip (IsRenamed names) list series → AllPairs HaveOthers series
unfolding IsStrictlySortedBy
series_differ names [] [] one are up z = λ i j d lt within. absurd (omega (arith, within))
series_differ names [] (t ∷ series) one are up z = absurd z
series_differ names (a ∷ list) [] one are up z = absurd z
series_differ names (a ∷ list) (t ∷ series) one are up z =
    lower.pairs_cons HaveOthers t series
    (λ u c same.
    let w = zip_right (IsRenamed names) list series u z.1 c in
    let ids = same_ids names a.pairs.items w.0.pairs.items t.tags u.tags one (are a (lower.here a list)).rising (are w.0 (lower.there a w.0 list w.1)).rising z.0.0 w.2.0 same in
    less_not_same a.pairs.items w.0.pairs.items ids (all_rec (λ y. pairs_cmp a.pairs.items y ≡ Less) list up.0 w.0 w.1))
    (series_differ names list series one (λ s c. are s (lower.there a s list c)) up.1 z.1)

-- ---- the points of series by their tags

-- the series with the points of those by ids
abbrev named_of : List Series → List Span → List named.Series
named_of [] spans = []
named_of (t ∷ series) [] = []
named_of (t ∷ series) (s ∷ spans) = record { tags = t.tags; dots = s.1 } ∷ named_of series spans

-- what is kept of the series is of these points
abbrev Fits : Option Down → Series → named.Series → Type 0
Fits how t n = (n.tags ≡ t.tags) × Keeps how t.kept n.dots

abbrev Stands : Names → Span → named.Series → Type 0
Stands names s n = IsTitled names s.0 s.1 n

module _ (how : Option Down) (names : Names) where
  all_fit : (list : List by_ids.Series) (series : List Series) (spans : List Span) → AllZip (IsRenamed names) list series → KeepsSpans how (map kept_span list) spans → AllZip (Fits how) series (named_of series spans)
  all_fit [] [] spans z k = tt
  all_fit [] (t ∷ series) spans z k = absurd z
  all_fit (a ∷ list) [] spans z k = tt
  all_fit (a ∷ list) (t ∷ series) [] z k = absurd k
  all_fit (a ∷ list) (t ∷ series) (s ∷ spans) z k = ((refl, subst (λ (v : Kept). Keeps how v s.1) (sym z.0.1) k.0.1), all_fit list series spans z.1 k.1)

  all_stand : (list : List by_ids.Series) (series : List Series) (spans : List Span) → AllZip (IsRenamed names) list series → KeepsSpans how (map kept_span list) spans → AllZip (Stands names) spans (named_of series spans)
  all_stand [] [] [] z k = tt
  all_stand [] [] (s ∷ spans) z k = absurd k
  all_stand [] (t ∷ series) spans z k = absurd z
  all_stand (a ∷ list) [] spans z k = absurd z
  all_stand (a ∷ list) (t ∷ series) [] z k = absurd k
  all_stand (a ∷ list) (t ∷ series) (s ∷ spans) z k = (record { tags = subst (λ (l : List (ℕ × ℕ)). Named names l t.tags) k.0.0 z.0.0; dots_are = refl }, all_stand list series spans z.1 k.1)

abbrev NamedDiffer : named.Series → named.Series → Type 0
NamedDiffer m n = m.tags ≡ n.tags → ⊥

named_differ : (how : Option Down) (series : List Series) (all : List named.Series) → AllZip (Fits how) series all → AllPairs HaveOthers series → AllPairs NamedDiffer all
named_differ how series [] z up = λ i j d lt within. absurd (omega (arith, within))
named_differ how [] (n ∷ all) z up = absurd z
named_differ how (t ∷ series) (n ∷ all) z up =
    lower.pairs_cons NamedDiffer n all
    (λ u c same. let w = zip_right (Fits how) series all u z.1 c in lower.pairs_in HaveOthers t w.0 series up w.1 (sym z.0.0 ∙ same ∙ w.2.0))
    (named_differ how series all z.1 (lower.pairs_tail HaveOthers t series up))

abbrev points_by : List named.Series → List Pair → List (ℕ × ℤ)
points_by [] tags = []
points_by (n ∷ all) tags = cond (is_same_tags n.tags tags) n.dots (points_by all tags)

not_same : (s t : List Pair) → (s ≡ t → ⊥) → is_same_tags s t ≡ false
not_same s t other = at (is_same_tags s t) refl
  where
    at : (b : Bool) → is_same_tags s t ≡ b → is_same_tags s t ≡ false
    at true e = absurd (other (tags_same s t e))
    at false e = e

own_points : (all : List named.Series) → AllPairs NamedDiffer all → (n : named.Series) → Contains all n → points_by all n.tags ≡ n.dots
own_points [] up n c = absurd (lower.not_in n c)
own_points (m ∷ all) up n c = elim (lower.split m n all c) [
  | inl same ↦ ap (λ b. cond b m.dots (points_by all n.tags)) (ap (λ (x : named.Series). is_same_tags m.tags x.tags) (sym same) ∙ is_same_tags_equiv.refl m.tags) ∙ ap (λ (x : named.Series). x.dots) same
  | inr later ↦ ap (λ b. cond b m.dots (points_by all n.tags)) (not_same m.tags n.tags (lower.pairs_in NamedDiffer m n all up later)) ∙ own_points all (lower.pairs_tail NamedDiffer m all up) n later
]

abbrev AreLess : Series → Series → Type 0
AreLess s t = tags_cmp s.tags t.tags ≡ Less

abbrev NamedLess : named.Series → named.Series → Type 0
NamedLess s t = tags_cmp s.tags t.tags ≡ Less

rise_with : (of : PointsOf) (xs : List Series) → AllPairs AreLess xs → AllPairs NamedLess (all_with_points of xs)
rise_with of [] up = λ i j d lt within. absurd (omega (arith, within))
rise_with of (x ∷ xs) up =
    lower.pairs_cons NamedLess (with_points of x) (all_with_points of xs)
    (λ t c.
    let w = lower.map_in (with_points of) xs t c in
    subst (λ (u : named.Series). tags_cmp x.tags u.tags ≡ Less) w.2 (lower.pairs_in AreLess x w.0 xs up w.1))
    (rise_with of xs (lower.pairs_tail AreLess x xs up))

-- the sorted series with the points of all
module _ (how : Option Down) (names : Names) (spans : List Span) (all : List named.Series) (series sorted : List Series) (fit : AllZip (Fits how) series all) (stand : AllZip (Stands names) spans all) (p : IsPermutation series sorted) (differ : AllPairs HaveOthers series) where
  own : (n : named.Series) → Contains all n → points_by all n.tags ≡ n.dots
  own n c = own_points all (named_differ how series all fit differ) n c

  fitting : (t : Series) → Contains sorted t → (n : named.Series) × Contains all n × Fits how t n
  fitting t c = zip_left (Fits how) series all t fit (Contains-permutation sorted series t (IsPermutation-sym series sorted p) c)

  at_tags : (s : Span) (n : named.Series) (t : Series) → Contains all n → n.tags ≡ t.tags → Stands names s n → IsTitled names s.0 s.1 (with_points (points_by all) t)
  at_tags s n t c same titled = record { tags = subst (Named names s.0) same titled.tags; dots_are = sym (ap (points_by all) same) ∙ own n c ∙ titled.dots_are }

  sorted_titles : IsSortedBy (λ (s t : Series). is_lt (tags_cmp s.tags t.tags)) sorted → TitlesKept how names spans sorted
  sorted_titles up = record {
    of = points_by all;
    keeps = lower.all_of (λ (t : Series). Keeps how t.kept (points_by all t.tags)) sorted (λ t c. let w = fitting t c in subst (Keeps how t.kept) (sym (own w.0 w.1) ∙ ap (points_by all) w.2.0) w.2.1);
    titles = record {
      rising = rise_with (points_by all) sorted (tags_rise sorted up (still_differ (λ (s : Series). s.tags) series sorted p differ));
      each = λ x c.
          let m = lower.map_in (with_points (points_by all)) sorted x c in
          let w = fitting m.0 m.1 in
          let v = zip_right (Stands names) spans all w.0 stand w.1 in
          (v.0, v.1, subst (IsTitled names v.0.0 v.0.1) m.2 (at_tags v.0 w.0 m.0 w.1 w.2.0 v.2));
      all = λ s c.
          let w = zip_left (Stands names) spans all s stand c in
          let v = zip_right (Fits how) series all w.0 fit w.1 in
          (with_points (points_by all) v.0, lower.in_map (with_points (points_by all)) sorted v.0 (Contains-permutation series sorted v.0 p v.1), at_tags s w.0 v.0 w.1 v.2.0 w.2);
    };
  }

-- the series by their names, sorted
pub titles_kept : (how : Option Down) (names : Names) (spans : List Span) (kept : List KeptSpan) (list : List by_ids.Series) (series sorted : List Series) → KeepsSpans how kept spans → CanTitle names spans → AreInOrder kept → map kept_span list ≡ kept → AllZip (IsRenamed names) list series
    → IsPermutation series sorted → IsSortedBy (λ (s t : Series). is_lt (tags_cmp s.tags t.tags)) sorted → TitlesKept how names spans sorted
titles_kept how names spans kept list series sorted keeps can in_order is z p up =
    let here : KeepsSpans how (map kept_span list) spans = subst (λ (l : List KeptSpan). KeepsSpans how l spans) (sym is) keeps in
    let differ = series_differ names list series can.one (pairs_of_each how names spans kept list keeps can is) (subst (λ (l : List KeptSpan). IsStrictlySortedBy pairs_cmp (keys_of l)) (sym is) in_order) z in
    sorted_titles how names spans (named_of series spans) series sorted (all_fit how names list series spans z here) (all_stand how names list series spans z here) p differ up

-- Lines in the order of their tags.
use Rattle.std.proofs.Common.{◌≡◌, inl, inr, ℕ, false, List, [], ◌∷◌, ◌++◌, take, drop, map, get_or, refl, sym, ap, subst, ◌∙◌, arith, append_assoc}
use Rattle.std.specs.Prelude.{AllPairs, Contains}
use Rattle.std.specs.List.{AllZip, AllByRecursion}
use Rattle.std.specs.List.Sorted.{IsPermutation, IsSortedBy, IsStrictlySortedBy}
use Rattle.std.specs.Map.{keys_of}
use Rattle.std.specs.declared.cmp.Ordering.{Ordering}
use Rattle.std.specs.declared.cmp.Ordering.TheVariants.{Less, Equal, Greater}
use Rattle.std.specs.Ordering.{is_lt, ordering_reverse}
use Rattle.std.specs.Cmp.{tied_itself}
use Rattle.std.proofs.lemmas.List.{take-append-drop}
use Rattle.std.proofs.lemmas.List.Elements.{Contains-append_left}
use Rattle.std.proofs.lemmas.List.MinMax.{ranks_by}
use Rattle.std.proofs.lemmas.List.Sorted.{sorted_far}
use Rattle.list_lemmas.proofs.ListMembers.{here, there, split, not_in, map_in, pairs_in, pairs_tail}
use Rattle.list_lemmas.proofs.ListParts.{pairs_cons}
use Rattle.tsd_base.specs.TagList.{Pair, tags_cmp}
use Rattle.tsd_base.specs.TagOrder.{tags_cmp_exact, tags_cmp_total}
use Rattle.row_key.specs.declared.widths.Widths.{Widths}
use Rattle.span_merge.specs.Spans.{pairs_cmp}
use Rattle.metric_scan.specs.RowNames.{Names}
use Rattle.metric_scan.specs.RowTags.{OneToOne}
use Rattle.query_run.proofs.WalkLemmas.{same_ids, still_differ, zip_push, zip_right}
use Rattle.series_meta.specs.PairsOrder.{pairs_cmp_total}
use Rattle.series_meta.specs.SeriesLines.{CanTell, IsLine}
use Rattle.series_meta.specs.declared.meta_answers.Line.{Line}

-- the ids of a series, and its count
abbrev pub Entry : Type 0
Entry = List (ℕ × ℕ) × ℕ

-- ---- one line more

pub lines_more : (R : Entry → Line → Type 0) (whole done rest more : List Entry) (e : Entry) (lines longer : List Line) (line : Line) → whole ≡ done ++ rest → rest ≡ e ∷ more → AllZip R done lines → R e line → longer ≡ lines ++ line ∷ []
    → (whole ≡ (done ++ e ∷ []) ++ more) × AllZip R (done ++ e ∷ []) longer
lines_more R whole done rest more e lines longer line is rest_is z r longer_is = (
  is ∙ ap (λ (l : List Entry). done ++ l) rest_is ∙ sym (append_assoc done (e ∷ []) more),
  subst (AllZip R (done ++ e ∷ [])) (sym longer_is) (zip_push R done lines e line z r),
)

-- ---- each has tags of its own

all_rec : (P : List (ℕ × ℕ) → Type 0) (list : List Entry) → AllByRecursion P (keys_of list) → (e : Entry) → Contains list e → P e.0
all_rec P [] all e c = absurd (not_in e c)
all_rec P (a ∷ list) all e c = elim (split a e list c) [ inl same ↦ subst (λ (x : Entry). P x.0) same all.0 | inr later ↦ all_rec P list all.1 e later ]

less_not_same : (a b : List (ℕ × ℕ)) → a ≡ b → pairs_cmp a b ≡ Less → ⊥
less_not_same a b same e = let t : pairs_cmp a b ≡ Equal = subst (λ x. pairs_cmp a x ≡ Equal) same (tied_itself pairs_cmp_total a) in cc

abbrev pub HaveOthers : Line → Line → Type 0
HaveOthers s t = s.tags ≡ t.tags → ⊥

pub lines_differ : (names : Names) (w : Widths) (metric : ℕ) (list : List Entry) (lines : List Line) → OneToOne names → ((e : Entry) → Contains list e → CanTell names w metric e.0) → IsStrictlySortedBy pairs_cmp (keys_of list) → AllZip (IsLine names w metric) list lines → AllPairs HaveOthers lines
unfolding IsStrictlySortedBy
lines_differ names w metric [] [] one can up z = λ i j d lt within. absurd (omega (arith, within))
lines_differ names w metric [] (t ∷ lines) one can up z = absurd z
lines_differ names w metric (a ∷ list) [] one can up z = absurd z
lines_differ names w metric (a ∷ list) (t ∷ lines) one can up z =
    pairs_cons HaveOthers t lines
    (λ u c same.
    let x = zip_right (IsLine names w metric) list lines u z.1 c in
    let ids = same_ids names a.0 x.0.0 t.tags u.tags one (can a (here a list)).1.rising (can x.0 (there a x.0 list x.1)).1.rising z.0.tags x.2.tags same in
    less_not_same a.0 x.0.0 ids (all_rec (λ y. pairs_cmp a.0 y ≡ Less) list up.0 x.0 x.1))
    (lines_differ names w metric list lines one (λ e c. can e (there a e list c)) up.1 z.1)

-- ---- sorted

abbrev AreLess : Line → Line → Type 0
AreLess s t = tags_cmp s.tags t.tags ≡ Less

ranked : (s t : List Pair) → is_lt (ordering_reverse (tags_cmp s t)) ≡ false → (s ≡ t → ⊥) → tags_cmp s t ≡ Less
ranked s t far other = at (tags_cmp s t) refl far
  where
    at : (r : Ordering) → tags_cmp s t ≡ r → is_lt (ordering_reverse r) ≡ false → tags_cmp s t ≡ Less
    at Less e f = e
    at Equal e f = absurd (other (tags_cmp_exact s t e))
    at Greater e f = cc

lines_rise : (xs : List Line) → IsSortedBy (λ (s t : Line). is_lt (tags_cmp s.tags t.tags)) xs → AllPairs HaveOthers xs → AllPairs AreLess xs
lines_rise xs up differ i j d lt within =
    let far = sorted_far (λ (s t : Line). is_lt (tags_cmp s.tags t.tags)) (ranks_by tags_cmp_total (λ (s : Line). s.tags)) xs up i j d (omega (arith, lt)) within in
    ranked (get_or xs i d).tags (get_or xs j d).tags (ap is_lt (sym (tags_cmp_total.antisymm (get_or xs j d).tags (get_or xs i d).tags)) ∙ far) (differ i j d lt within)

abbrev pub tags_told : List Line → List (List Pair)
tags_told lines = map (λ line. line.tags) lines

tags_rise : (xs : List Line) → AllPairs AreLess xs → AllPairs (λ s t. tags_cmp s t ≡ Less) (tags_told xs)
tags_rise [] up = λ i j d lt within. absurd (omega (arith, within))
tags_rise (x ∷ xs) up =
    pairs_cons (λ s t. tags_cmp s t ≡ Less) x.tags (tags_told xs)
    (λ t c.
    let w = map_in (λ (l : Line). l.tags) xs t c in
    subst (λ (u : List Pair). tags_cmp x.tags u ≡ Less) w.2 (pairs_in AreLess x w.0 xs up w.1))
    (tags_rise xs (pairs_tail AreLess x xs up))

pub sorted_rise : (lines sorted : List Line) → AllPairs HaveOthers lines → IsPermutation lines sorted → IsSortedBy (λ (s t : Line). is_lt (tags_cmp s.tags t.tags)) sorted → AllPairs (λ s t. tags_cmp s t ≡ Less) (tags_told sorted)
sorted_rise lines sorted differ permuted up = tags_rise sorted (lines_rise sorted up (still_differ (λ (l : Line). l.tags) lines sorted permuted differ))

pub in_front : {X : Type 0} (n : ℕ) (xs : List X) (x : X) → Contains (take n xs) x → Contains xs x
in_front {X} n xs x c = subst (λ (l : List X). Contains l x) (take-append-drop n xs) (Contains-append_left (take n xs) (drop n xs) x c)

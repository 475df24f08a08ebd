-- The points of series that rise by their tags, and the groups of them.
use Rattle.std.proofs.Common.{◌≡◌, zero, suc, ℕ, ◌≤◌, ℤ, Bool, true, false, cond, ◌||◌, List, [], ◌∷◌, ◌++◌, length, map, Less, refl, sym, ap, subst, ◌∙◌, append-nil, arith}
use Rattle.std.specs.Prelude.{All, Contains, Result, filter}
use Rattle.json_reply.specs.Replies.{Group}
use Rattle.std.specs.List.{AllByRecursion, list_any}
use Rattle.std.specs.List.Sorted.{IsStrictlySortedBy}
use Rattle.std.specs.Ordering.{eq_by_cmp, is_eq}
use Rattle.std.proofs.lemmas.List.{map-append, length-map}
use Rattle.std.proofs.lemmas.List.Elements.{filter-append, filter_agree, All-filter, All-head, All-tail}
use Rattle.std.proofs.lemmas.List.Folds.{list_any-append}
use Rattle.list_lemmas.proofs.ListMembers.{pairs_tail, map_in, in_map}
use Rattle.tsd_base.specs.declared.kinds.Aggregator.{Aggregator}
use Rattle.tsd_base.specs.declared.kinds.Aggregator.TheVariants.{NoneOf}
use Rattle.tsd_base.specs.Points.{DataPoint}
use Rattle.tsd_base.specs.LastPoints.{series_of, dots_of}
use Rattle.tsd_base.specs.TagList.{Pair, tags_cmp, is_same_tags}
use Rattle.tsd_base.specs.TagOrder.{tags_ties, tags_same, is_same_tags_equiv}
use Rattle.query_text.specs.declared.queries.Query.{Query}
use Rattle.query_text.specs.declared.queries.Sub.{Sub}
use Rattle.group_by.specs.TagFilters.{group_key, has_grouping, is_grouped, is_none}
use Rattle.series_groups.specs.QueryAnswers.{answer, all_groups, group_answer, group_from, group_keys, groups_in}
use Rattle.series_groups.specs.SeriesGroups as groups
use Rattle.series_groups.specs.KeptSeries.{PointsOf, tags_kept, dots_kept, with_points, all_with_points}
use Rattle.series_groups.specs.declared.named_series.Series as kept
use Rattle.series_groups.specs.NamedSeries.{points_with, points_in, RiseByTags, HavePoints}
use Rattle.series_groups.specs.NamedSeries.{Series}
use Rattle.series_groups.proofs.Keys.{series_are, group_key_from}
use Rattle.series_groups.proofs.AnyOf.{in_any}

-- the tags of series, and their points
abbrev tags_in : List Series → List (List Pair)
tags_in series = map (λ s. s.tags) series

abbrev dots_in : List Series → List (List (ℕ × ℤ))
dots_in series = map (λ s. s.dots) series

-- ---- the points of one series
dots-append : (ps qs : List DataPoint) (t : List Pair) → dots_of (ps ++ qs) t ≡ dots_of ps t ++ dots_of qs t
dots-append ps qs t =
    ap (map (λ (p : DataPoint). (p.time, p.value))) (filter-append (λ (p : DataPoint). is_same_tags p.tags t) ps qs)
    ∙ map-append (λ (p : DataPoint). (p.time, p.value)) (filter (λ (p : DataPoint). is_same_tags p.tags t) ps) (filter (λ (p : DataPoint). is_same_tags p.tags t) qs)

module _ (metric : List ℕ) (tags t : List Pair) where
  -- with these tags, they are its own
  own_dots : (dots : List (ℕ × ℤ)) → is_same_tags tags t ≡ true → dots_of (points_with metric tags dots) t ≡ dots
  own_dots [] same = refl
  own_dots (d ∷ dots) same =
      let p : DataPoint = record { metric = metric; tags = tags; time = d.0; fine = true; value = d.1 } in
      let kept = filter (λ (q : DataPoint). is_same_tags q.tags t) (points_with metric tags dots) in
      ap (λ b. map (λ (q : DataPoint). (q.time, q.value)) (cond b (p ∷ kept) kept)) same ∙ ap (λ l. d ∷ l) (own_dots dots same)

  no_dots : (dots : List (ℕ × ℤ)) → is_same_tags tags t ≡ false → dots_of (points_with metric tags dots) t ≡ []
  no_dots [] same = refl
  no_dots (d ∷ dots) same =
      let p : DataPoint = record { metric = metric; tags = tags; time = d.0; fine = true; value = d.1 } in
      let kept = filter (λ (q : DataPoint). is_same_tags q.tags t) (points_with metric tags dots) in
      ap (λ b. map (λ (q : DataPoint). (q.time, q.value)) (cond b (p ∷ kept) kept)) same ∙ no_dots dots same

  -- whether there are such points, where there are any
  own_any : (dots : List (ℕ × ℤ)) → 1 ≤ length dots → list_any (λ p. is_same_tags p.tags t) (points_with metric tags dots) ≡ is_same_tags tags t
  own_any [] some = absurd (omega (arith, some))
  own_any (d ∷ []) some = or_false (is_same_tags tags t)
    where
      or_false : (b : Bool) → (b || false) ≡ b
      or_false true = refl
      or_false false = refl
  own_any (d ∷ e ∷ dots) some = ap (λ b. is_same_tags tags t || b) (own_any (e ∷ dots) (omega arith)) ∙ twice (is_same_tags tags t)
    where
      twice : (b : Bool) → (b || b) ≡ b
      twice true = refl
      twice false = refl

-- ---- series in order
differ : (x y : List Pair) → tags_cmp x y ≡ Less → is_same_tags x y ≡ false
differ x y less = tags_ties x y ∙ ap is_eq less

differ_back : (x y : List Pair) → tags_cmp x y ≡ Less → is_same_tags y x ≡ false
differ_back x y less = is_same_tags_equiv.symm y x ∙ differ x y less

rise_first : (s : Series) (series : List Series) → All (λ (t : Series). tags_cmp s.tags t.tags ≡ Less) series → AllByRecursion (λ y. tags_cmp s.tags y ≡ Less) (tags_in series)
rise_first s [] all = tt
rise_first s (t ∷ series) all =
    (All-head (λ (u : Series). tags_cmp s.tags u.tags ≡ Less) t series all, rise_first s series (All-tail (λ (u : Series). tags_cmp s.tags u.tags ≡ Less) t series all))

tags_rise : (series : List Series) → RiseByTags series → IsStrictlySortedBy tags_cmp (tags_in series)
unfolding IsStrictlySortedBy
tags_rise [] rise = tt
tags_rise (s ∷ series) rise = (
  rise_first s series (λ k d within. rise zero (suc k) d (omega arith) (omega (arith, within))),
  tags_rise series (pairs_tail (λ (a b : Series). tags_cmp a.tags b.tags ≡ Less) s series rise),
)

module _ (metric : List ℕ) where
  none_above : (t : List Pair) (series : List Series) → AllByRecursion (λ y. tags_cmp t y ≡ Less) (tags_in series) → dots_of (points_in metric series) t ≡ []
  none_above t [] above = refl
  none_above t (s ∷ series) above =
      dots-append (points_with metric s.tags s.dots) (points_in metric series) t
      ∙ ap (λ l. l ++ dots_of (points_in metric series) t) (no_dots metric s.tags t s.dots (differ_back t s.tags above.0))
      ∙ none_above t series above.1

  -- those of an earlier series have other tags
  with_earlier : (s : Series) (later : List DataPoint) (series : List Series) → AllByRecursion (λ y. tags_cmp s.tags y ≡ Less) (tags_in series)
      → AllByRecursion (λ (t : Series). dots_of later t.tags ≡ t.dots) series → AllByRecursion (λ (t : Series). dots_of (points_with metric s.tags s.dots ++ later) t.tags ≡ t.dots) series
  with_earlier s later [] above all = tt
  with_earlier s later (t ∷ series) above all = (
    dots-append (points_with metric s.tags s.dots) later t.tags
        ∙ ap (λ l. l ++ dots_of later t.tags) (no_dots metric s.tags t.tags s.dots (differ s.tags t.tags above.0))
        ∙ all.0,
    with_earlier s later series above.1 all.1,
  )

  -- each series has its own points
  each_own : (series : List Series) → IsStrictlySortedBy tags_cmp (tags_in series) → AllByRecursion (λ (s : Series). dots_of (points_in metric series) s.tags ≡ s.dots) series
  unfolding IsStrictlySortedBy
  each_own [] sorted = tt
  each_own (s ∷ series) sorted = (
    dots-append (points_with metric s.tags s.dots) (points_in metric series) s.tags
        ∙ ap (λ l. l ++ dots_of (points_in metric series) s.tags) (own_dots metric s.tags s.tags s.dots (is_same_tags_equiv.refl s.tags))
        ∙ ap (λ l. s.dots ++ l) (none_above s.tags series sorted.0)
        ∙ append-nil s.dots,
    with_earlier s (points_in metric series) series sorted.0 (each_own series sorted.1),
  )

  tags_found : (series : List Series) → HavePoints series → (q : List Pair) → list_any (λ p. is_same_tags p.tags q) (points_in metric series) ≡ list_any (eq_by_cmp tags_cmp q) (tags_in series)
  tags_found [] some q = refl
  tags_found (s ∷ series) some q =
      list_any-append (λ (p : DataPoint). is_same_tags p.tags q) (points_with metric s.tags s.dots) (points_in metric series)
      ∙ ap (λ b. b || list_any (λ (p : DataPoint). is_same_tags p.tags q) (points_in metric series))
      (own_any metric s.tags q s.dots (All-head (λ (t : Series). 1 ≤ length t.dots) s series some) ∙ is_same_tags_equiv.symm s.tags q ∙ tags_ties q s.tags)
      ∙ ap (λ b. eq_by_cmp tags_cmp q s.tags || b) (tags_found series (All-tail (λ (t : Series). 1 ≤ length t.dots) s series some) q)

  -- their tags are the series of their points
  series_found : (series : List Series) → RiseByTags series → HavePoints series → series_of (points_in metric series) ≡ tags_in series
  series_found series rise some = series_are (points_in metric series) (tags_in series) (tags_rise series rise) (tags_found series some)

-- ---- groups

abbrev members : Sub → List Series → List Pair → List Series
members s series key = filter (λ one. is_same_tags (group_key s one.tags) key) series

abbrev members_in : Sub → List Series → List (List Series)
members_in s series = map (members s series) (group_keys s (tags_in series))

abbrev group_with : Query → Sub → List Series → Result Group ℕ
group_with q s series = group_from q s (tags_in series) (dots_in series)

all_lists : (points : List DataPoint) (series : List Series) → AllByRecursion (λ (s : Series). dots_of points s.tags ≡ s.dots) series → map (dots_of points) (tags_in series) ≡ dots_in series
all_lists points [] own = refl
all_lists points (s ∷ series) own = λ i. own.0 i ∷ all_lists points series own.1 i

own_kept : (p : Series → Bool) (points : List DataPoint) (series : List Series) → AllByRecursion (λ (s : Series). dots_of points s.tags ≡ s.dots) series → AllByRecursion (λ (s : Series). dots_of points s.tags ≡ s.dots) (filter p series)
own_kept p points [] own = tt
own_kept p points (s ∷ series) own = at (p s) (own_kept p points series own.1)
  where
    at : (b : Bool) → AllByRecursion (λ (s : Series). dots_of points s.tags ≡ s.dots) (filter p series) → AllByRecursion (λ (s : Series). dots_of points s.tags ≡ s.dots) (cond b (s ∷ filter p series) (filter p series))
    at true rest = (own.0, rest)
    at false rest = rest

tags_filtered : (p : List Pair → Bool) (series : List Series) → filter p (tags_in series) ≡ tags_in (filter (λ (s : Series). p s.tags) series)
tags_filtered p [] = refl
tags_filtered p (s ∷ series) = at (p s.tags) (tags_filtered p series)
  where
    at : (b : Bool) → filter p (tags_in series) ≡ tags_in (filter (λ (s : Series). p s.tags) series)
        → cond b (s.tags ∷ filter p (tags_in series)) (filter p (tags_in series)) ≡ tags_in (cond b (s ∷ filter (λ (s : Series). p s.tags) series) (filter (λ (s : Series). p s.tags) series))
    at true go = ap (λ l. s.tags ∷ l) go
    at false go = go

module _ (q : Query) (s : Sub) (series : List Series) where
  abbrev points : List DataPoint
  points = points_in s.metric series

  one_group : AllByRecursion (λ (o : Series). dots_of points o.tags ≡ o.dots) series → (key : List Pair) → group_answer q s points (filter (λ t. is_same_tags (group_key s t) key) (tags_in series)) ≡ group_with q s (members s series key)
  one_group own key =
      ap (group_answer q s points) (tags_filtered (λ t. is_same_tags (group_key s t) key) series)
      ∙ ap (group_from q s (tags_in (members s series key))) (all_lists points (members s series key) (own_kept (λ (o : Series). is_same_tags (group_key s o.tags) key) points series own))

  each_group : AllByRecursion (λ (o : Series). dots_of points o.tags ≡ o.dots) series → (keys : List (List Pair))
      → map (group_answer q s points) (map (λ key. filter (λ t. is_same_tags (group_key s t) key) (tags_in series)) keys) ≡ map (group_with q s) (map (members s series) keys)
  each_group own [] = refl
  each_group own (key ∷ keys) = λ i. one_group own key i ∷ each_group own keys i

  -- the answer over the points of series is the groups of their members
  answer_named : RiseByTags series → HavePoints series → answer q s points ≡ all_groups (map (group_with q s) (members_in s series))
  answer_named rise some =
      ap (λ l. all_groups (map (group_answer q s points) (groups_in s l))) (series_found s.metric series rise some)
      ∙ ap all_groups (each_group (each_own s.metric series (tags_rise series rise)) (group_keys s (tags_in series)))

-- ---- the members of one group

keep_all : {X : Type 0} (p : X → Bool) → ((x : X) → p x ≡ true) → (xs : List X) → filter p xs ≡ xs
keep_all p all [] = refl
keep_all p all (x ∷ xs) = ap (λ b. cond b (x ∷ filter p xs) (filter p xs)) (all x) ∙ ap (λ l. x ∷ l) (keep_all p all xs)

-- under none the key is all tags
none_key : (s : Sub) → s.how ≡ NoneOf → (tags : List Pair) → group_key s tags ≡ tags
none_key s none tags = keep_all (λ (pair : Pair). is_grouped s pair.0) (λ pair. ap (λ (how : Aggregator). is_none how || has_grouping pair.0 s.filters) none) tags

no_others : (key : List Pair) (series : List Series) → AllByRecursion (λ y. tags_cmp key y ≡ Less) (tags_in series) → filter (λ (o : Series). is_same_tags o.tags key) series ≡ []
no_others key [] above = refl
no_others key (o ∷ series) above = ap (λ b. cond b (o ∷ filter (λ (x : Series). is_same_tags x.tags key) series) (filter (λ (x : Series). is_same_tags x.tags key) series)) (differ_back key o.tags above.0) ∙ no_others key series above.1

just_one : (key : List Pair) (series : List Series) → IsStrictlySortedBy tags_cmp (tags_in series) → list_any (λ t. is_same_tags t key) (tags_in series) ≡ true → length (filter (λ (o : Series). is_same_tags o.tags key) series) ≡ 1
unfolding IsStrictlySortedBy
just_one key [] sorted any = absurd cc
just_one key (o ∷ series) sorted any = at (is_same_tags o.tags key) refl any (just_one key series sorted.1)
  where
    at : (b : Bool) → is_same_tags o.tags key ≡ b → (b || list_any (λ t. is_same_tags t key) (tags_in series)) ≡ true
        → (list_any (λ t. is_same_tags t key) (tags_in series) ≡ true → length (filter (λ (x : Series). is_same_tags x.tags key) series) ≡ 1)
        → length (cond b (o ∷ filter (λ (x : Series). is_same_tags x.tags key) series) (filter (λ (x : Series). is_same_tags x.tags key) series)) ≡ 1
    at true e h go =
        let same = tags_same o.tags key e in
        let none = no_others key series (subst (λ t. AllByRecursion (λ y. tags_cmp t y ≡ Less) (tags_in series)) same sorted.0) in
        ap (λ (l : List Series). length (o ∷ l)) none
    at false e h go = go h

-- under none each group has one member
named_alone : (s : Sub) (series : List Series) → RiseByTags series → s.how ≡ NoneOf → (m : List Series) → Contains (members_in s series) m → length m ≡ 1
named_alone s series rise none m c =
    let keys = group_keys s (tags_in series) in
    let w = map_in (members s series) keys m c in
    let tied = sym (tags_ties w.0 w.0) ∙ is_same_tags_equiv.refl w.0 in
    let any = sym (group_key_from s (tags_in series) w.0) ∙ in_any (eq_by_cmp tags_cmp w.0) w.0 keys w.1 tied in
    let plain = any_agree (tags_in series) w.0 ∙ any in
    ap length (sym w.2 ∙ filter_agree (λ (o : Series). is_same_tags (group_key s o.tags) w.0) (λ (o : Series). is_same_tags o.tags w.0) (λ o. ap (λ t. is_same_tags t w.0) (none_key s none o.tags)) series)
    ∙ just_one w.0 series (tags_rise series rise) plain
  where
    any_agree : (l : List (List Pair)) (key : List Pair) → list_any (λ t. is_same_tags t key) l ≡ list_any (λ t. is_same_tags (group_key s t) key) l
    any_agree [] key = refl
    any_agree (t ∷ l) key = λ i. is_same_tags (sym (none_key s none t) i) key || any_agree l key i

-- ---- series of which something is kept

tags_same_kept : (of : PointsOf) (series : List kept.Series) → tags_in (all_with_points of series) ≡ tags_kept series
tags_same_kept of [] = refl
tags_same_kept of (x ∷ series) = ap (λ l. x.tags ∷ l) (tags_same_kept of series)

dots_same_kept : (of : PointsOf) (series : List kept.Series) → dots_in (all_with_points of series) ≡ dots_kept of series
dots_same_kept of [] = refl
dots_same_kept of (x ∷ series) = ap (λ l. of x.tags ∷ l) (dots_same_kept of series)

members_kept : (s : Sub) (of : PointsOf) (series : List kept.Series) (key : List Pair) → members s (all_with_points of series) key ≡ all_with_points of (groups.members s series key)
members_kept s of [] key = refl
members_kept s of (x ∷ series) key = at (is_same_tags (group_key s x.tags) key) (members_kept s of series key)
  where
    at : (b : Bool) → members s (all_with_points of series) key ≡ all_with_points of (groups.members s series key)
        → cond b (with_points of x ∷ members s (all_with_points of series) key) (members s (all_with_points of series) key) ≡ all_with_points of (cond b (x ∷ groups.members s series key) (groups.members s series key))
    at true go = ap (λ l. with_points of x ∷ l) go
    at false go = go

module _ (q : Query) (s : Sub) (of : PointsOf) (series : List kept.Series) where
  group_kept : (key : List Pair) → group_with q s (members s (all_with_points of series) key) ≡ groups.group_with q s of (groups.members s series key)
  group_kept key =
      ap (group_with q s) (members_kept s of series key)
      ∙ (λ i. group_from q s (tags_same_kept of (groups.members s series key) i) (dots_same_kept of (groups.members s series key) i))

  groups_kept : (keys : List (List Pair)) → map (group_with q s) (map (members s (all_with_points of series)) keys) ≡ map (groups.group_with q s of) (map (groups.members s series) keys)
  groups_kept [] = refl
  groups_kept (key ∷ keys) = λ i. group_kept key i ∷ groups_kept keys i

  -- the answer over the points of series is the groups of their members
  pub answer_groups : RiseByTags (all_with_points of series) → HavePoints (all_with_points of series) → answer q s (points_in s.metric (all_with_points of series)) ≡ all_groups (map (groups.group_with q s of) (groups.members_in s series))
  answer_groups rise some =
      answer_named q s (all_with_points of series) rise some
      ∙ ap (λ l. all_groups (map (group_with q s) (map (members s (all_with_points of series)) (group_keys s l)))) (tags_same_kept of series)
      ∙ ap all_groups (groups_kept (group_keys s (tags_kept series)))

-- what holds of each series holds of the members of a group
pub members_all : (P : kept.Series → Type 0) (s : Sub) (series : List kept.Series) → All P series → (m : List kept.Series) → Contains (groups.members_in s series) m → All P m
members_all P s series all m c =
    let w = map_in (groups.members s series) (group_keys s (tags_kept series)) m c in
    subst (All P) w.2 (All-filter (λ (o : kept.Series). is_same_tags (group_key s o.tags) w.0) P series all)

-- under none each group has one member
pub members_alone : (s : Sub) (of : PointsOf) (series : List kept.Series) → RiseByTags (all_with_points of series) → s.how ≡ NoneOf → (m : List kept.Series) → Contains (groups.members_in s series) m → length m ≡ 1
members_alone s of series rise none m c =
    let w = map_in (groups.members s series) (group_keys s (tags_kept series)) m c in
    let named = in_map (members s (all_with_points of series)) (group_keys s (tags_in (all_with_points of series))) w.0 (subst (λ (l : List (List Pair)). Contains (group_keys s l) w.0) (sym (tags_same_kept of series)) w.1) in
    let alone = named_alone s (all_with_points of series) rise none (members s (all_with_points of series) w.0) named in
    sym (ap length w.2) ∙ sym (length-map (groups.members s series w.0) (with_points of)) ∙ ap length (sym (members_kept s of series w.0)) ∙ alone

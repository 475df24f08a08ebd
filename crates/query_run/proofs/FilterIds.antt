-- Filters by ids pick the rows whose tags pass the filters by names.
use Rattle.std.proofs.Common.{◌≡◌, ℕ, Bool, true, false, List, [], ◌∷◌, refl, sym, ap, subst, ◌∙◌, arith}
use Rattle.std.specs.Prelude.{Contains, Option, Some, ◌&&◌, ◌||◌, not, nat_eq}
use Rattle.std.specs.List.{list_any}
use Rattle.std.specs.Cmp.Lexicographic.{bytes_decides}
use Rattle.std.proofs.lemmas.Bool.Decides.{nat_tests}
use Rattle.std.proofs.lemmas.List.Sorted.{list_any-IsPermutation}
use Rattle.tsd_base.specs.declared.kinds.Kind.{Kind}
use Rattle.tsd_base.specs.declared.kinds.Kind.TheVariants.{TagKey, TagValue}
use Rattle.tsd_base.specs.TagList.{Pair, is_same}
use Rattle.row_key.specs.declared.keys.RowKey.{RowKey}
use Rattle.row_key.specs.Key.{IsKey, key_bytes}
use Rattle.query_text.specs.declared.queries.Test.{Test}
use Rattle.query_text.specs.declared.queries.Test.TheVariants as text
use Rattle.query_text.specs.declared.queries.Filter.{Filter}
use Rattle.query_text.specs.FilterTexts.{is_of_text}
use Rattle.cell_model.specs.History.{History, store_after}
use Rattle.cell_model.specs.IdRows.{id_of, name_of}
use Rattle.cell_model.specs.Lawful.{IsLawful}
use Rattle.cell_model.specs.Readings.{Named}
use Rattle.cell_model.specs.Seen.{Seen, Fits}
use Rattle.cell_model.specs.Deeds.{Extends}
use Rattle.uid_table.specs.Shown.{HasShown}
use Rattle.group_by.specs.TagFilters as by_name
use Rattle.tag_match.specs.Patterns.{finds}
use Rattle.metric_scan.specs.declared.id_filter.IdTest.{IdTest}
use Rattle.metric_scan.specs.declared.id_filter.IdTest.TheVariants.{Any, OneOf, NotOneOf}
use Rattle.metric_scan.specs.declared.id_filter.IdFilter.{IdFilter}
use Rattle.query_run.specs.ValueJudges.{passes_named, pair_passes, suits_one, suits}
use Rattle.query_run.specs.Collection.{picks_in}
use Rattle.metric_scan.specs.IdFilters.{passes, passes_filter, passes_test, AreIds, AreIdsOf, IsIdTest, IsIdFilter, AreIdFilters}
use Rattle.query_run.proofs.Lower as lower
use Rattle.series_groups.proofs.AnyOf.{in_any, any_in}
use Rattle.query_run.proofs.RowReadings.{PicksBy}

same_bool : (a b : Bool) → (a ≡ true → b ≡ true) → (b ≡ true → a ≡ true) → a ≡ b
same_bool true b f g = sym (f refl)
same_bool false true f g = g refl
same_bool false false f g = refl

nat_is : (a b : ℕ) → nat_eq a b ≡ true → a ≡ b
nat_is a b e = grind (arith, nat_tests, e)

is_nat : (a b : ℕ) → a ≡ b → nat_eq a b ≡ true
is_nat a b e = grind (arith, nat_tests, e)

both : (a b : Bool) → (a && b) ≡ true → (a ≡ true) × (b ≡ true)
both true b e = (refl, e)
both false b e = cc

and_true : (a b : Bool) → a ≡ true → b ≡ true → (a && b) ≡ true
and_true true b e f = f
and_true false b e f = cc

and_end : (a : Bool) → (a && true) ≡ a
and_end true = refl
and_end false = refl

and_later : (a b : Bool) → (b ≡ true → a ≡ true) → (a && b) ≡ b
and_later true b f = refl
and_later false true f = f refl
and_later false false f = refl

and_between : (a b c d : Bool) → ((a && b) && (c && d)) ≡ ((a && c) && (b && d))
and_between false b c d = refl
and_between true true c d = refl
and_between true false true d = refl
and_between true false false d = refl

same_Some : {X : Type 0} (x y : X) → ◌≡◌ {A = Option X} (Some x) (Some y) → x ≡ y
same_Some x y e = cc

-- in the history the name has the id, which is that name's
pub record IsId (g : History) (kind : Kind) (name : List ℕ) (id : ℕ) : Type 0 where
  pub id_is : id_of g kind name ≡ Some id
  pub name_is : name_of g kind id ≡ Some name

pub id_now : (s later : Seen) (g : History) (kind : Kind) (name : List ℕ) (id : ℕ) → Extends s later → IsLawful g → Fits later g → HasShown s kind name id → IsId g kind name id
id_now s later g kind name id ext lawful fits h = let known = h.stands later ext g lawful fits in record { id_is = known; name_is = lower.names_back g kind name id lawful h.is_name known }

module _ (g : History) (s : Seen) (now : (kind : Kind) (name : List ℕ) (id : ℕ) → HasShown s kind name id → IsId g kind name id) where
  same_value : (name v : List ℕ) (id i : ℕ) → IsId g TagValue name id → IsId g TagValue v i → nat_eq i id ≡ is_same v name
  same_value name v id i a b =
      same_bool (nat_eq i id) (is_same v name)
      (λ e. (bytes_decides v name).1 (same_Some v name (sym b.name_is ∙ ap (name_of g TagValue) (nat_is i id e) ∙ a.name_is)))
      (λ e. is_nat i id (same_Some i id (sym b.id_is ∙ ap (id_of g TagValue) ((bytes_decides v name).0 e) ∙ a.id_is)))

  any_value : (names : List (List ℕ)) (ids : List ℕ) (v : List ℕ) (i : ℕ) → AreIds s names ids → IsId g TagValue v i → list_any (nat_eq i) ids ≡ list_any (is_same v) names
  any_value [] [] v i z b = refl
  any_value [] (id ∷ ids) v i z b = absurd z
  any_value (name ∷ names) [] v i z b = absurd z
  any_value (name ∷ names) (id ∷ ids) v i z b = λ k. same_value name v id i (now TagValue name id z.0) b k || any_value names ids v i z.1 b k

  any_of : (names : List (List ℕ)) (ids : List ℕ) (v : List ℕ) (i : ℕ) → AreIdsOf s names ids → IsId g TagValue v i → list_any (nat_eq i) ids ≡ list_any (is_same v) names
  any_of names ids v i (listed, are, same) b = sym (list_any-IsPermutation (nat_eq i) listed ids same) ∙ any_value names listed v i are b

  -- by ids and names a value passes as it does by its name
  value_same : (test : Test) (by : IdTest) (v : List ℕ) (i : ℕ) → IsIdTest s test by → is_of_text test ≡ false → IsId g TagValue v i → passes_test by i ≡ by_name.passes_test finds test v
  value_same text.Any Any v i h plain b = refl
  value_same text.Any (OneOf ids) v i h plain b = absurd h
  value_same text.Any (NotOneOf ids) v i h plain b = absurd h
  value_same (text.OneOf names) Any v i h plain b = absurd h
  value_same (text.OneOf names) (OneOf ids) v i h plain b = any_of names ids v i h b
  value_same (text.OneOf names) (NotOneOf ids) v i h plain b = absurd h
  value_same (text.NotOneOf names) Any v i h plain b = absurd h
  value_same (text.NotOneOf names) (OneOf ids) v i h plain b = absurd h
  value_same (text.NotOneOf names) (NotOneOf ids) v i h plain b = ap not (any_of names ids v i h b)
  value_same (text.Wild part) by v i h plain b = cc
  value_same (text.Pattern part) by v i h plain b = cc

  -- by ids any value passes a test of text
  text_passes : (test : Test) (by : IdTest) (i : ℕ) → IsIdTest s test by → is_of_text test ≡ true → passes_test by i ≡ true
  text_passes (text.Wild part) Any i h is = refl
  text_passes (text.Wild part) (OneOf ids) i h is = absurd h
  text_passes (text.Wild part) (NotOneOf ids) i h is = absurd h
  text_passes (text.Pattern part) Any i h is = refl
  text_passes (text.Pattern part) (OneOf ids) i h is = absurd h
  text_passes (text.Pattern part) (NotOneOf ids) i h is = absurd h
  text_passes text.Any by i h is = cc
  text_passes (text.OneOf names) by i h is = cc
  text_passes (text.NotOneOf names) by i h is = cc

  module _ (pairs : List (ℕ × ℕ)) (tags : List Pair) (named : Named (name_of g) pairs tags) (key_of : (p : ℕ × ℕ) (name : List ℕ) → Contains pairs p → name_of g TagKey p.0 ≡ Some name → IsId g TagKey name p.0)
      (value_of : (p : ℕ × ℕ) (name : List ℕ) → Contains pairs p → name_of g TagValue p.1 ≡ Some name → IsId g TagValue name p.1) where
    -- where a test of ids passes as the filter's does
    any_same : (f : Filter) (key : ℕ) (test : ℕ → Bool) → IsId g TagKey f.key key → ((p : ℕ × ℕ) (v : List ℕ) → Contains pairs p → name_of g TagValue p.1 ≡ Some v → test p.1 ≡ by_name.passes_test finds f.test v)
        → list_any (λ (p : ℕ × ℕ). nat_eq key p.0 && test p.1) pairs ≡ by_name.passes_filter finds f tags
    any_same f key test its agree = same_bool (list_any (λ (p : ℕ × ℕ). nat_eq key p.0 && test p.1) pairs) (by_name.passes_filter finds f tags) to from
      where
        to : list_any (λ (p : ℕ × ℕ). nat_eq key p.0 && test p.1) pairs ≡ true → by_name.passes_filter finds f tags ≡ true
        to e =
            let w = any_in (λ (p : ℕ × ℕ). nat_eq key p.0 && test p.1) pairs e in
            let h = both (nat_eq key w.0.0) (test w.0.1) w.2 in
            let t = named.each w.0 w.1 in
            let key_is : f.key ≡ t.0.0 = same_Some f.key t.0.0 (sym its.name_is ∙ ap (name_of g TagKey) (nat_is key w.0.0 h.0) ∙ t.2.0) in
            in_any (λ (x : Pair). is_same f.key x.0 && by_name.passes_test finds f.test x.1) t.0 tags t.1
            (and_true (is_same f.key t.0.0) (by_name.passes_test finds f.test t.0.1) ((bytes_decides f.key t.0.0).1 key_is) (sym (agree w.0 t.0.1 w.1 t.2.1) ∙ h.1))

        from : by_name.passes_filter finds f tags ≡ true → list_any (λ (p : ℕ × ℕ). nat_eq key p.0 && test p.1) pairs ≡ true
        from e =
            let w = any_in (λ (x : Pair). is_same f.key x.0 && by_name.passes_test finds f.test x.1) tags e in
            let h = both (is_same f.key w.0.0) (by_name.passes_test finds f.test w.0.1) w.2 in
            let p = named.back w.0 w.1 in
            let key_is : f.key ≡ w.0.0 = (bytes_decides f.key w.0.0).0 h.0 in
            let id : key ≡ p.0.0 = same_Some key p.0.0 (sym its.id_is ∙ ap (id_of g TagKey) key_is ∙ (key_of p.0 w.0.0 p.1 p.2.0).id_is) in
            in_any (λ (x : ℕ × ℕ). nat_eq key x.0 && test x.1) p.0 pairs p.1
            (and_true (nat_eq key p.0.0) (test p.0.1) (is_nat key p.0.0 id) (agree p.0 w.0.1 p.1 p.2.1 ∙ h.1))

    -- a filter by ids that isn't of text passes as the one by names
    filter_same : (f : Filter) (by : IdFilter) → IsIdFilter s f by → is_of_text f.test ≡ false → passes_filter by pairs ≡ by_name.passes_filter finds f tags
    filter_same f by is plain = any_same f by.key (passes_test by.test) (now TagKey f.key by.key is.key) (λ p v c e. value_same f.test by.test v p.1 is.test plain (value_of p v c e))

    -- one of text does so by the values' names
    text_same : (f : Filter) (by : IdFilter) → IsIdFilter s f by → list_any (pair_passes (name_of g) by.key f.test) pairs ≡ by_name.passes_filter finds f tags
    text_same f by is = any_same f by.key (λ i. passes_named f.test (name_of g TagValue i)) (now TagKey f.key by.key is.key) (λ p v c e. ap (passes_named f.test) e)

    -- and where it does, it passes by ids
    text_by_ids : (f : Filter) (by : IdFilter) → IsIdFilter s f by → is_of_text f.test ≡ true → list_any (pair_passes (name_of g) by.key f.test) pairs ≡ true → passes_filter by pairs ≡ true
    text_by_ids f by is text e =
        let w = any_in (pair_passes (name_of g) by.key f.test) pairs e in
        let h = both (nat_eq by.key w.0.0) (passes_named f.test (name_of g TagValue w.0.1)) w.2 in
        in_any (λ (x : ℕ × ℕ). nat_eq by.key x.0 && passes_test by.test x.1) w.0 pairs w.1 (and_true (nat_eq by.key w.0.0) (passes_test by.test w.0.1) h.0 (text_passes f.test by.test w.0.1 is.test text))

    one_same : (f : Filter) (by : IdFilter) → IsIdFilter s f by → (passes_filter by pairs && suits_one (name_of g) by.key f.test pairs) ≡ by_name.passes_filter finds f tags
    one_same f by is = at (is_of_text f.test) refl
      where
        at : (b : Bool) → is_of_text f.test ≡ b → (passes_filter by pairs && suits_one (name_of g) by.key f.test pairs) ≡ by_name.passes_filter finds f tags
        at false plain = ap (λ t. passes_filter by pairs && (not t || list_any (pair_passes (name_of g) by.key f.test) pairs)) plain ∙ and_end (passes_filter by pairs) ∙ filter_same f by is plain
        at true text =
            ap (λ t. passes_filter by pairs && (not t || list_any (pair_passes (name_of g) by.key f.test) pairs)) text
            ∙ and_later (passes_filter by pairs) (list_any (pair_passes (name_of g) by.key f.test) pairs) (text_by_ids f by is text) ∙ text_same f by is

    all_same : (filters : List Filter) (list : List IdFilter) → AreIdFilters s filters list → (passes list pairs && suits (name_of g) filters list pairs) ≡ by_name.passes finds filters tags
    all_same [] [] z = refl
    all_same [] (by ∷ list) z = absurd z
    all_same (f ∷ filters) [] z = absurd z
    all_same (f ∷ filters) (by ∷ list) z =
        and_between (passes_filter by pairs) (passes list pairs) (suits_one (name_of g) by.key f.test pairs) (suits (name_of g) filters list pairs) ∙ (λ i. one_same f by z.0 i && all_same filters list z.1 i)

  -- of a row that stood
  pub picks_by : (filters : List Filter) (list : List IdFilter) (key : RowKey) → AreIdFilters s filters list → IsKey (store_after g).widths key → lower.StoodRow g (key_bytes (store_after g).widths key) → PicksBy (picks_in list filters g) filters (name_of g) key
  picks_by filters list key z is row tags named = all_same key.pairs.items tags named key_of value_of filters list z
    where
      same : key ≡ row.key
      same = lower.one_key (store_after g).widths key row.key is row.is_key row.row_is

      its : (p : ℕ × ℕ) → Contains key.pairs.items p → lower.IsOf g TagKey p.0 × lower.IsOf g TagValue p.1
      its p c = row.tags p (subst (λ (k : RowKey). Contains k.pairs.items p) same c)

      key_of : (p : ℕ × ℕ) (name : List ℕ) → Contains key.pairs.items p → name_of g TagKey p.0 ≡ Some name → IsId g TagKey name p.0
      key_of p name c e = let o = (its p c).0 in record { id_is = ap (id_of g TagKey) (sym (same_Some o.name name (sym o.name_is ∙ e))) ∙ o.id_is; name_is = e }

      value_of : (p : ℕ × ℕ) (name : List ℕ) → Contains key.pairs.items p → name_of g TagValue p.1 ≡ Some name → IsId g TagValue name p.1
      value_of p name c e = let o = (its p c).1 in record { id_is = ap (id_of g TagValue) (sym (same_Some o.name name (sym o.name_is ∙ e))) ∙ o.id_is; name_is = e }

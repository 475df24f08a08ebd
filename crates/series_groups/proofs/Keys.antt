-- Lists of keys in order that have the same keys, and the tags of points.
use Rattle.std.proofs.Common.{◌≡◌, ℕ, Bool, true, false, T, cond, ◌&&◌, ◌||◌, List, [], ◌∷◌, Some, None, map, Less, refl, sym, ap, subst, ◌∙◌}
use Rattle.std.specs.Prelude.{is_some}
use Rattle.std.specs.declared.cmp.Ordering.{Ordering}
use Rattle.std.specs.Cmp.{IsTotalOrder}
use Rattle.std.specs.FinMap.{IsAntisymmetric, entries, entries_sorted, from_entries, keys, get-from_entries, contains_key-keys}
use Rattle.std.specs.FinMap.Entries.{find, is_sorted, below_all, same_entries, is_some-find}
use Rattle.std.specs.List.{AllByRecursion, list_any}
use Rattle.std.specs.List.Sorted.{IsStrictlySortedBy}
use Rattle.std.specs.Map.{keys_of}
use Rattle.std.specs.Ordering.{eq_by_cmp, is_lt}
use Rattle.std.proofs.lemmas.Map.Keys.{sorted_head, sorted_tail}
use Rattle.tsd_base.specs.Points.{DataPoint}
use Rattle.tsd_base.specs.LastPoints.{series_of}
use Rattle.tsd_base.specs.TagList.{Pair, tags_cmp, is_same_tags}
use Rattle.tsd_base.specs.TagOrder.{tags_cmp_total, tags_cmp_exact, tags_ties, is_same_tags_equiv}
use Rattle.query_text.specs.declared.queries.Sub.{Sub}
use Rattle.group_by.specs.TagFilters.{group_key}
use Rattle.series_groups.specs.QueryAnswers.{group_keys}

-- keys in order, as the entries of a set
abbrev units : {K : Type 0} → List K → List (K × Unit {0})
units ks = map (λ k. (k, tt)) ks

keys-units : {K : Type 0} (ks : List K) → map (λ e. e.0) (units ks) ≡ ks
keys-units [] = refl
keys-units (k ∷ ks) = ap (λ ls. k ∷ ls) (keys-units ks)

both_true : (a b : Bool) → T a → T b → T (a && b)
both_true true b p q = q
both_true false b p q = absurd p

module _ {K : Type 0} (R : K → K → Ordering) where
  below_all-units : (k : K) (ks : List K) → AllByRecursion (λ y. R k y ≡ Less) ks → T (below_all R k (units ks))
  below_all-units k [] h = tt
  below_all-units k (l ∷ ks) h = both_true _ _ (subst (λ r. T (is_lt r)) (sym h.0) tt) (below_all-units k ks h.1)

  is_sorted-units : (ks : List K) → IsStrictlySortedBy R ks → T (is_sorted R (units ks))
  is_sorted-units [] h = tt
  is_sorted-units (k ∷ ks) h = both_true _ _ (below_all-units k ks (sorted_head R k ks h)) (is_sorted-units ks (sorted_tail R k ks h))

  find-units : (ks : List K) (q : K) → find R q (units ks) ≡ cond (list_any (eq_by_cmp R q) ks) (Some tt) None
  find-units [] q = refl
  find-units (k ∷ ks) q =
      elim (eq_by_cmp R q k) as (λ b. cond b (Some tt) (find R q (units ks)) ≡ cond (b || list_any (eq_by_cmp R q) ks) (Some tt) None) [
        | true ↦ refl
        | false ↦ find-units ks q
      ]

  module _ {X : Type 0} where
    below_all-keys : (k : K) (es : List (K × X)) → below_all R k (units (keys_of es)) ≡ below_all R k es
    below_all-keys k [] = refl
    below_all-keys k (e ∷ es) = ap (λ b. is_lt (R k e.0) && b) (below_all-keys k es)

    is_sorted-keys : (es : List (K × X)) → is_sorted R (units (keys_of es)) ≡ is_sorted R es
    is_sorted-keys [] = refl
    is_sorted-keys (e ∷ es) = λ i. below_all-keys e.0 es i && is_sorted-keys es i

  -- two lists of keys in order with the same keys
  same_keys : IsTotalOrder R → IsAntisymmetric R → (ks ls : List K) → T (is_sorted R (units ks)) → T (is_sorted R (units ls))
      → ((q : K) → list_any (eq_by_cmp R q) ks ≡ list_any (eq_by_cmp R q) ls) → ks ≡ ls
  same_keys total exact ks ls s t same =
      sym (keys-units ks)
      ∙ ap (map (λ e. e.0)) (same_entries R total exact (units ks) (units ls) s t (λ q. find-units ks q ∙ ap (λ b. cond b (Some tt) None) (same q) ∙ sym (find-units ls q)))
      ∙ keys-units ls

-- ---- the keys of a map of entries by tags

pub any_key_made : {K X : Type 0} {R : K → K → Ordering} → IsTotalOrder R → (es : List (K × X)) (q : K) → list_any (eq_by_cmp R q) (keys (from_entries {R = R} es)) ≡ list_any (eq_by_cmp R q) (keys_of es)
any_key_made {R = R} total es q = sym (contains_key-keys (from_entries {R = R} es) q) ∙ ap is_some (get-from_entries total es q) ∙ is_some-find R q es

module _ {X : Type 0} (es : List (List Pair × X)) where
  abbrev made : List (List Pair)
  made = keys (from_entries {R = tags_cmp} es)

  any_made : (q : List Pair) → list_any (eq_by_cmp tags_cmp q) made ≡ list_any (eq_by_cmp tags_cmp q) (keys_of es)
  any_made q = any_key_made tags_cmp_total es q

  made_sorted : T (is_sorted tags_cmp (units made))
  made_sorted = subst T (sym (is_sorted-keys tags_cmp (entries (from_entries {R = tags_cmp} es)))) (entries_sorted (from_entries {R = tags_cmp} es))

  -- they are the keys in order that are those of the entries
  made_are : (ks : List (List Pair)) → IsStrictlySortedBy tags_cmp ks → ((q : List Pair) → list_any (eq_by_cmp tags_cmp q) (keys_of es) ≡ list_any (eq_by_cmp tags_cmp q) ks) → made ≡ ks
  made_are ks sorted same = same_keys tags_cmp tags_cmp_total tags_cmp_exact made ks made_sorted (is_sorted-units tags_cmp ks sorted) (λ q. any_made q ∙ same q)

same_test : (q t : List Pair) → eq_by_cmp tags_cmp q t ≡ is_same_tags t q
same_test q t = sym (tags_ties q t) ∙ is_same_tags_equiv.symm q t

-- ---- the series of points

abbrev by_tags : List DataPoint → List (List Pair × ℕ)
by_tags ps = map (λ (p : DataPoint). (p.tags, p.time)) ps

any_tags : (ps : List DataPoint) (q : List Pair) → list_any (eq_by_cmp tags_cmp q) (keys_of (by_tags ps)) ≡ list_any (λ p. is_same_tags p.tags q) ps
any_tags [] q = refl
any_tags (p ∷ ps) q = λ i. same_test q p.tags i || any_tags ps q i

-- tags in order are the series of points where these have each of them and no others
pub series_are : (ps : List DataPoint) (tags : List (List Pair)) → IsStrictlySortedBy tags_cmp tags → ((q : List Pair) → list_any (λ p. is_same_tags p.tags q) ps ≡ list_any (eq_by_cmp tags_cmp q) tags) → series_of ps ≡ tags
series_are ps tags sorted same = made_are (by_tags ps) tags sorted (λ q. any_tags ps q ∙ same q)

-- points with the same tags make the same series
pub same_series : (ps qs : List DataPoint) → ((q : List Pair) → list_any (λ p. is_same_tags p.tags q) ps ≡ list_any (λ p. is_same_tags p.tags q) qs) → series_of ps ≡ series_of qs
same_series ps qs same =
    same_keys tags_cmp tags_cmp_total tags_cmp_exact (series_of ps) (series_of qs) (made_sorted (by_tags ps)) (made_sorted (by_tags qs))
    (λ q. any_made (by_tags ps) q ∙ any_tags ps q ∙ same q ∙ sym (any_tags qs q) ∙ sym (any_made (by_tags qs) q))

-- ---- the keys of groups

abbrev by_key : Sub → List (List Pair) → List (List Pair × List Pair)
by_key s series = map (λ (t : List Pair). (group_key s t, t)) series

any_key : (s : Sub) (series : List (List Pair)) (q : List Pair) → list_any (eq_by_cmp tags_cmp q) (keys_of (by_key s series)) ≡ list_any (λ t. is_same_tags (group_key s t) q) series
any_key s [] q = refl
any_key s (t ∷ series) q = λ i. same_test q (group_key s t) i || any_key s series q i

-- keys in order are those of groups where the series have each of them and no others
pub group_keys_are : (s : Sub) (series ks : List (List Pair)) → IsStrictlySortedBy tags_cmp ks → ((q : List Pair) → list_any (λ t. is_same_tags (group_key s t) q) series ≡ list_any (eq_by_cmp tags_cmp q) ks) → group_keys s series ≡ ks
group_keys_are s series ks sorted same = made_are (by_key s series) ks sorted (λ q. any_key s series q ∙ same q)

-- each key of a group is that of one of the series
pub group_key_from : (s : Sub) (series : List (List Pair)) (q : List Pair) → list_any (eq_by_cmp tags_cmp q) (group_keys s series) ≡ list_any (λ t. is_same_tags (group_key s t) q) series
group_key_from s series q = any_made (by_key s series) q ∙ any_key s series q

-- The ids of tags, in order.
use Rattle.std.proofs.Common.{◌≡◌, ⊎_elim, ℕ, ◌<◌, Bool, true, false, T, List, [], ◌∷◌, Option, None, Some, map, refl, sym, ap, subst, ◌∙◌, arith}
use Rattle.std.specs.Prelude.{AllPairs, Contains, if◌then◌else◌}
use Rattle.std.specs.Cmp.{nat_cmp_total}
use Rattle.std.specs.FinMap.{entries_sorted, from_entries, get-entries, get-from_entries, nat_cmp-IsAntisymmetric}
use Rattle.std.specs.FinMap.Entries as fin
use Rattle.std.specs.FinMap.Entries.{is_sorted, same_entries}
use Rattle.std.specs.Ordering.{eq_by_cmp, nat_cmp}
use Rattle.std.specs.declared.cmp.Ordering.TheVariants.{Less}
use Rattle.std.proofs.lemmas.Bool.Decides.{nat_tests}
use Rattle.std.proofs.lemmas.List.Elements.{All-contains, All-from_recursion}
use Rattle.tsd_base.specs.TagList.{Pair}
use Rattle.batch_job.specs.Conflicts.{ids_of_tag, pairs_of}
use Rattle.point_lines.specs.NameIds.{Names}
use Rattle.batch_job.proofs.Lower.{here, in_map, is_equal, map_in, not_in, same_Some, sorted_from_rising, split, there}
use Rattle.batch_job.proofs.MapLemmas.{Each-found}

find_has : (q : ℕ) (es : List (ℕ × ℕ)) (v : ℕ) → fin.find nat_cmp q es ≡ Some v → Contains es (q, v)
find_has q [] v e = absurd cc
find_has q (x ∷ es) v e = at (λ told. find_has q es v told) (eq_by_cmp nat_cmp q x.0) refl e
  where
    at : (fin.find nat_cmp q es ≡ Some v → Contains es (q, v)) → (b : Bool) → eq_by_cmp nat_cmp q x.0 ≡ b → (if b then Some x.1 else fin.find nat_cmp q es) ≡ Some v → Contains (x ∷ es) (q, v)
    at go true t is =
        let key : x.0 ≡ q = sym (nat_cmp-IsAntisymmetric q x.0 (is_equal _ t)) in
        let value : x.1 ≡ v = same_Some _ _ is in
        let same : ◌≡◌ {A = ℕ × ℕ} x (q, v) = λ i. (key i, value i) in
        subst (Contains (x ∷ es)) same (here x es)
    at go false t is = there x (q, v) es (go is)

has_find : (q v : ℕ) (es : List (ℕ × ℕ)) → Contains es (q, v) → fin.find nat_cmp q es ≡ None → ⊥
has_find q v [] has none = not_in (q, v) has
has_find q v (x ∷ es) has none = at (λ later told. has_find q v es later told) (eq_by_cmp nat_cmp q x.0) refl none
  where
    not_some : {a : ℕ} → Some a ≡ None → ⊥
    not_some e = cc

    itself : (a b : ℕ) → a ≡ b → eq_by_cmp nat_cmp a b ≡ true
    itself a b same = grind (arith, nat_tests)

    false_true : false ≡ true → ⊥
    false_true e = cc

    at : (Contains es (q, v) → fin.find nat_cmp q es ≡ None → ⊥) → (b : Bool) → eq_by_cmp nat_cmp q x.0 ≡ b → (if b then Some x.1 else fin.find nat_cmp q es) ≡ None → ⊥
    at go true t is = not_some is
    at go false t is = ⊎_elim
        (λ (same : ◌≡◌ {A = ℕ × ℕ} x (q, v)). false_true (sym t ∙ itself q x.0 (ap (λ (y : ℕ × ℕ). y.0) (sym same))))
        (λ (later : Contains es (q, v)). go later is)
        (split x (q, v) es has)

less_is : (a b : ℕ) → a < b → nat_cmp a b ≡ Less
less_is a b h = grind (arith, nat_tests)

module _ (names : Names) (tags : List Pair) (pairs : List (ℕ × ℕ)) (rising : AllPairs (λ p q. p.0 < q.0) pairs) (to : (t : Pair) → Contains tags t → Contains pairs (ids_of_tag names t)) (back : (p : ℕ × ℕ) → Contains pairs p → (t : Pair) × Contains tags t × (ids_of_tag names t ≡ p)) where
  abbrev es : List (ℕ × ℕ)
  es = map (ids_of_tag names) tags

  sorted : T (is_sorted nat_cmp pairs)
  sorted = sorted_from_rising nat_cmp pairs (λ i j d less within. less_is _ _ (rising i j d less within))

  found : (p : ℕ × ℕ) → Contains pairs p → fin.find nat_cmp p.0 pairs ≡ Some p.1
  found p has = All-contains (λ (x : ℕ × ℕ). fin.find nat_cmp x.0 pairs ≡ Some x.1) pairs p (All-from_recursion (λ (x : ℕ × ℕ). fin.find nat_cmp x.0 pairs ≡ Some x.1) pairs (Each-found nat_cmp nat_cmp_total pairs sorted)) has

  same_find : (q : ℕ) (o p : Option ℕ) → fin.find nat_cmp q es ≡ o → fin.find nat_cmp q pairs ≡ p → fin.find nat_cmp q es ≡ fin.find nat_cmp q pairs
  same_find q (Some v) p e f =
      let m = map_in (ids_of_tag names) tags (q, v) (find_has q es v e) in
      e ∙ sym (found (q, v) (subst (Contains pairs) m.2 (to m.0 m.1)))
  same_find q None None e f = e ∙ sym f
  same_find q None (Some w) e f =
      let t = back (q, w) (find_has q pairs w f) in
      absurd (has_find q w es (subst (Contains es) t.2 (in_map (ids_of_tag names) tags t.0 t.1)) e)

  pub pairs_are : pairs_of names tags ≡ pairs
  pairs_are =
      same_entries nat_cmp nat_cmp_total nat_cmp-IsAntisymmetric (pairs_of names tags) pairs (entries_sorted (from_entries {R = nat_cmp} es)) sorted
      (λ q. sym (get-entries (from_entries {R = nat_cmp} es) q) ∙ get-from_entries nat_cmp_total es q ∙ same_find q (fin.find nat_cmp q es) (fin.find nat_cmp q pairs) refl refl)

-- Names that were noted have each place once.
use Rattle.std.proofs.Common.{◌≡◌, ◌≢◌, ◌⊎◌, inl, inr, ℕ, ◌+◌, ◌≤◌, Bool, true, false, cond, List, [], ◌∷◌, ◌++◌, length, refl, sym, ap, subst, ◌∙◌, arith, length-append}
use Rattle.std.specs.Prelude.{Option, None, Some, Result, Ok, Err, Contains, is_some, nat_le, nat_lt}
use Rattle.std.specs.Option.{option_or}
use Rattle.std.specs.Cmp.Lexicographic.{nat_list_eq_equiv}
use Rattle.std.proofs.lemmas.Bool.{true≢false}
use Rattle.std.proofs.lemmas.List.Elements.{Contains-append_right}
use Rattle.list_lemmas.proofs.ListMembers.{here}
use Rattle.tsd_base.specs.Alphabet.{IsName}
use Rattle.tsd_base.specs.TagList.{is_same}
use Rattle.tsd_base.specs.declared.kinds.Kind.{Kind}
use Rattle.tsd_base.specs.declared.kinds.Kind.TheVariants.{Metric, TagKey, TagValue}
use Rattle.cell_model.specs.KindWidths.{Widths, greatest}
use Rattle.point_lines.specs.NameIds.{Names, id_in, list_of, no_names, with_listed, noted, noted_all, and_then_noted}
use Rattle.point_lines.proofs.CallerLemmas.{err_not_ok, grown, id_in-append, kinds, list_here, list_other, ok_is, same_bytes, same_list}

-- each place up to the length is that of a name, and what has a place is a name and the place is one of these
pub record HasPlaces (list : List (List ℕ)) : Type 0 where
  pub at : (k : ℕ) → 1 ≤ k → k ≤ length list → (m : List ℕ) × IsName m × (id_in list m ≡ Some k)
  pub named : (m : List ℕ) (k : ℕ) → id_in list m ≡ Some k → IsName m × (1 ≤ k) × (k ≤ length list)

none_some : {k : ℕ} → ◌≡◌ {A = Option ℕ} None (Some k) → ⊥
none_some e = cc

some_is : (j k : ℕ) → ◌≡◌ {A = Option ℕ} (Some j) (Some k) → j ≡ k
some_is j k e = cc

no_places : HasPlaces []
no_places = record { at = λ k low up. absurd (omega (arith, low, up)); named = λ m k is. absurd (none_some is) }

module _ (list : List (List ℕ)) (name : List ℕ) (is_name : IsName name) (fresh : id_in list name ≡ None) (has : HasPlaces list) where
  grown_length : length (list ++ name ∷ []) ≡ length list + 1
  grown_length = length-append list (name ∷ [])

  at_early : (k : ℕ) → 1 ≤ k → k ≤ length list → (m : List ℕ) × IsName m × (id_in (list ++ name ∷ []) m ≡ Some k)
  at_early k low up =
      let w = has.at k low up in
      (w.0, w.1, id_in-append list name w.0 ∙ ap (λ o. option_or o (cond (is_same name w.0) (Some (length list + 1)) None)) w.2)

  at_last : (m : List ℕ) × IsName m × (id_in (list ++ name ∷ []) m ≡ Some (length list + 1))
  at_last = (
    name,
    is_name,
    id_in-append list name name ∙ ap (λ o. option_or o (cond (is_same name name) (Some (length list + 1)) None)) fresh ∙ ap (λ b. cond b (Some (length list + 1)) None) (nat_list_eq_equiv.refl name),
  )

  at_place : (k : ℕ) → 1 ≤ k → k ≤ length (list ++ name ∷ []) → (m : List ℕ) × IsName m × (id_in (list ++ name ∷ []) m ≡ Some k)
  at_place k low up = by (nat_le k (length list)) refl
    where
      by : (b : Bool) → nat_le k (length list) ≡ b → (m : List ℕ) × IsName m × (id_in (list ++ name ∷ []) m ≡ Some k)
      by true e = at_early k low (grind (arith, e))
      by false e =
          let above : length list + 1 ≤ k = grind (arith, e) in
          let all = grown_length in
          let last : length list + 1 ≡ k = omega (arith, above, up, all) in
          subst (λ (j : ℕ). (m : List ℕ) × IsName m × (id_in (list ++ name ∷ []) m ≡ Some j)) last at_last

  named_place : (m : List ℕ) (k : ℕ) → id_in (list ++ name ∷ []) m ≡ Some k → IsName m × (1 ≤ k) × (k ≤ length (list ++ name ∷ []))
  named_place m k is = by (id_in list m) refl (is_same name m) refl (sym (id_in-append list name m) ∙ is)
    where
      by : (o : Option ℕ) → id_in list m ≡ o → (b : Bool) → is_same name m ≡ b → option_or o (cond b (Some (length list + 1)) None) ≡ Some k → IsName m × (1 ≤ k) × (k ≤ length (list ++ name ∷ []))
      by (Some j) was b same e =
          let w = has.named m j was in
          let j_is = some_is j k e in
          let low = w.1 in
          let up = w.2 in
          let all = grown_length in
          (w.0, omega (arith, low, j_is), omega (arith, up, j_is, all))
      by None was true same e =
          let k_is = some_is (length list + 1) k e in
          let all = grown_length in
          (subst IsName (same_bytes name m same) is_name, omega (arith, k_is), omega (arith, k_is, all))
      by None was false same e = absurd (none_some e)

  pub more_places : HasPlaces (list ++ name ∷ [])
  more_places = record { at = at_place; named = named_place }

-- the names of each kind have places
abbrev pub AllHavePlaces : Names → Type 0
AllHavePlaces names = (kind : Kind) → HasPlaces (list_of names kind)

none_have : AllHavePlaces no_names
none_have Metric = no_places
none_have TagKey = no_places
none_have TagValue = no_places

is_none : (o : Option ℕ) → is_some o ≡ false → o ≡ None
is_none None e = refl
is_none (Some k) e = absurd (true≢false e)

grown_have : (names : Names) (kind : Kind) (name : List ℕ) → IsName name → id_in (list_of names kind) name ≡ None → AllHavePlaces names → AllHavePlaces (grown names kind name)
grown_have names kind name is fresh have k = at (kinds kind k)
  where
    at : (kind ≡ k) ⊎ (kind ≢ k) → HasPlaces (list_of (grown names kind name) k)
    at (inl same) = subst (λ (x : Kind). HasPlaces (list_of (grown names kind name) x)) same (subst HasPlaces (sym (list_here names kind (list_of names kind ++ name ∷ []))) (more_places (list_of names kind) name is fresh (have kind)))
    at (inr other) = subst HasPlaces (sym (list_other names kind k (list_of names kind ++ name ∷ []) other)) (have k)

noted_so : (old : Names) (n : Kind × List ℕ) (new : Names) (here_ room : Bool) → is_some (id_in (list_of old n.0) n.1) ≡ here_
    → with_listed old n.0 (cond here_ (Some (list_of old n.0)) (cond room (Some (list_of old n.0 ++ n.1 ∷ [])) None)) ≡ Ok new → IsName n.1 → AllHavePlaces old → AllHavePlaces new
noted_so old n new true room e is name have = subst AllHavePlaces (sym (same_list old n.0) ∙ ok_is _ _ is) have
noted_so old n new false true e is name have = subst AllHavePlaces (ok_is _ _ is) (grown_have old n.0 n.1 name (is_none _ e) have)
noted_so old n new false false e is name have = absurd (err_not_ok is)

noted_one : (w : Widths) (old : Names) (n : Kind × List ℕ) (new : Names) → noted w old n.0 n.1 ≡ Ok new → IsName n.1 → AllHavePlaces old → AllHavePlaces new
noted_one w old n new is = noted_so old n new (is_some (id_in (list_of old n.0) n.1)) (nat_lt (length (list_of old n.0)) (greatest w n.0)) refl is

noted_rest : (w : Widths) (r : Result Names Kind) (old : Names) (n : Kind × List ℕ) (ns : List (Kind × List ℕ)) (new : Names) → ((mid : Names) → noted_all w mid ns ≡ Ok new → AllHavePlaces mid → AllHavePlaces new)
    → noted w old n.0 n.1 ≡ r → and_then_noted r (λ more. noted_all w more ns) ≡ Ok new → IsName n.1 → AllHavePlaces old → AllHavePlaces new
noted_rest w (Ok mid) old n ns new rest is e name have = rest mid e (noted_one w old n mid is name have)
noted_rest w (Err kind) old n ns new rest is e name have = absurd (err_not_ok e)

all_noted : (w : Widths) (old : Names) (ns : List (Kind × List ℕ)) (new : Names) → noted_all w old ns ≡ Ok new → ((n : Kind × List ℕ) → Contains ns n → IsName n.1) → AllHavePlaces old → AllHavePlaces new
all_noted w old [] new e are have = subst AllHavePlaces (ok_is _ _ e) have
all_noted w old (n ∷ ns) new e are have =
    noted_rest w (noted w old n.0 n.1) old n ns new (λ mid is. all_noted w mid ns new is (λ m c. are m (Contains-append_right (n ∷ []) ns m c))) refl e (are n (here n ns)) have

-- from nothing on
pub places : (w : Widths) (ns : List (Kind × List ℕ)) (names : Names) → noted_all w no_names ns ≡ Ok names → ((n : Kind × List ℕ) → Contains ns n → IsName n.1) → AllHavePlaces names
places w ns names is are = all_noted w no_names ns names is are none_have

-- What is known of the values at the offsets of a row, behind one more dot and behind the dots of a cell.
use Rattle.std.proofs.Common.{◌≡◌, ◌≢◌, ◌⊎◌, inl, inr, ℕ, ℤ, ◌+◌, ◌<◌, ◌≤◌, Bool, true, false, cond, List, [], ◌∷◌, ◌++◌, length, take, get_or, refl, sym, ap, subst, ◌∙◌, rules}
use Rattle.std.specs.Prelude.{MatchBool, Option, None, Some, Contains, nat_eq, ◌||◌}
use Rattle.std.specs.Ordering.{int_eq}
use Rattle.std.proofs.lemmas.List.Elements.{Contains-append_left, Contains-append_right, Contains-append_cases}
use Rattle.list_lemmas.proofs.BoolTests.{nat_eq_is, nat_eq-same}
use Rattle.list_lemmas.proofs.ListCuts.{joined, nothing_behind, take_next, take_none, take_whole}
use Rattle.list_lemmas.proofs.ListMembers.{here, split, not_in}
use Rattle.qual_codec.specs.declared.cells.Dot.{Dot}
use Rattle.listing_check.specs.declared.row_values.OffsetValues.{OffsetValues}
use Rattle.listing_check.specs.declared.row_values.OffsetValues.TheVariants.{One, Several}
use Rattle.listing_check.specs.declared.row_values.RowValues.{RowValues}
use Rattle.listing_check.specs.RowValues.{AddsDot, AddsDots, AllHave, HasClash, HasOther, HasValue, IsKnown, Keeps, values_at}

-- ---- one more dot

in_old : (dots : List Dot) (d e : Dot) → Contains dots e → Contains (dots ++ d ∷ []) e
in_old dots d e c = Contains-append_left dots (d ∷ []) e c

in_end : (dots : List Dot) (d : Dot) → Contains (dots ++ d ∷ []) d
in_end dots d = Contains-append_right dots (d ∷ []) d (here d [])

-- a dot of these is one before or the last
pub which : (dots : List Dot) (d e : Dot) → Contains (dots ++ d ∷ []) e → Contains dots e ⊎ (d ≡ e)
which dots d e c = elim (Contains-append_cases dots (d ∷ []) e c) [ inl before ↦ inl before | inr last ↦ elim (split d e [] last) [ inl same ↦ inr same | inr none ↦ absurd (not_in e none) ] ]

other_more : (dots : List Dot) (d : Dot) (offset : ℕ) (value : ℤ) → HasOther dots offset value → HasOther (dots ++ d ∷ []) offset value
other_more dots d offset value h = record { dot = h.dot; is_in = in_old dots d h.dot h.is_in; offset_is = h.offset_is; differs = h.differs }

-- two values: each other one differs from one of them
one_differs : (a b v : ℤ) → a ≢ b → (a ≢ v) ⊎ (b ≢ v)
one_differs a b v ne = at (int_eq a v) refl
  where
    at : (t : Bool) → int_eq a v ≡ t → (a ≢ v) ⊎ (b ≢ v)
    at true e = inr (λ same. ne (int_same a v e ∙ sym same))
      where
        int_same : (x y : ℤ) → int_eq x y ≡ true → x ≡ y
        int_same x y e = search (rules, e)
    at false e = inl (λ same. let t : int_eq a a ≡ false = ap (int_eq a) same ∙ e in int_not a t)
      where
        int_not : (x : ℤ) → int_eq x x ≡ false → ⊥
        int_not x e = search (rules, e)

module _ (dots : List Dot) (d : Dot) where
  abbrev more : List Dot
  more = dots ++ d ∷ []

  -- at other offsets all is as it was
  elsewhere : (offset : ℕ) (o : Option OffsetValues) → (d.item.offset ≡ offset → ⊥) → IsKnown dots offset o → IsKnown more offset o
  elsewhere offset None ne k = λ e c is. elim (which dots d e c) [ inl before ↦ k e before is | inr same ↦ ne (ap (λ (x : Dot). x.item.offset) same ∙ is) ]
  elsewhere offset (Some (One value)) ne k = (
    record { dot = k.0.dot; is_in = in_old dots d k.0.dot k.0.is_in; offset_is = k.0.offset_is; value_is = k.0.value_is },
    λ e c is. elim (which dots d e c) [ inl before ↦ k.1 e before is | inr same ↦ absurd (ne (ap (λ (x : Dot). x.item.offset) same ∙ is)) ],
  )
  elsewhere offset (Some Several) ne k = λ value. other_more dots d offset value (k value)

  known_one : (value : ℤ) → AllHave dots d.item.offset value → value ≡ d.value → IsKnown more d.item.offset (Some (One value))
  known_one value all same = (
    record { dot = d; is_in = in_end dots d; offset_is = refl; value_is = sym same },
    λ e c is. elim (which dots d e c) [ inl before ↦ all e before is | inr last ↦ sym (ap (λ (x : Dot). x.value) last) ∙ sym same ],
  )

  known_several : (value : ℤ) → HasValue dots d.item.offset value → value ≢ d.value → IsKnown more d.item.offset (Some Several)
  known_several value h ne v = elim (one_differs value d.value v ne) [
    | inl first ↦ record { dot = h.dot; is_in = in_old dots d h.dot h.is_in; offset_is = h.offset_is; differs = λ is. first (sym h.value_is ∙ is) }
    | inr second ↦ record { dot = d; is_in = in_end dots d; offset_is = refl; differs = second }
  ]

  module _ (old new : RowValues) (k : Keeps dots old) where
    -- what is kept now, where the offset of the dot is as it should be, and all others are as they were
    kept_all : (now : Option OffsetValues) → IsKnown more d.item.offset now → ((o : ℕ) → values_at new o ≡ cond (nat_eq d.item.offset o) now (values_at old o)) → Keeps more new
    kept_all now is same o = at (nat_eq d.item.offset o) refl (same o)
      where
        at : (t : Bool) → nat_eq d.item.offset o ≡ t → values_at new o ≡ cond t now (values_at old o) → IsKnown more o (values_at new o)
        at true e there = subst (IsKnown more o) (sym there) (subst (λ n. IsKnown more n now) (nat_eq_is d.item.offset o e) is)
        at false e there = subst (IsKnown more o) (sym there) (elsewhere o (values_at old o) (λ same. (let no : false ≡ true = sym e ∙ nat_eq-same d.item.offset o same in cc)) (k o))

    unchanged : (o : ℕ) → new ≡ old → values_at new o ≡ cond (nat_eq d.item.offset o) (values_at old d.item.offset) (values_at old o)
    unchanged o is = at (nat_eq d.item.offset o) refl
      where
        at : (t : Bool) → nat_eq d.item.offset o ≡ t → values_at new o ≡ cond t (values_at old d.item.offset) (values_at old o)
        at true e = ap (λ (v : RowValues). values_at v o) is ∙ ap (values_at old) (sym (nat_eq_is d.item.offset o e))
        at false e = ap (λ (v : RowValues). values_at v o) is

    pub first_added : values_at old d.item.offset ≡ None → ((o : ℕ) → values_at new o ≡ cond (nat_eq d.item.offset o) (Some (One d.value)) (values_at old o)) → AddsDot dots d false new
    first_added none same =
        let no : IsKnown dots d.item.offset None = subst (IsKnown dots d.item.offset) none (k d.item.offset) in
        record {
          told = λ h. no h.dot h.is_in h.offset_is;
          kept = kept_all (Some (One d.value)) (known_one d.value (λ e c is. absurd (no e c is)) refl) same;
        }

    pub same_added : (value : ℤ) → values_at old d.item.offset ≡ Some (One value) → value ≡ d.value → new ≡ old → AddsDot dots d false new
    same_added value one is same =
        let h : IsKnown dots d.item.offset (Some (One value)) = subst (IsKnown dots d.item.offset) one (k d.item.offset) in
        record {
          told = λ o. o.differs (h.1 o.dot o.is_in o.offset_is ∙ is);
          kept = kept_all (values_at old d.item.offset) (subst (IsKnown more d.item.offset) (sym one) (known_one value h.1 is)) (λ o. unchanged o same);
        }

    pub other_added : (value : ℤ) → values_at old d.item.offset ≡ Some (One value) → value ≢ d.value → ((o : ℕ) → values_at new o ≡ cond (nat_eq d.item.offset o) (Some Several) (values_at old o)) → AddsDot dots d true new
    other_added value one ne same =
        let h : IsKnown dots d.item.offset (Some (One value)) = subst (IsKnown dots d.item.offset) one (k d.item.offset) in
        record {
          told = record { dot = h.0.dot; is_in = h.0.is_in; offset_is = h.0.offset_is; differs = λ is. ne (sym h.0.value_is ∙ is) };
          kept = kept_all (Some Several) (known_several value h.0 ne) same;
        }

    pub several_added : values_at old d.item.offset ≡ Some Several → new ≡ old → AddsDot dots d true new
    several_added several same =
        let h : IsKnown dots d.item.offset (Some Several) = subst (IsKnown dots d.item.offset) several (k d.item.offset) in
        record {
          told = h d.value;
          kept = kept_all (values_at old d.item.offset) (subst (IsKnown more d.item.offset) (sym several) (λ value. other_more dots d d.item.offset value (h value))) (λ o. unchanged o same);
        }

-- ---- the dots of a cell

clash_step : (all own : List Dot) (d : Dot) (b c : Bool) → ((e : Dot) → Contains own e → Contains all e)
    → MatchBool b (HasClash all own) (HasClash all own → ⊥) → MatchBool c (HasOther all d.item.offset d.value) (HasOther all d.item.offset d.value → ⊥)
    → MatchBool (b || c) (HasClash (all ++ d ∷ []) (own ++ d ∷ [])) (HasClash (all ++ d ∷ []) (own ++ d ∷ []) → ⊥)
clash_step all own d true c within told other = record { one = told.one; in_all = in_old all d told.one told.in_all; other = told.other; in_own = in_old own d told.other told.in_own; offset = told.offset; values = told.values }
clash_step all own d false true within told other = record { one = other.dot; in_all = in_old all d other.dot other.is_in; other = d; in_own = in_end own d; offset = other.offset_is; values = other.differs }
clash_step all own d false false within told other = λ h.
    elim (which all d h.one h.in_all) [
      | inl before ↦ elim (which own d h.other h.in_own) [
        | inl own ↦ told (record { one = h.one; in_all = before; other = h.other; in_own = own; offset = h.offset; values = h.values })
        | inr last ↦ other (record { dot = h.one; is_in = before; offset_is = h.offset ∙ sym (ap (λ (x : Dot). x.item.offset) last); differs = λ is. h.values (is ∙ ap (λ (x : Dot). x.value) last) })
      ]
      | inr last ↦ elim (which own d h.other h.in_own) [
        | inl own ↦ other (record { dot = h.other; is_in = within h.other own; offset_is = sym h.offset ∙ sym (ap (λ (x : Dot). x.item.offset) last); differs = λ is. h.values (sym (ap (λ (x : Dot). x.value) last) ∙ sym is) })
        | inr both ↦ h.values (sym (ap (λ (x : Dot). x.value) last) ∙ ap (λ (x : Dot). x.value) both)
      ]
    ]

-- so many dots of a cell were added
abbrev pub SoMany : List Dot → ℕ → RowValues → Bool → RowValues → Type 0
SoMany own at old clashes new = (dots : List Dot) → Keeps dots old → AddsDots dots (take at own) clashes new

pub none_added : (own : List Dot) (old : RowValues) → SoMany own 0 old false old
none_added own old dots k = record {
  told = λ h. not_in h.other (subst (λ (ds : List Dot). Contains ds h.other) (take_none own) h.in_own);
  kept = subst (λ (ds : List Dot). Keeps ds old) (sym (ap (λ (ds : List Dot). dots ++ ds) (take_none own) ∙ nothing_behind dots)) k;
}

pub one_added : (own : List Dot) (at : ℕ) (d : Dot) (old mid new : RowValues) (b c : Bool) → at < length own → d ≡ get_or own at d → SoMany own at old b mid
    → ((dots : List Dot) → Keeps dots mid → AddsDot dots d c new) → SoMany own (at + 1) old (b || c) new
one_added own at d old mid new b c lt is before adds dots k =
    let a = before dots k in
    let x = adds (dots ++ take at own) a.kept in
    let next : take (at + 1) own ≡ take at own ++ d ∷ [] = take_next own at d lt ∙ ap (λ (e : Dot). take at own ++ e ∷ []) (sym is) in
    let all : (dots ++ take at own) ++ d ∷ [] ≡ dots ++ take (at + 1) own = joined dots (take at own) (d ∷ []) ∙ ap (λ (ds : List Dot). dots ++ ds) (sym next) in
    record {
      told = subst (λ (p : List Dot × List Dot). MatchBool (b || c) (HasClash p.0 p.1) (HasClash p.0 p.1 → ⊥)) (λ i. (all i, sym next i)) (clash_step (dots ++ take at own) (take at own) d b c (λ e i. Contains-append_right dots (take at own) e i) a.told x.told);
      kept = subst (λ (ds : List Dot). Keeps ds new) all x.kept;
    }

pub all_added : (own : List Dot) (at : ℕ) (old new : RowValues) (b : Bool) → length own ≤ at → SoMany own at old b new → (dots : List Dot) → Keeps dots old → AddsDots dots own b new
all_added own at old new b end many dots k = subst (λ (ds : List Dot). AddsDots dots ds b new) (take_whole own at end) (many dots k)

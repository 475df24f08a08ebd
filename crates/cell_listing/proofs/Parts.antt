-- Parts between bytes, one after the other.
use Rattle.std.proofs.Common.{◌≡◌, ℕ, ◌+◌, ◌≤◌, Bool, true, false, cond, List, [], ◌∷◌, length, drop, refl, sym, ap, subst, ◌∙◌, arith}
use Rattle.std.specs.Prelude.{Option, None, Some, MatchOption, nat_eq, nat_lt}
use Rattle.std.specs.Option.{option_map}
use Rattle.std.specs.List.{position_or_len}
use Rattle.std.proofs.lemmas.Bool.{ltb-true}
use Rattle.std.proofs.lemmas.Bool.Decides.{nat_tests}
use Rattle.std.proofs.lemmas.List.Splits.{slice_split_first, slice_split_none}
use Rattle.std.proofs.lemmas.List.Sums.{fails_before_first}
use Rattle.cell_listing.specs.Cuts.{up_to, before, behind, parts_by}

-- the first part, and those behind the byte, if it is there
abbrev pub Steps : ℕ → List ℕ → List ℕ → Option (List ℕ) → Type 0
Steps byte text first rest = MatchOption rest (parts_by byte text ≡ first ∷ []) (λ r. parts_by byte text ≡ first ∷ parts_by byte r)

not_lt : (m n : ℕ) → nat_lt m n ≡ false → n ≤ m
not_lt m n e = grind (arith, nat_tests, e)

module _ (byte : ℕ) (text : List ℕ) where
  abbrev is : ℕ → Bool
  is b = nat_eq b byte

  abbrev at : ℕ
  at = position_or_len is text

  step : (b : Bool) → nat_lt at (length text) ≡ b → Steps byte text (up_to text (cond b (Some at) None)) (option_map (λ n. drop (n + 1) text) (cond b (Some at) None))
  step true e = slice_split_first is text 0 (ltb-true _ _ e)
  step false e = slice_split_none is text (λ k d lt. fails_before_first is text k d (let le = not_lt at (length text) e in omega (arith, lt, le)))

  pub first_step : Steps byte text (before byte text) (behind byte text)
  first_step = step (nat_lt at (length text)) refl

-- so the first part, by what a cut tells
pub parts_first : (byte : ℕ) (text first : List ℕ) (rest : Option (List ℕ)) → first ≡ before byte text → rest ≡ behind byte text → Steps byte text first rest
parts_first byte text first rest f r = subst (λ (o : Option (List ℕ)). Steps byte text first o) (sym r) (subst (λ (x : List ℕ). Steps byte text x (behind byte text)) (sym f) (first_step byte text))

-- and there is one
pub some_part : (byte : ℕ) (text : List ℕ) → (first : List ℕ) × (more : List (List ℕ)) × (parts_by byte text ≡ first ∷ more)
some_part byte text = at (before byte text) (behind byte text) (first_step byte text)
  where
    at : (first : List ℕ) (o : Option (List ℕ)) → Steps byte text first o → (first : List ℕ) × (more : List (List ℕ)) × (parts_by byte text ≡ first ∷ more)
    at first None e = (first, [], e)
    at first (Some r) e = (first, parts_by byte r, e)

-- ---- what a cut tells of the parts, where more stands behind it and where nothing does

module _ (byte : ℕ) (text first : List ℕ) (rest : Option (List ℕ)) (f : first ≡ before byte text) (r : rest ≡ behind byte text) where
  pub parts_last : rest ≡ None → parts_by byte text ≡ first ∷ []
  parts_last e = subst (Steps byte text first) e (parts_first byte text first rest f r)

  pub parts_more : (more : List ℕ) → rest ≡ Some more → parts_by byte text ≡ first ∷ parts_by byte more
  parts_more more e = subst (Steps byte text first) e (parts_first byte text first rest f r)

  pub parts_two : (more : List ℕ) → rest ≡ Some more → (next : List ℕ) × (others : List (List ℕ)) × (parts_by byte text ≡ first ∷ next ∷ others)
  parts_two more e = let p = some_part byte more in (p.0, p.1, parts_more more e ∙ ap (λ (ps : List (List ℕ)). first ∷ ps) p.2)

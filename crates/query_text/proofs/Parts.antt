-- Parts between bytes, one after the other.
use Rattle.std.proofs.Common.{◌≡◌, ℕ, ◌+◌, ◌≤◌, Bool, true, false, cond, List, [], ◌∷◌, ◌++◌, length, drop, refl, sym, ap, subst, ◌∙◌, arith, append_assoc}
use Rattle.std.specs.Prelude.{Option, None, Some, MatchOption, nat_eq, nat_lt, ◌&&◌}
use Rattle.std.specs.Option.{option_map}
use Rattle.std.specs.List.{position_or_len, list_all}
use Rattle.std.proofs.lemmas.Bool.{ltb-true, cond-true, cond-false}
use Rattle.std.proofs.lemmas.Bool.Decides.{nat_tests}
use Rattle.std.proofs.lemmas.List.Folds.{list_all-append}
use Rattle.std.proofs.lemmas.Option.{none-some, same_Some}
use Rattle.std.proofs.lemmas.List.Splits.{slice_split_first, slice_split_none}
use Rattle.std.proofs.lemmas.List.Sums.{fails_before_first}
use Rattle.tsd_base.specs.Alphabet.{is_name}
use Rattle.query_text.specs.Cuts.{up_to, before, behind, parts_by}
use Rattle.query_text.specs.FilterTexts.{names_of}

-- the first part, and those behind the byte, if it is there
abbrev pub Steps : ℕ → List ℕ → List ℕ → Option (List ℕ) → Type 0
Steps byte text first rest = MatchOption rest (parts_by byte text ≡ first ∷ []) (λ r. parts_by byte text ≡ first ∷ parts_by byte r)

not_lt : (m n : ℕ) → nat_lt m n ≡ false → n ≤ m
not_lt m n e = grind (arith, nat_tests, e)

module _ (byte : ℕ) (text : List ℕ) where
  abbrev is : ℕ → Bool
  is b = nat_eq b byte

  abbrev at : ℕ
  at = position_or_len is text

  step : (b : Bool) → nat_lt at (length text) ≡ b → Steps byte text (up_to text (cond b (Some at) None)) (option_map (λ n. drop (n + 1) text) (cond b (Some at) None))
  step true e = slice_split_first is text 0 (ltb-true _ _ e)
  step false e = slice_split_none is text (λ k d lt. fails_before_first is text k d (let le = not_lt at (length text) e in omega (arith, lt, le)))

  pub first_step : Steps byte text (before byte text) (behind byte text)
  first_step = step (nat_lt at (length text)) refl

pub parts_last : (byte : ℕ) (text : List ℕ) (first : List ℕ) (rest : Option (List ℕ)) → first ≡ before byte text → rest ≡ behind byte text → rest ≡ None → parts_by byte text ≡ first ∷ []
parts_last byte text first rest f r none = subst (λ (o : Option (List ℕ)). MatchOption o (parts_by byte text ≡ first ∷ []) (λ x. parts_by byte text ≡ first ∷ parts_by byte x)) none (subst (λ (o : Option (List ℕ)). Steps byte text first o) (sym r) (subst (λ (x : List ℕ). Steps byte text x (behind byte text)) (sym f) (first_step byte text)))

pub parts_more : (byte : ℕ) (text : List ℕ) (first more : List ℕ) (rest : Option (List ℕ)) → first ≡ before byte text → rest ≡ behind byte text → rest ≡ Some more → parts_by byte text ≡ first ∷ parts_by byte more
parts_more byte text first more rest f r some = subst (λ (o : Option (List ℕ)). MatchOption o (parts_by byte text ≡ first ∷ []) (λ x. parts_by byte text ≡ first ∷ parts_by byte x)) some (subst (λ (o : Option (List ℕ)). Steps byte text first o) (sym r) (subst (λ (x : List ℕ). Steps byte text x (behind byte text)) (sym f) (first_step byte text)))

-- a name that was read, or none
pub is_a_name : (bytes name : List ℕ) → Some name ≡ cond (is_name bytes) (Some bytes) None → (is_name bytes ≡ true) × (name ≡ bytes)
is_a_name bytes name e = at (is_name bytes) e
  where
    at : (b : Bool) → Some name ≡ cond b (Some bytes) None → (b ≡ true) × (name ≡ bytes)
    at true e = (refl, same_Some _ _ e)
    at false e = absurd (none-some name (sym e))

pub is_no_name : (bytes : List ℕ) → None ≡ cond (is_name bytes) (Some bytes) None → is_name bytes ≡ false
is_no_name bytes e = at (is_name bytes) e
  where
    at : (b : Bool) → None ≡ cond b (Some bytes) None → b ≡ false
    at true e = absurd (none-some bytes e)
    at false e = refl

-- these are names, and the first parts of the text
pub record NamesKept (text : List ℕ) (names : List (List ℕ)) (rest : List ℕ) : Type 0 where
  pub parts : parts_by 124 text ≡ names ++ parts_by 124 rest
  pub all : list_all is_name names ≡ true

pub names_none : (text : List ℕ) (names : List (List ℕ)) → names ≡ [] → NamesKept text names text
names_none text names e = record { parts = ap (λ (ns : List (List ℕ)). ns ++ parts_by 124 text) (sym e); all = ap (list_all is_name) e }

all_with : (names : List (List ℕ)) (name : List ℕ) (more : List (List ℕ)) → list_all is_name (names ++ name ∷ more) ≡ (list_all is_name names && (is_name name && list_all is_name more))
all_with names name more = list_all-append is_name names (name ∷ more)

pub names_push : (text : List ℕ) (names : List (List ℕ)) (rest name : List ℕ) (more : List ℕ) (new : List (List ℕ)) → NamesKept text names rest → is_name name ≡ true → parts_by 124 rest ≡ name ∷ parts_by 124 more → new ≡ names ++ name ∷ []
    → NamesKept text new more
names_push text names rest name more new kept is parts e = record {
  parts = kept.parts ∙ ap (λ (ps : List (List ℕ)). names ++ ps) parts ∙ sym (append_assoc names (name ∷ []) (parts_by 124 more)) ∙ ap (λ (ns : List (List ℕ)). ns ++ parts_by 124 more) (sym e);
  all = ap (list_all is_name) e ∙ all_with names name [] ∙ (λ i. kept.all i && (is i && true));
}

pub names_all : (text : List ℕ) (names : List (List ℕ)) (rest name : List ℕ) (new : List (List ℕ)) → NamesKept text names rest → is_name name ≡ true → parts_by 124 rest ≡ name ∷ [] → new ≡ names ++ name ∷ []
    → Some new ≡ names_of text
names_all text names rest name new kept is parts e =
    let whole : parts_by 124 text ≡ new = kept.parts ∙ ap (λ (ps : List (List ℕ)). names ++ ps) parts ∙ sym e in
    let all : list_all is_name new ≡ true = ap (list_all is_name) e ∙ all_with names name [] ∙ (λ i. kept.all i && (is i && true)) in
    sym ((λ i. cond (list_all is_name (whole i)) (Some (whole i)) None) ∙ cond-true _ _ _ all)

pub names_not : (text : List ℕ) (names : List (List ℕ)) (rest name : List ℕ) (more : List (List ℕ)) → NamesKept text names rest → is_name name ≡ false → parts_by 124 rest ≡ name ∷ more → None ≡ names_of text
names_not text names rest name more kept is parts =
    let whole : parts_by 124 text ≡ names ++ name ∷ more = kept.parts ∙ ap (λ (ps : List (List ℕ)). names ++ ps) parts in
    let some : list_all is_name (names ++ name ∷ more) ≡ false = all_with names name more ∙ (λ i. kept.all i && (is i && list_all is_name more)) in
    sym ((λ i. cond (list_all is_name (whole i)) (Some (whole i)) None) ∙ cond-false _ _ _ some)

-- the first part, whatever stands behind it
pub first_part : (byte : ℕ) (text first : List ℕ) → first ≡ before byte text → (more : List (List ℕ)) × (parts_by byte text ≡ first ∷ more)
first_part byte text first f = at (behind byte text) (first_step byte text)
  where
    at : (o : Option (List ℕ)) → Steps byte text (before byte text) o → (more : List (List ℕ)) × (parts_by byte text ≡ first ∷ more)
    at None e = ([], e ∙ ap (λ (x : List ℕ). x ∷ []) (sym f))
    at (Some r) e = (parts_by byte r, e ∙ ap (λ (x : List ℕ). x ∷ parts_by byte r) (sym f))

-- Names between commas, one after the other.
use Rattle.std.proofs.Common.{◌≡◌, ℕ, ◌+◌, ◌≤◌, Bool, true, false, cond, List, [], ◌∷◌, ◌++◌, length, take, drop, refl, sym, ap, ◌∙◌, arith, append_assoc}
use Rattle.std.specs.Prelude.{None, Some, nat_eq, nat_lt, position}
use Rattle.std.specs.List.{position_or_len}
use Rattle.std.proofs.lemmas.Bool.{ltb-true}
use Rattle.std.proofs.lemmas.Bool.Decides.{nat_tests}
use Rattle.std.proofs.lemmas.Option.{none-some, same_Some}
use Rattle.std.proofs.lemmas.List.Splits.{slice_split_first, slice_split_none}
use Rattle.std.proofs.lemmas.List.Sums.{fails_before_first}
use Rattle.name_requests.specs.AssignRequests.{comma_names}

abbrev is_comma : ℕ → Bool
is_comma b = nat_eq b 44

not_lt : (m n : ℕ) → nat_lt m n ≡ false → n ≤ m
not_lt m n e = grind (arith, nat_tests, e)

module _ (text : List ℕ) where
  abbrev at : ℕ
  at = position_or_len is_comma text

  first_by : (n : ℕ) (b : Bool) → nat_lt at (length text) ≡ b → Some n ≡ cond b (Some at) None → comma_names text ≡ take n text ∷ comma_names (drop (n + 1) text)
  first_by n true lt e = rw (same_Some _ _ e) (slice_split_first is_comma text 0 (ltb-true _ _ lt))
  first_by n false lt e = absurd (none-some n (sym e))

  last_by : (b : Bool) → nat_lt at (length text) ≡ b → None ≡ cond b (Some at) None → comma_names text ≡ text ∷ []
  last_by true lt e = absurd (none-some at e)
  last_by false past e = slice_split_none is_comma text (λ k d lt. fails_before_first is_comma text k d (let le = not_lt at (length text) past in omega (arith, lt, le)))

pub name_pushed : (names new : List (List ℕ)) (text rest name later : List ℕ) (n : ℕ) → Some n ≡ position is_comma rest → name ≡ take n rest → later ≡ drop (n + 1) rest → new ≡ names ++ name ∷ []
    → names ++ comma_names rest ≡ comma_names text → new ++ comma_names later ≡ comma_names text
name_pushed names new text rest name later n found is behind pushed so_far =
    let whole : comma_names rest ≡ name ∷ comma_names later = first_by rest n (nat_lt (at rest) (length rest)) refl found ∙ (λ i. sym is i ∷ comma_names (sym behind i)) in
    ap (λ (ns : List (List ℕ)). ns ++ comma_names later) pushed ∙ append_assoc names (name ∷ []) (comma_names later) ∙ sym (ap (λ (ns : List (List ℕ)). names ++ ns) whole) ∙ so_far

pub names_end : (names new : List (List ℕ)) (text rest name : List ℕ) → None ≡ position is_comma rest → name ≡ rest → new ≡ names ++ name ∷ [] → names ++ comma_names rest ≡ comma_names text → new ≡ comma_names text
names_end names new text rest name none is pushed so_far =
    pushed ∙ ap (λ (n : List ℕ). names ++ n ∷ []) is ∙ sym (ap (λ (ns : List (List ℕ)). names ++ ns) (last_by rest (nat_lt (at rest) (length rest)) refl none)) ∙ so_far

-- The parts of a text with `*` in it, in a value.
use Rattle.std.proofs.Common.{◌≡◌, ℕ, zero, suc, ◌+◌, ◌-◌, ◌<◌, ◌≤◌, Bool, true, false, ◌&&◌, ◌||◌, List, [], ◌∷◌, ◌++◌, length, take, drop, refl, sym, ap, subst, ◌∙◌, arith, rules, ⊎_elim}
use Rattle.std.specs.Prelude.{Option, None, Some, ◌↔◌, IsTrue}
use Rattle.std.specs.Cmp.Lexicographic.{same_text}
use Rattle.std.proofs.lemmas.Bool.{true≢false, or_left, or_right, or_cases, and_from, cases_lt}
use Rattle.std.proofs.Math.Seq.{drop-nil, take-append_seam, drop-append_seam}
use Rattle.std.proofs.lemmas.List.{take-append-drop}
use Rattle.list_lemmas.proofs.BoolTests.{both_true}
use Rattle.tsd_base.specs.TagList.{is_same}
use Rattle.query_text.specs.Cuts.{before, behind, parts_by}
use Rattle.query_text.proofs.Parts.{parts_last, parts_more, first_part}
use Rattle.group_by.specs.Wildcards.{begins, some_end, fills, fits, IsFilled, Fits, passes_behind}

-- two tests that hold together are the same
same_tests : (x y : Bool) → (x ≡ true → y ≡ true) → (y ≡ true → x ≡ true) → x ≡ y
same_tests true y f g = sym (f refl)
same_tests false true f g = g refl
same_tests false false f g = refl

same_is : (x y : List ℕ) → is_same x y ≡ true → x ≡ y
same_is x y e = same_text x y (sym e)

same_refl : (x : List ℕ) → is_same x x ≡ true
same_refl x = search rules

-- what passes with a byte less passes with it
drop_longer : (f : List ℕ → Bool) (n b : ℕ) (value : List ℕ) → some_end f (drop n value) ≡ true → some_end f (drop n (b ∷ value)) ≡ true
drop_longer f zero b value e = or_right _ _ e
drop_longer f (suc n) b [] e = ap (some_end f) (drop-nil n) ∙ e
drop_longer f (suc n) b (c ∷ value) e = drop_longer f n c value e

-- where the part begins an end of the value, and an end behind it passes, so does one behind as many bytes of the value
behind_later : (f : List ℕ → Bool) (part value : List ℕ) → some_end (begins part (some_end f)) value ≡ true → some_end f (drop (length part) value) ≡ true
behind_later f part [] e = (both_true _ _ e).1
behind_later f part (b ∷ value) e = ⊎_elim (λ here. (both_true _ _ here).1) (λ later. drop_longer f (length part) b value (behind_later f part value later)) (or_cases _ _ e)

begins_end : (f : List ℕ → Bool) (part value : List ℕ) → begins part (some_end f) value ≡ true → some_end (begins part (some_end f)) value ≡ true
begins_end f part [] e = e
begins_end f part (b ∷ value) e = or_left _ _ e

-- a part that is found here need not be looked for behind
pub found_here : (f : List ℕ → Bool) (part value : List ℕ) → is_same (take (length part) value) part ≡ true → some_end (begins part (some_end f)) value ≡ some_end f (drop (length part) value)
found_here f part value here = same_tests _ _ (behind_later f part value) (λ e. begins_end f part value (and_from _ _ here e))

-- one that isn't found here is looked for behind the first byte
pub not_here : (f : List ℕ → Bool) (part : List ℕ) (b : ℕ) (value : List ℕ) → is_same (take (length part) (b ∷ value)) part ≡ false → some_end (begins part (some_end f)) (b ∷ value) ≡ some_end (begins part (some_end f)) value
not_here f part b value e = ap (λ (t : Bool). (t && some_end f (drop (length part) (b ∷ value))) || some_end (begins part (some_end f)) value) e

pub not_in_none : (f : List ℕ → Bool) (part : List ℕ) → is_same (take (length part) []) part ≡ false → some_end (begins part (some_end f)) [] ≡ false
not_in_none f part e = ap (λ (t : Bool). t && some_end f (drop (length part) [])) e

differs : (part value : List ℕ) → (length part ≡ length value → ⊥) → is_same part value ≡ false
differs part value apart = at (is_same part value) refl
  where
    at : (t : Bool) → is_same part value ≡ t → t ≡ false
    at true e = absurd (apart (ap length (same_is part value e)))
    at false e = refl

-- the last part is an end of the value where the value ends with it
last_end : (part value : List ℕ) → some_end (fills (part ∷ [])) value ≡ is_same part (drop (length value - length part) value)
last_end part [] = ap (is_same part) (sym (drop-nil (0 - length part)))
last_end part (b ∷ value) = ⊎_elim (shorter (last_end part value)) (longer (last_end part value)) (cases_lt (length value) (length part))
  where
    Behind : Type 0
    Behind = some_end (fills (part ∷ [])) value ≡ is_same part (drop (length value - length part) value)

    Goal : Type 0
    Goal = (is_same part (b ∷ value) || some_end (fills (part ∷ [])) value) ≡ is_same part (drop (length (b ∷ value) - length part) (b ∷ value))

    or_false : (t : Bool) → (t || false) ≡ t
    or_false true = refl
    or_false false = refl

    shorter : Behind → length value < length part → Goal
    shorter so lt =
        let none : length (b ∷ value) - length part ≡ 0 = omega (arith, lt) in
        let no : length value - length part ≡ 0 = omega (arith, lt) in
        let apart : length part ≡ length value → ⊥ = λ e. omega (arith, e, lt) in
        let behind : some_end (fills (part ∷ [])) value ≡ false = so ∙ ap (λ (n : ℕ). is_same part (drop n value)) no ∙ differs part value apart in
        ap (λ (t : Bool). is_same part (b ∷ value) || t) behind ∙ or_false (is_same part (b ∷ value)) ∙ ap (λ (n : ℕ). is_same part (drop n (b ∷ value))) (sym none)

    longer : Behind → length part ≤ length value → Goal
    longer so le =
        let more : length (b ∷ value) - length part ≡ suc (length value - length part) = omega (arith, le) in
        let apart : length part ≡ length (b ∷ value) → ⊥ = λ e. omega (arith, e, le) in
        ap (λ (t : Bool). t || some_end (fills (part ∷ [])) value) (differs part (b ∷ value) apart) ∙ so ∙ ap (λ (n : ℕ). is_same part (drop n (b ∷ value))) (sym more)

-- ---- the text's parts

module _ (text part : List ℕ) (rest : Option (List ℕ)) (first : part ≡ before 42 text) (behind_is : rest ≡ behind 42 text) where
  pub whole_fits : (value : List ℕ) → rest ≡ None → is_same part value ≡ fits text value
  whole_fits value none = ap (λ (parts : List (List ℕ)). fills parts value) (sym (parts_last 42 text part rest first behind_is none))

  some_end_last : (end : List ℕ) → rest ≡ None → some_end (fits text) end ≡ is_same part (drop (length end - length part) end)
  some_end_last end none = ap (λ (parts : List (List ℕ)). some_end (fills parts) end) (parts_last 42 text part rest first behind_is none) ∙ last_end part end

  module _ (more : List ℕ) (some : rest ≡ Some more) where
    -- the parts behind the first one are some
    parts_are : (next : List ℕ) × (parts : List (List ℕ)) × (parts_by 42 more ≡ next ∷ parts) × (parts_by 42 text ≡ part ∷ next ∷ parts)
    parts_are =
        let next = first_part 42 more (before 42 more) refl in
        (before 42 more, next.0, next.1, parts_more 42 text part more rest first behind_is some ∙ ap (λ (ps : List (List ℕ)). part ∷ ps) next.1)

    pub first_fits : (value : List ℕ) → begins part (some_end (fits more)) value ≡ fits text value
    first_fits value = at parts_are
      where
        at : (next : List ℕ) × (parts : List (List ℕ)) × (parts_by 42 more ≡ next ∷ parts) × (parts_by 42 text ≡ part ∷ next ∷ parts) → begins part (some_end (fits more)) value ≡ fits text value
        at (next, parts, m, t) = ap (λ (ps : List (List ℕ)). begins part (some_end (fills ps)) value) m ∙ ap (λ (ps : List (List ℕ)). fills ps value) (sym t)

    some_end_more : (end : List ℕ) (found : Option (List ℕ)) → ((next : List ℕ) (parts : List (List ℕ)) → some_end (fills (part ∷ next ∷ parts)) end ≡ passes_behind (some_end (fills (next ∷ parts))) found) → some_end (fits text) end ≡ passes_behind (some_end (fits more)) found
    some_end_more end found by = at parts_are
      where
        at : (next : List ℕ) × (parts : List (List ℕ)) × (parts_by 42 more ≡ next ∷ parts) × (parts_by 42 text ≡ part ∷ next ∷ parts) → some_end (fits text) end ≡ passes_behind (some_end (fits more)) found
        at (next, parts, m, t) = ap (λ (ps : List (List ℕ)). some_end (fills ps) end) t ∙ by next parts ∙ ap (λ (ps : List (List ℕ)). passes_behind (some_end (fills ps)) found) (sym m)

-- the loop keeps what it asks; its last part, and where a part isn't found
module _ (text value wild end : List ℕ) (so : some_end (fits text) value ≡ some_end (fits wild) end) (part : List ℕ) (rest : Option (List ℕ)) (first : part ≡ before 42 wild) (behind_is : rest ≡ behind 42 wild) where
  pub ends_last : (result : Bool) → rest ≡ None → result ≡ is_same part (drop (length end - length part) end) → result ≡ some_end (fits text) value
  ends_last result none is = is ∙ sym (so ∙ some_end_last wild part rest first behind_is end none)

  pub ends_more : (more : List ℕ) (found : Option (List ℕ)) → rest ≡ Some more → ((next : List ℕ) (parts : List (List ℕ)) → some_end (fills (part ∷ next ∷ parts)) end ≡ passes_behind (some_end (fills (next ∷ parts))) found) → some_end (fits text) value ≡ passes_behind (some_end (fits more)) found
  ends_more more found some by = so ∙ some_end_more wild part rest first behind_is more some end found by

-- ---- the test and the relation

end_of : (f : List ℕ → Bool) (value : List ℕ) → some_end f value ≡ true → (text rest : List ℕ) × (value ≡ text ++ rest) × (f rest ≡ true)
end_of f [] e = ([], [], refl, e)
end_of f (b ∷ value) e = ⊎_elim (λ here. ([], b ∷ value, refl, here)) (λ later. longer (end_of f value later)) (or_cases _ _ e)
  where
    longer : (text rest : List ℕ) × (value ≡ text ++ rest) × (f rest ≡ true) → (text rest : List ℕ) × (b ∷ value ≡ text ++ rest) × (f rest ≡ true)
    longer (text, rest, is, passes) = (b ∷ text, rest, ap (λ (v : List ℕ). b ∷ v) is, passes)

is_end : (f : List ℕ → Bool) (text rest : List ℕ) → f rest ≡ true → some_end f (text ++ rest) ≡ true
is_end f [] [] e = e
is_end f [] (b ∷ rest) e = or_left _ _ e
is_end f (b ∷ text) rest e = or_right _ _ (is_end f text rest e)

pub filled : (parts : List (List ℕ)) (value : List ℕ) → fills parts value ≡ true → IsFilled parts value
filled [] value e = absurd (true≢false (sym e))
filled (part ∷ []) value e = sym (same_is part value e)
filled (part ∷ next ∷ parts) value e =
    let both = both_true _ _ e in
    at (filled (next ∷ parts)) both.0 (end_of (fills (next ∷ parts)) (drop (length part) value) both.1)
  where
    at : ((rest : List ℕ) → fills (next ∷ parts) rest ≡ true → IsFilled (next ∷ parts) rest) → is_same (take (length part) value) part ≡ true → (text rest : List ℕ) × (drop (length part) value ≡ text ++ rest) × (fills (next ∷ parts) rest ≡ true) → IsFilled (part ∷ next ∷ parts) value
    at each same (text, rest, is, passes) = (text, rest, sym (take-append-drop (length part) value) ∙ ap (λ (v : List ℕ). v ++ drop (length part) value) (same_is _ part same) ∙ ap (λ (v : List ℕ). part ++ v) is, each rest passes)

pub fills_if : (parts : List (List ℕ)) (value : List ℕ) → IsFilled parts value → fills parts value ≡ true
fills_if [] value never = absurd never
fills_if (part ∷ []) value is = ap (is_same part) is ∙ same_refl part
fills_if (part ∷ next ∷ parts) value (text, rest, is, rests) =
    subst (λ (v : List ℕ). begins part (some_end (fills (next ∷ parts))) v ≡ true) (sym is)
    (and_from _ _ (ap (λ (v : List ℕ). is_same v part) (take-append_seam part (text ++ rest)) ∙ same_refl part)
    (ap (some_end (fills (next ∷ parts))) (drop-append_seam part (text ++ rest)) ∙ is_end (fills (next ∷ parts)) text rest (fills_if (next ∷ parts) rest rests)))

pub same_as_filled : (text value : List ℕ) (result : Bool) → result ≡ fits text value → IsTrue result ↔ Fits text value
same_as_filled text value result is = (λ t. filled (parts_by 42 text) value (sym is ∙ t), λ f. is ∙ fills_if (parts_by 42 text) value f)

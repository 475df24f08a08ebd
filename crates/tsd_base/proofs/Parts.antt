-- The words of bytes: of spaces, of a word before a space, and of a word at the end.
use Rattle.std.proofs.Common.{◌≡◌, ℕ, ◌+◌, ◌-◌, ◌<◌, ◌≤◌, Bool, true, false, not, List, [], ◌∷◌, ◌++◌, Some, None, length, get_or, take, drop, filter, position, refl, sym, ap, ◌∙◌, inl, inr, one-add, arith}
use Rattle.std.specs.List.{position_or_len, onto_first, All}
use Rattle.std.specs.Option.{unwrap_or}
use Rattle.std.proofs.lemmas.Bool.{and_parts, cases_Bool, not-true}
use Rattle.std.proofs.lemmas.List.{drop_all, drop_more, take_rest}
use Rattle.std.proofs.lemmas.List.Splits.{slice_split_at, slice_split_none}
use Rattle.std.proofs.lemmas.List.Sums.{prefix_len-le-length, passes_at_first}
use Rattle.std.proofs.lemmas.Bool.Decides.{nat_tests}
use Rattle.tsd_base.specs.Words.{begins_with_space, is_empty, is_space, parts_of, words_of}

abbrev has_bytes : List ℕ → Bool
has_bytes word = not (is_empty word)

abbrev is_other : ℕ → Bool
is_other b = not (is_space b)

pub words_of-nil : words_of [] ≡ []
unfolding words_of
words_of-nil = refl

-- a space before a text
pub words_of-space : (b : ℕ) (text : List ℕ) → is_space b ≡ true → words_of (b ∷ text) ≡ words_of text
unfolding words_of
words_of-space b text e = rw e

pub words_of_space : (text : List ℕ) → begins_with_space text ≡ true → words_of (take (length text - 1) (drop 1 text)) ≡ words_of text
words_of_space [] e = absurd cc
words_of_space (b ∷ text) e = rw (take_rest (b ∷ text) 1) (sym (words_of-space b text (and_parts _ _ e).1))

-- a word before a space
pub words_of-append : (word rest : List ℕ) → All (λ b. is_space b ≡ false) word → 0 < length word → words_of (word ++ 32 ∷ rest) ≡ word ∷ words_of rest
unfolding words_of
words_of-append [] rest spaceless some = absurd (omega arith)
words_of-append (b ∷ word) rest spaceless some = ap (filter has_bytes) (slice_split_at is_space (b ∷ word) 32 rest spaceless refl)

-- a word at the end
pub words_of-word : (word : List ℕ) → All (λ b. is_space b ≡ false) word → 0 < length word → words_of word ≡ word ∷ []
unfolding words_of
words_of-word [] spaceless some = absurd (omega arith)
words_of-word (b ∷ word) spaceless some = ap (filter has_bytes) (slice_split_none is_space (b ∷ word) spaceless)

-- the first part, and the others behind the separator after it
parts_of-first : (text : List ℕ) → parts_of 32 text ≡ take (position_or_len is_space text) text ∷ drop 1 (parts_of 32 (drop (position_or_len is_space text) text))
parts_of-first [] = refl
parts_of-first (b ∷ text) = let rest = parts_of-first text in
    elim (cases_Bool (is_space b)) [
      | inl e ↦ rw e (rw e)
      | inr e ↦ rw (e, one-add) (ap (onto_first b) rest)
    ]

-- what stands behind the first part has no word before its first separator
words_of-behind : (text : List ℕ) → words_of (drop (position_or_len is_space text) text) ≡ filter has_bytes (drop 1 (parts_of 32 (drop (position_or_len is_space text) text)))
unfolding words_of
words_of-behind [] = refl
words_of-behind (b ∷ text) = let rest = words_of-behind text in
    elim (cases_Bool (is_space b)) [
      | inl e ↦ rw e (rw e)
      | inr e ↦ rw (e, one-add) rest
    ]

-- a text that begins with a word
pub words_of-first : (b : ℕ) (text : List ℕ) → is_space b ≡ false → words_of (b ∷ text) ≡ take (position_or_len is_space (b ∷ text)) (b ∷ text) ∷ words_of (drop (position_or_len is_space (b ∷ text)) (b ∷ text))
unfolding words_of
words_of-first b text e =
    rw (words_of-behind (b ∷ text), parts_of-first (b ∷ text), e, one-add)

-- the spaces that a text begins with
pub words_of-leading : (text : List ℕ) → words_of (drop (position_or_len is_other text) text) ≡ words_of text
words_of-leading [] = refl
words_of-leading (b ∷ text) = let rest = words_of-leading text in
    elim (cases_Bool (is_space b)) [
      | inl e ↦ rw (e, one-add) (rest ∙ sym (words_of-space b text e))
      | inr e ↦ rw e
    ]

position-None : (p : ℕ → Bool) (text : List ℕ) → None ≡ position p text → length text ≤ position_or_len p text
position-None p text e = grind (arith, nat_tests)

position-Some : (p : ℕ → Bool) (text : List ℕ) (at : ℕ) → Some at ≡ position p text → (at ≡ position_or_len p text) × (at < length text)
position-Some p text at e = grind (arith, nat_tests)

pub position_at_front : (text : List ℕ) → begins_with_space text ≡ false → 0 < length text → position is_other text ≡ Some 0
position_at_front [] e some = absurd (omega arith)
position_at_front (b ∷ text) e some = grind (arith, nat_tests)

-- the place of the first element, or else the length
pub position_or_whole : (p : ℕ → Bool) (text : List ℕ) → unwrap_or (position p text) (length text) ≡ position_or_len p text
position_or_whole p text = let most = prefix_len-le-length (λ b. not (p b)) text in grind (arith, nat_tests)

pub position_within : (p : ℕ → Bool) (text : List ℕ) → position_or_len p text ≤ length text
position_within p text = prefix_len-le-length (λ b. not (p b)) text

-- a text of spaces alone
pub words_of-none : (text : List ℕ) → None ≡ position is_other text → words_of text ≡ []
words_of-none text e = sym (words_of-leading text) ∙ ap words_of (drop_all _ text (position-None is_other text e)) ∙ words_of-nil

-- a text whose first byte is no space, with its word up to the first one
words_of-other : (rest : List ℕ) (b : ℕ) (more : List ℕ) (end : ℕ) → rest ≡ b ∷ more → is_space b ≡ false → end ≡ position_or_len is_space rest → (words_of rest ≡ take end rest ∷ words_of (drop end rest)) × (0 < end)
words_of-other rest b more end e other at = rw (at, e) (words_of-first b more other, rw (other, one-add) (omega arith))

-- a word behind what spaces there are, and what stands behind it
pub words_of-some : (text : List ℕ) (start end : ℕ) → Some start ≡ position is_other text → end ≡ position_or_len is_space (drop start text) → (words_of text ≡ take end (drop start text) ∷ words_of (drop end (drop start text))) × (0 < end)
words_of-some text start end e f =
    let at = position-Some is_other text start e in
    let other = passes_at_first is_other text 0 (omega arith) in
    let first = words_of-other (drop start text) (get_or text start 0) (drop (start + 1) text) end (drop_more text start 0 at.1) (not-true _ (rw at.0 other)) f in
    let same : words_of (drop start text) ≡ words_of text = rw at.0 (words_of-leading text) in
    (sym same ∙ first.0, first.1)

pub ruleset words = (words_of-none, words_of-some)

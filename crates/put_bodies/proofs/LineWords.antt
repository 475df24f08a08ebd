-- The words of a line that is put together of words.
use Rattle.std.proofs.Common.{◌≡◌, ℕ, ◌<◌, true, false, List, [], ◌∷◌, ◌++◌, length, map, refl, ap, ◌∙◌, append_assoc, append-nil, arith}
use Rattle.std.specs.List.{All, AllByRecursion}
use Rattle.std.specs.Char.{digit_value}
use Rattle.std.specs.Str.Parse.{AllDigits}
use Rattle.std.proofs.lemmas.Bool.{and_parts}
use Rattle.std.proofs.lemmas.Bool.Decides.{nat_tests}
use Rattle.std.proofs.lemmas.List.Elements.{All-cons, All-nil}
use Rattle.tsd_base.specs.TagList.{Pair}
use Rattle.tsd_base.specs.Words.{is_space, words_of}
use Rattle.tsd_base.proofs.CallerLemmas.{words_of-append, words_of-word}
use Rattle.put_bodies.specs.LineWords.{is_word_byte, AreWordBytes, IsTagText, IsWord, pair_word, tags_text, words_text}

-- bytes without a space
abbrev pub IsSpaceless : List ℕ → Type 0
IsSpaceless bytes = AllByRecursion (λ b. is_space b ≡ false) bytes

no_space : (b : ℕ) → is_word_byte b ≡ true → is_space b ≡ false
no_space b e = grind (arith, nat_tests)

spaceless : (bytes : List ℕ) → AreWordBytes bytes → IsSpaceless bytes
spaceless [] e = tt
spaceless (b ∷ bytes) e = let parts = and_parts _ _ e in (no_space b parts.0, spaceless bytes parts.1)

digit_spaceless : (c : ℕ) → digit_value c < 10 → is_space c ≡ false
digit_spaceless c h = grind (arith, nat_tests)

digits_spaceless : (s : List ℕ) → AllDigits 10 s → IsSpaceless s
digits_spaceless [] h = tt
digits_spaceless (c ∷ s) h = (digit_spaceless c h.0, digits_spaceless s h.1)

joined : (xs ys : List ℕ) → IsSpaceless xs → IsSpaceless ys → IsSpaceless (xs ++ ys)
joined [] ys h g = g
joined (x ∷ xs) ys h g = (h.0, joined xs ys h.1 g)

all_of : (bytes : List ℕ) → IsSpaceless bytes → All (λ b. is_space b ≡ false) bytes
all_of [] h = All-nil (λ b. is_space b ≡ false)
all_of (b ∷ bytes) h = All-cons (λ b. is_space b ≡ false) b bytes h.0 (all_of bytes h.1)

some_pair : (xs : List ℕ) (b : ℕ) (ys : List ℕ) → 0 < length (xs ++ b ∷ ys)
some_pair [] b ys = omega arith
some_pair (x ∷ xs) b ys = omega arith

-- a word, and the words of tags behind it
tag_words : (word : List ℕ) (pairs : List Pair) → IsSpaceless word → 0 < length word → AllByRecursion IsTagText pairs → words_of (word ++ tags_text pairs) ≡ word ∷ map pair_word pairs
tag_words word [] clear some all = ap words_of (append-nil word) ∙ words_of-word word (all_of word clear) some
tag_words word (p ∷ pairs) clear some all =
    let pair : IsSpaceless (pair_word p) = joined p.0 (61 ∷ p.1) (spaceless p.0 all.0.0) (refl, spaceless p.1 all.0.1) in
    words_of-append word (pair_word p ++ tags_text pairs) (all_of word clear) some ∙ ap (λ (ws : List (List ℕ)). word ∷ ws) (tag_words (pair_word p) pairs pair (some_pair p.0 61 p.1) all.1)

regroup : (m t v rest : List ℕ) → words_text m t v ++ rest ≡ m ++ 32 ∷ (t ++ 32 ∷ (v ++ rest))
regroup m t v rest = append_assoc m (32 ∷ (t ++ 32 ∷ v)) rest ∙ ap (λ (x : List ℕ). m ++ 32 ∷ x) (append_assoc t (32 ∷ v) rest)

pub line_words : (m t v : List ℕ) (pairs : List Pair) → AreWordBytes m → 0 < length m → AllDigits 10 t → 0 < length t → AllDigits 10 v → 0 < length v → AllByRecursion IsTagText pairs
    → words_of (words_text m t v ++ tags_text pairs) ≡ m ∷ t ∷ v ∷ map pair_word pairs
line_words m t v pairs mw ms tw ts vw vs all =
    ap words_of (regroup m t v (tags_text pairs))
    ∙ words_of-append m (t ++ 32 ∷ (v ++ tags_text pairs)) (all_of m (spaceless m mw)) ms
    ∙ ap (λ (ws : List (List ℕ)). m ∷ ws) (words_of-append t (v ++ tags_text pairs) (all_of t (digits_spaceless t tw)) ts ∙ ap (λ (ws : List (List ℕ)). t ∷ ws) (tag_words v pairs (digits_spaceless v vw) vs all))

-- the same, of any three words
pub full_words : (m t v : List ℕ) (pairs : List Pair) → IsWord m → IsWord t → IsWord v → AllByRecursion IsTagText pairs → words_of (words_text m t v ++ tags_text pairs) ≡ m ∷ t ∷ v ∷ map pair_word pairs
full_words m t v pairs mw tw vw all =
    ap words_of (regroup m t v (tags_text pairs))
    ∙ words_of-append m (t ++ 32 ∷ (v ++ tags_text pairs)) (all_of m (spaceless m mw.1)) mw.0
    ∙ ap (λ (ws : List (List ℕ)). m ∷ ws) (words_of-append t (v ++ tags_text pairs) (all_of t (spaceless t tw.1)) tw.0 ∙ ap (λ (ws : List (List ℕ)). t ∷ ws) (tag_words v pairs (spaceless v vw.1) vw.0 all))

-- The words of a line, between spaces.
use Rattle.std.specs.Prelude.{◌≡◌, ℕ, ◌<◌, Bool, true, ◌&&◌, not, nat_eq, List, [], ◌∷◌, ◌++◌, length}
use Rattle.std.specs.List.{AllByRecursion, list_all}
use Rattle.json.specs.Json.{Json, string, Members, no_members, member}
use Rattle.tsd_base.specs.TagList.{Pair}

-- neither a space nor =
abbrev pub is_word_byte : ℕ → Bool
is_word_byte b = not (nat_eq b 32) && not (nat_eq b 61)

abbrev pub AreWordBytes : List ℕ → Type 0
AreWordBytes bytes = list_all is_word_byte bytes ≡ true

abbrev pub IsWord : List ℕ → Type 0
IsWord bytes = (0 < length bytes) × AreWordBytes bytes

-- METRIC TIME VALUE
abbrev pub words_text : List ℕ → List ℕ → List ℕ → List ℕ
words_text metric time value = metric ++ 32 ∷ (time ++ 32 ∷ value)

-- KEY=VALUE
abbrev pub pair_word : Pair → List ℕ
pair_word pair = pair.0 ++ 61 ∷ pair.1

-- the word of a tag, behind a space
abbrev pub tag_text : Pair → List ℕ
tag_text pair = 32 ∷ pair_word pair

abbrev pub tags_text : List Pair → List ℕ
tags_text [] = []
tags_text (pair ∷ pairs) = tag_text pair ++ tags_text pairs

abbrev pub IsTagText : Pair → Type 0
IsTagText pair = AreWordBytes pair.0 × AreWordBytes pair.1

-- members with these keys and strings, in front of others
abbrev pub onto : List Pair → Members → Members
onto [] rest = rest
onto (pair ∷ pairs) rest = member pair.0 (string pair.1) (onto pairs rest)

-- the member of this key is a string, and its word was written behind the line
abbrev pub IsTagOf : List ℕ → Json → List ℕ → List ℕ → Type 0
IsTagOf key j old new = (text : List ℕ) × (j ≡ string text) × IsTagText (key, text) × (new ≡ old ++ tag_text (key, text))

-- each member is a string, and their words were written behind the line
pub record HasTagsOf (ms : Members) (old new : List ℕ) : Type 0 where
  pub pairs : List Pair
  pub strings : ms ≡ onto pairs no_members
  pub words : AllByRecursion IsTagText pairs
  pub written : new ≡ old ++ tags_text pairs

-- Parts of bytes between separators.
use Rattle.std.specs.Prelude.{ℕ, Bool, true, false, ◌&&◌, not, nat_eq, nat_lt, List, [], ◌∷◌, filter, length, slice_index}
use Rattle.std.specs.List.{slice_split}

-- the parts between separators, of which there is one more than separators
abbrev pub parts_of : ℕ → List ℕ → List (List ℕ)
parts_of separator bytes = slice_split (λ b. nat_eq b separator) bytes

abbrev pub is_empty : List ℕ → Bool
is_empty [] = true
is_empty (b ∷ bytes) = false

abbrev pub is_space : ℕ → Bool
is_space b = nat_eq b 32

abbrev pub begins_with_space : List ℕ → Bool
begins_with_space text = nat_lt 0 (length text) && is_space (slice_index text 0)

-- the words, between one or more spaces
unfoldable pub words_of : List ℕ → List (List ℕ)
words_of text = filter (λ word. not (is_empty word)) (parts_of 32 text)

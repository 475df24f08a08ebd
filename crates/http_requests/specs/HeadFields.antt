-- The fields of the head of a request.
use Rattle.std.specs.Prelude.{◌≡◌, ℕ, Bool, ◌&&◌, ◌||◌, not, nat_eq, List, [], ◌∷◌, map, codes, Option, None, Some, if◌then◌else◌}
use Rattle.std.specs.Char.{to_ascii_lowercase}
use Rattle.std.specs.List.{list_all, list_any, slice_split}
use Rattle.httparse.specs.Grammar.{RequestHead, trim_ows}
use Rattle.httparse.specs.Spans.{name_and_value}
use Rattle.tsd_base.specs.Tags.{is_same}

-- the names and the values of the fields, without the white space around a value
abbrev pub Fields : Type 0
Fields = List (List ℕ × List ℕ)

abbrev pub fields_of : RequestHead → Fields
fields_of h = map name_and_value h.fields

-- the same but for the case of letters
abbrev pub is_alike : List ℕ → List ℕ → Bool
is_alike a b = is_same (map to_ascii_lowercase a) (map to_ascii_lowercase b)

abbrev pub has_field : List ℕ → Fields → Bool
has_field name fields = list_any (λ f. is_alike f.0 name) fields

-- the value of the first field of this name
abbrev pub value_of : List ℕ → Fields → Option (List ℕ)
value_of name [] = None
value_of name (f ∷ fields) = if is_alike f.0 name then Some f.1 else value_of name fields

-- every field of this name has this value
abbrev pub all_have : List ℕ → List ℕ → Fields → Bool
all_have name value fields = list_all (λ f. not (is_alike f.0 name) || is_same f.1 value) fields

abbrev pub is_word_end : ℕ → Bool
is_word_end b = nat_eq b 44

-- the first word, and what stands behind its comma, if it has one
abbrev pub FirstWord : List ℕ → List ℕ → Option (List ℕ) → Type 0
FirstWord text word None = slice_split is_word_end text ≡ word ∷ []
FirstWord text word (Some rest) = slice_split is_word_end text ≡ word ∷ slice_split is_word_end rest

-- a word between the commas is `close`
abbrev pub has_close : List ℕ → Bool
has_close value = list_any (λ word. is_alike (trim_ows word) (codes "close")) (slice_split is_word_end value)

abbrev pub asks_close : Fields → Bool
asks_close fields = list_any (λ f. is_alike f.0 (codes "connection") && has_close f.1) fields

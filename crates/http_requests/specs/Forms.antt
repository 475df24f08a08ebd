-- The parameters of a form.
use Rattle.std.specs.Prelude.{ℕ, nat_eq, List, [], ◌∷◌, map, Option, None, Some, String, string_bytes, if◌then◌else◌}
use Rattle.std.specs.declared.alloc.Global.{Global}
use Rattle.std.specs.Cmp.Lexicographic.{pointwise}
use Rattle.std.specs.Str.Lossy.{utf8_lossy}
use Rattle.form_urlencoded.specs.Form.{decode, raw_pairs}

-- a name and a value
abbrev pub Parameter : Type 0
Parameter = List ℕ × List ℕ

-- decoded, with U+FFFD for what is no UTF-8
abbrev pub decoded : List ℕ → List ℕ
decoded bytes = utf8_lossy (decode bytes)

-- the parameters of a form, in order
abbrev pub form_pairs : List ℕ → List Parameter
form_pairs form = map (λ p. (decoded p.0, decoded p.1)) (raw_pairs form)

-- the value of the first parameter of a name
abbrev pub first_value : List ℕ → List Parameter → Option (List ℕ)
first_value name [] = None
first_value name (p ∷ ps) = if pointwise nat_eq p.0 name then Some p.1 else first_value name ps

-- the values of all parameters of a name, in order
abbrev pub all_values : List ℕ → List Parameter → List (List ℕ)
all_values name [] = []
all_values name (p ∷ ps) = if pointwise nat_eq p.0 name then p.1 ∷ all_values name ps else all_values name ps

-- what a pair of texts is seen as
abbrev pub bytes_of : String Global × String Global → Parameter
bytes_of p = (string_bytes p.0, string_bytes p.1)

-- Numbers in decimal digits.
use Rattle.std.specs.Prelude.{ℕ, Bool, List, [], ◌∷◌, false}
use Rattle.std.specs.Char.{is_ascii_digit}
use Rattle.std.specs.List.{list_all}

-- one or more digits and nothing else
abbrev pub is_number : List ℕ → Bool
is_number [] = false
is_number (c ∷ cs) = list_all is_ascii_digit (c ∷ cs)

-- Numbers in a text of JSON.
use Rattle.std.specs.Prelude.{◌≡◌, ℕ, ◌^◌, ◌<◌, ◌≤◌, ◌==◌, Bool, true, false, not, List, [], ◌∷◌, length, Float, Some}
use Rattle.std.specs.Char.{is_ascii_digit}
use Rattle.std.specs.List.{list_all}
use Rattle.std.specs.Str.Parse.{digits_value}
use Rattle.serde_json.specs.Data.{Num, float}
use Rattle.serde_json.specs.Read.{number_of}
use Rattle.put_bodies.specs.declared.text_numbers.NumberKind.{NumberKind}
use Rattle.put_bodies.specs.declared.text_numbers.NumberKind.TheVariants.{Whole, Negative, Fraction}

-- one digit, or some of which the first is no 0
abbrev pub leads_well : List ℕ → Bool
leads_well [] = false
leads_well (c ∷ []) = true
leads_well (c ∷ d ∷ cs) = not (c == 48)

-- 1 to 19 digits that JSON takes for a number
pub record IsWhole (s : List ℕ) : Type 0 where
  pub digits : list_all is_ascii_digit s ≡ true
  pub leads : leads_well s ≡ true
  pub few : length s ≤ 19

-- a minus and a number that isn't 0 and fits i64
pub record IsNegative (s : List ℕ) : Type 0 where
  pub digits : List ℕ
  pub whole : IsWhole digits
  pub text : s ≡ 45 ∷ digits
  pub some : 0 < digits_value 10 digits
  pub fits : digits_value 10 digits ≤ 2 ^ 63

-- a number that is read as a float
abbrev pub IsFraction : List ℕ → Type 0
IsFraction s = (x : Float) × (number_of s ≡ Some (float x))

abbrev pub IsOfKind : NumberKind → List ℕ → Type 0
IsOfKind Whole s = IsWhole s
IsOfKind Negative s = IsNegative s
IsOfKind Fraction s = IsFraction s

-- the number has a value
abbrev pub HasNumber : List ℕ → Type 0
HasNumber s = (n : Num) × (number_of s ≡ Some n)

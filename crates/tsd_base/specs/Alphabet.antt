-- The bytes of a name.
use Rattle.std.specs.Prelude.{◌≡◌, ℕ, ◌≤◌, Bool, true, ◌||◌, ◌&&◌, nat_eq, nat_le, List, length}
use Rattle.std.specs.List.{list_all}

abbrev pub is_between : ℕ → ℕ → ℕ → Bool
is_between low high b = nat_le low b && nat_le b high

-- a to z, A to Z, 0 to 9, and - _ . /
abbrev pub is_name_byte : ℕ → Bool
is_name_byte b = is_between 97 122 b || is_between 65 90 b || is_between 48 57 b || nat_eq b 45 || nat_eq b 95 || nat_eq b 46 || nat_eq b 47

-- 1 to 255 bytes of the alphabet
pub record IsName (bytes : List ℕ) : Type 0 where
  pub some : 1 ≤ length bytes
  pub most : length bytes ≤ 255
  pub alphabet : list_all is_name_byte bytes ≡ true

-- the same as a test
abbrev pub is_name : List ℕ → Bool
is_name bytes = nat_le 1 (length bytes) && (nat_le (length bytes) 255 && list_all is_name_byte bytes)

-- The texts of `wildcard(..)` and `regexp(..)`.
use Rattle.std.specs.Prelude.{◌≡◌, ℕ, ◌≤◌, Bool, true, not, ◌&&◌, ◌||◌, nat_eq, nat_le, List, length}
use Rattle.std.specs.List.{list_all, list_any}
use Rattle.tsd_base.specs.Alphabet.{is_between, is_name_byte}

-- the byte `*`
abbrev pub is_star : ℕ → Bool
is_star b = nat_eq b 42

abbrev pub is_wild_byte : ℕ → Bool
is_wild_byte b = is_name_byte b || is_star b

-- 1 to 255 bytes of the alphabet of names and `*`, with at least one `*`
abbrev pub is_wild_text : List ℕ → Bool
is_wild_text text = nat_le (length text) 255 && list_all is_wild_byte text && list_any is_star text

-- from a space to `~`, but for `,`, `{` and `}`
abbrev pub is_pattern_byte : ℕ → Bool
is_pattern_byte b = is_between 32 126 b && not (nat_eq b 44) && not (nat_eq b 123) && not (nat_eq b 125)

-- 1 to 255 such bytes
abbrev pub is_pattern_text : List ℕ → Bool
is_pattern_text text = nat_le 1 (length text) && nat_le (length text) 255 && list_all is_pattern_byte text

pub record IsPatternText (text : List ℕ) : Type 0 where
  pub some : 1 ≤ length text
  pub most : length text ≤ 255
  pub bytes : list_all is_pattern_byte text ≡ true

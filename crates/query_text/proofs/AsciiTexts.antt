-- The texts of patterns are ASCII.
use Rattle.std.proofs.Common.{◌≡◌, ℕ, ◌<◌, Bool, true, List, [], ◌∷◌, All, arith, IsUtf8, subst}
use Rattle.std.specs.Prelude.{◌&&◌, not, nat_le, nat_eq}
use Rattle.std.specs.List.{list_all}
use Rattle.std.proofs.lemmas.Bool.Decides.{nat_tests}
use Rattle.std.proofs.lemmas.List.Elements.{All-nil, All-cons}
use Rattle.std.proofs.lemmas.Str.{IsUtf8-from_ascii}
use Rattle.std.proofs.lemmas.Str.Ascii.{IsAscii-from_all}
use Rattle.list_lemmas.proofs.BoolTests.{both_true}
use Rattle.query_text.specs.TestTexts.{is_pattern_byte}

small : (b : ℕ) → is_pattern_byte b ≡ true → b < 128
small b e = grind (arith, nat_tests, e)

all_small : (text : List ℕ) → list_all is_pattern_byte text ≡ true → All (λ b. b < 128) text
all_small [] e = All-nil (λ b. b < 128)
all_small (b ∷ text) e = let both = both_true _ _ e in All-cons (λ b. b < 128) b text (small b both.0) (all_small text both.1)

pub pattern_is_utf8 : (text : List ℕ) → list_all is_pattern_byte text ≡ true → IsUtf8 text
pattern_is_utf8 text e = IsUtf8-from_ascii text (IsAscii-from_all text (all_small text e))

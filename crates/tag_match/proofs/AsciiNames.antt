-- Names are ASCII.
use Rattle.std.proofs.Common.{◌≡◌, ℕ, ◌<◌, Bool, true, List, [], ◌∷◌, All, arith, IsUtf8}
use Rattle.std.specs.List.{list_all}
use Rattle.std.proofs.lemmas.Bool.Decides.{nat_tests}
use Rattle.std.proofs.lemmas.List.Elements.{All-nil, All-cons}
use Rattle.std.proofs.lemmas.Str.{IsUtf8-from_ascii}
use Rattle.std.proofs.lemmas.Str.Ascii.{IsAscii-from_all}
use Rattle.list_lemmas.proofs.BoolTests.{both_true}
use Rattle.tsd_base.specs.Alphabet.{is_name_byte, IsName}

small : (b : ℕ) → is_name_byte b ≡ true → b < 128
small b e = grind (arith, nat_tests, e)

pub all_small : (bytes : List ℕ) → list_all is_name_byte bytes ≡ true → All (λ b. b < 128) bytes
all_small [] e = All-nil (λ b. b < 128)
all_small (b ∷ bytes) e = let both = both_true _ _ e in All-cons (λ b. b < 128) b bytes (small b both.0) (all_small bytes both.1)

pub name_is_utf8 : (bytes : List ℕ) → IsName bytes → IsUtf8 bytes
name_is_utf8 bytes is = IsUtf8-from_ascii bytes (IsAscii-from_all bytes (all_small bytes is.alphabet))

pub name_bytes : (bytes : List ℕ) → IsName bytes → All (λ b. b < 256) bytes
name_bytes bytes is = λ k d within. let low = all_small bytes is.alphabet k d within in omega (arith, low)

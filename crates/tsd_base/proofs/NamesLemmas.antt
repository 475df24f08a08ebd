-- What reading a name gives.
use Rattle.std.proofs.Common.{◌≡◌, ℕ, suc, ◌<◌, ◌≤◌, true, List, [], ◌∷◌, length, position, None, Ok, Err, refl, ap, inl, inr, one-add, arith}
use Rattle.std.specs.List.{list_all, position_or_len}
use Rattle.std.proofs.lemmas.Bool.{cases_Bool, and_parts, le-ltb, lt-ltb}
use Rattle.std.proofs.lemmas.List.{nil_from_length}
use Rattle.std.proofs.lemmas.Bool.Decides.{nat_tests}
use Rattle.tsd_base.specs.Alphabet.{IsName, is_name_byte}
use Rattle.tsd_base.specs.Names.{name_of, is_bad_byte, without_bad_byte}
use Rattle.tsd_base.specs.declared.names.NameFault.TheVariants.{Empty, TooLong}

-- no byte is bad where each is of the alphabet
position_or_len-good : (bytes : List ℕ) → list_all is_name_byte bytes ≡ true → position_or_len is_bad_byte bytes ≡ length bytes
position_or_len-good [] e = refl
position_or_len-good (b ∷ bytes) e =
    let parts = and_parts (is_name_byte b) (list_all is_name_byte bytes) e in
    rw (parts.0, one-add) (ap suc (position_or_len-good bytes parts.1))

alphabet-good : (bytes : List ℕ) → length bytes ≤ position_or_len is_bad_byte bytes → list_all is_name_byte bytes ≡ true
alphabet-good [] h = refl
alphabet-good (b ∷ bytes) h =
    elim (cases_Bool (is_name_byte b)) [
      | inl good ↦ rw good (alphabet-good bytes (let k = rw good at h in omega arith))
      | inr bad ↦ absurd (let k = rw bad at h in omega arith)
    ]

pub position-IsName : (bytes : List ℕ) → IsName bytes → position is_bad_byte bytes ≡ None
position-IsName bytes named = let all = position_or_len-good bytes named.alphabet in grind (arith, nat_tests)

pub IsName-from_position : (bytes : List ℕ) → 1 ≤ length bytes → length bytes ≤ 255 → None ≡ position is_bad_byte bytes → IsName bytes
IsName-from_position bytes some most none =
    let all : length bytes ≤ position_or_len is_bad_byte bytes = grind (arith, nat_tests) in
    record { some = some; most = most; alphabet = alphabet-good bytes all }

pub name_of-empty : (bytes : List ℕ) → length bytes ≡ 0 → name_of bytes ≡ Err Empty
unfolding name_of
name_of-empty bytes e = rw (nil_from_length bytes e)

pub name_of-long : (bytes : List ℕ) → 255 < length bytes → name_of bytes ≡ Err (TooLong (length bytes))
unfolding name_of
name_of-long [] long = absurd (omega arith)
name_of-long (b ∷ bytes) long = rw (lt-ltb 255 (length (b ∷ bytes)) long)

-- neither empty nor too long
pub name_of-fits : (bytes : List ℕ) → 1 ≤ length bytes → length bytes ≤ 255 → name_of bytes ≡ without_bad_byte bytes (position is_bad_byte bytes)
unfolding name_of
name_of-fits [] some most = absurd (omega arith)
name_of-fits (b ∷ bytes) some most = rw (le-ltb 255 (length (b ∷ bytes)) most)

pub name_of-IsName : (bytes : List ℕ) → IsName bytes → name_of bytes ≡ Ok bytes
name_of-IsName bytes named = rw (name_of-fits bytes named.some named.most, position-IsName bytes named)

pub ruleset names = (nat_tests, position-IsName, IsName-from_position, name_of-empty, name_of-long, name_of-fits, name_of-IsName)

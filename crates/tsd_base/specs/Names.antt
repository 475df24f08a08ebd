-- Reading a name.
use Rattle.std.specs.Prelude.{◌≡◌, ℕ, Bool, not, nat_lt, List, [], ◌∷◌, length, position, slice_index, Option, Some, None, Result, Ok, Err, IsOk, MatchResult, if◌then◌else◌}
use Rattle.tsd_base.specs.declared.names.NameFault.{NameFault}
use Rattle.tsd_base.specs.declared.names.NameFault.TheVariants.{Empty, TooLong, BadByte, OutOfMemory}
use Rattle.tsd_base.specs.Alphabet.{is_name_byte}
pub use Rattle.tsd_base.specs.Alphabet.{IsName}

abbrev pub is_bad_byte : ℕ → Bool
is_bad_byte b = not (is_name_byte b)

-- bytes whose leftmost bad byte, if there is one, is here
abbrev pub without_bad_byte : List ℕ → Option ℕ → Result (List ℕ) NameFault
without_bad_byte bytes None = Ok bytes
without_bad_byte bytes (Some at) = Err (BadByte at (slice_index bytes at))

-- the name that the bytes are, or else the first fault
unfoldable pub name_of : List ℕ → Result (List ℕ) NameFault
name_of [] = Err Empty
name_of (b ∷ bs) =
    if nat_lt 255 (length (b ∷ bs)) then Err (TooLong (length (b ∷ bs))) else without_bad_byte (b ∷ bs) (position is_bad_byte (b ∷ bs))

-- memory is wanted for a name alone; any other fault is the text's own
abbrev pub FailsName : {A : Type 0} → NameFault → Result A NameFault → Type 0
FailsName OutOfMemory read = IsOk read
FailsName Empty read = read ≡ Err Empty
FailsName (TooLong len) read = read ≡ Err (TooLong len)
FailsName (BadByte at byte) read = read ≡ Err (BadByte at byte)

-- the answer is what reading the bytes gives
abbrev pub GivesName : Result (List ℕ) NameFault → List ℕ → Type 0
GivesName answer bytes = MatchResult answer (λ name. name_of bytes ≡ Ok name) (λ fault. FailsName fault (name_of bytes))

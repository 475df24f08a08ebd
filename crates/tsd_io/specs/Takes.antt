-- What the last take of a source came to, where it tells that.
use Rattle.std.specs.Prelude.{◌≡◌, ℕ, List, [], take, Option, None, Some, Result, Ok, Err}

-- it gave these bytes, and none where it failed
abbrev pub given_by : {E : Type 0} → Result ℕ E → List ℕ → List ℕ
given_by (Ok count) bytes = take count bytes
given_by (Err fault) bytes = []

-- the bytes that the last take gave are told, or stay untold
abbrev pub TellsLast : {E : Type 0} → Option (List ℕ) → Option (List ℕ) → Result ℕ E → List ℕ → Type 0
TellsLast None after result bytes = after ≡ None
TellsLast (Some before) after result bytes = after ≡ Some (given_by result bytes)

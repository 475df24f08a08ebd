-- How a connection's bytes are taken.
use Rattle.std.specs.Prelude.{◌≡◌, ℕ, ◌+◌, ◌^◌, ◌<◌, ◌≤◌, List, [], length, Option, None, Some, Result, Ok, Err}
use Rattle.std.specs.Io.KnownBytes.{Appends, Consumes, IsAtEnd}
use Rattle.tsd_daemon.specs.declared.served.Served.{Served}
use Rattle.tsd_daemon.specs.declared.served.Served.TheVariants as answer

-- the most bytes that are taken at once
abbrev pub longest_piece : ℕ
longest_piece = 65536

-- the last piece that was taken, and how many bytes were taken in all
pub record PieceTaken : Type 0 where
  pub piece : List ℕ
  pub taken : ℕ

abbrev pub no_piece : PieceTaken
no_piece = record { piece = []; taken = 0 }

-- a piece of a byte or more, or why there is none
abbrev pub NextPiece : Option (List ℕ) → PieceTaken → List ℕ → Result (Unit {0}) Served → PieceTaken → Type 0
NextPiece left old more (Ok x) new = (new.piece ≡ more) × (0 < length more)
NextPiece left old more (Err answer.End) new = (more ≡ []) × (old.taken < 2 ^ 40) × IsAtEnd left
NextPiece left old more (Err answer.ReadFault) new = (more ≡ []) × (old.taken < 2 ^ 40)
NextPiece left old more (Err answer.SessionFull) new = (more ≡ []) × (old.taken ≡ 2 ^ 40)
NextPiece left old more (Err other) new = ⊥

-- these bytes are what the last take gave, where the source tells it
abbrev pub IsLast : Option (List ℕ) → List ℕ → Type 0
IsLast None piece = Unit {0}
IsLast (Some given) piece = piece ≡ given

-- the last take gave these bytes, and none where it failed or found the end; where the session was full none was made
abbrev pub GaveNext : Option (List ℕ) → Option (List ℕ) → List ℕ → Result (Unit {0}) Served → Type 0
GaveNext last last' more (Err answer.SessionFull) = last' ≡ last
GaveNext last last' more result = IsLast last' more

-- what a source tells: the bytes that were taken of it and those that are left, and what its last take gave
pub record SourceTells : Type 0 where
  pub taken : Option (List ℕ)
  pub left : Option (List ℕ)
  pub last : Option (List ℕ)

-- these further bytes were taken
pub record TakesNext (source source' : SourceTells) (old : PieceTaken) (result : Result (Unit {0}) Served) (new : PieceTaken) : Type 0 where
  pub more : List ℕ
  pub takes : Appends source.taken source'.taken more
  pub leaves : Consumes source.left source'.left more
  pub count : new.taken ≡ old.taken + length more
  pub most : new.taken ≤ 2 ^ 40
  pub within : length more ≤ longest_piece
  pub gave : GaveNext source.last source'.last more result
  pub next : NextPiece source'.left old more result new

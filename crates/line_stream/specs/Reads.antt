-- What the next line of an input is.
use Rattle.std.specs.Prelude.{◌≡◌, ℕ, ◌+◌, ◌^◌, ◌<◌, ◌≤◌, Bool, true, false, List, [], ◌∷◌, ◌++◌, length, take, drop, nat_lt, Option, None, Some, Result, Ok, Err, if◌then◌else◌}
use Rattle.std.specs.Io.KnownBytes.{Appends, Consumes, IsAtEnd}
use Rattle.line_stream.specs.Lines.{Line, Splits, has_line_end, lines_of, whole_line}
use Rattle.line_stream.specs.LineReadings.{Reading}
use Rattle.line_stream.specs.declared.reader.InputFault.{InputFault}
use Rattle.line_stream.specs.declared.reader.InputFault.TheVariants.{Failed, Full, OutOfMemory}
use Rattle.line_stream.specs.declared.reader.NextLine.{NextLine}
use Rattle.line_stream.specs.declared.reader.NextLine.TheVariants.{Whole, Last, TooLong}

-- nothing was taken
abbrev pub no_bytes : ℕ → Reading
no_bytes longest = record { longest = longest; bytes = []; lines = 0; taken = 0 }

-- more bytes were taken
abbrev pub with_bytes : Reading → List ℕ → Reading
with_bytes r more = record { longest = r.longest; bytes = r.bytes ++ more; lines = r.lines; taken = r.taken + length more }

-- a line was used up that an LF ends behind so many bytes
abbrev pub without_line : Reading → ℕ → Reading
without_line r end = record { longest = r.longest; bytes = drop (end + 1) r.bytes; lines = r.lines + 1; taken = r.taken }

-- the front of a line that may be short enough
pub record IsFront (longest : ℕ) (bytes : List ℕ) : Type 0 where
  pub short : length bytes ≤ longest
  pub whole : has_line_end bytes ≡ false

-- the bytes begin with a line that isn't too long, which an LF ends behind so many bytes
pub record BeginsWithLine (longest : ℕ) (bytes : List ℕ) (end : ℕ) : Type 0 where
  pub within : end < length bytes
  pub short : end ≤ longest
  pub splits : Splits bytes (whole_line (take end bytes) ∷ []) (drop (end + 1) bytes)

-- the first line is too long
pub record IsFirstTooLong (longest : ℕ) (lines : List Line) : Type 0 where
  pub line : Line
  pub others : List Line
  pub is : lines ≡ line ∷ others
  pub long : longest < length line.bytes

-- the bytes begin with a line that is too long, whatever more comes
abbrev pub BeginsTooLong : ℕ → List ℕ → Type 0
BeginsTooLong longest bytes = (more : List ℕ) → IsFirstTooLong longest (lines_of (bytes ++ more))

abbrev pub FirstLine : ℕ → List ℕ → Option NextLine → Type 0
FirstLine longest bytes (Some (Whole end)) = BeginsWithLine longest bytes end
FirstLine longest bytes (Some Last) = ⊥
FirstLine longest bytes (Some TooLong) = BeginsTooLong longest bytes
FirstLine longest bytes None = IsFront longest bytes

-- what a line is that an LF ends behind so many bytes
abbrev pub line_to : ℕ → ℕ → NextLine
line_to longest end = if nat_lt longest end then TooLong else Whole end

-- what bytes without LF are known to begin
abbrev pub front : ℕ → List ℕ → Option NextLine
front longest bytes = if nat_lt longest (length bytes) then Some TooLong else None

-- Where these more bytes were taken: what stands next, or why that isn't known.
abbrev pub Finds : Option (List ℕ) → Reading → Result NextLine InputFault → Type 0
Finds left r (Ok (Whole end)) = BeginsWithLine r.longest r.bytes end
Finds left r (Ok Last) = IsFront r.longest r.bytes × IsAtEnd left × (r.taken < 2 ^ 40)
Finds left r (Ok TooLong) = BeginsTooLong r.longest r.bytes
Finds left r (Err Failed) = IsFront r.longest r.bytes × (r.taken < 2 ^ 40)
Finds left r (Err Full) = IsFront r.longest r.bytes × (r.taken ≡ 2 ^ 40)
Finds left r (Err OutOfMemory) = Unit {0}

-- where there was memory for what was taken
abbrev pub IfKept : {T : Type 0} → Result T InputFault → Type 0 → Type 0
IfKept (Ok answer) P = P
IfKept (Err Failed) P = P
IfKept (Err Full) P = P
IfKept (Err OutOfMemory) P = Unit {0}

-- where there was none, the pieces that were taken before the last one are kept
abbrev pub IfNoRoom : {T : Type 0} → Result T InputFault → Type 0 → Type 0
IfNoRoom (Ok answer) P = Unit {0}
IfNoRoom (Err Failed) P = Unit {0}
IfNoRoom (Err Full) P = Unit {0}
IfNoRoom (Err OutOfMemory) P = P

-- a front of what was taken is kept
abbrev pub KeepsFront : Reading → List ℕ → Reading → Type 0
KeepsFront old more new = (front : List ℕ) × (last : List ℕ) × (more ≡ front ++ last) × (new ≡ with_bytes old front)

-- More bytes were taken of the source, up to 2^40 in all, and the next line is found in them.
pub record NextLineIs (taken taken' left left' : Option (List ℕ)) (old : Reading) (result : Result NextLine InputFault) (new : Reading) : Type 0 where
  pub more : List ℕ
  pub takes : Appends taken taken' more
  pub leaves : Consumes left left' more
  pub most : old.taken + length more ≤ 2 ^ 40
  pub keeps : IfKept result (new ≡ with_bytes old more)
  pub loses : IfNoRoom result (KeepsFront old more new)
  pub finds : Finds left' (with_bytes old more) result

-- so many bytes were taken, of which none is the source's end; a failure takes none
abbrev pub Counts : Option (List ℕ) → List ℕ → Result ℕ InputFault → Type 0
Counts left more (Ok count) = (length more ≡ count) × (count ≡ 0 → IsAtEnd left)
Counts left more (Err Failed) = more ≡ []
Counts left more (Err Full) = ⊥
Counts left more (Err OutOfMemory) = Unit {0}

-- a piece that was taken is kept, or there was no memory for it
abbrev pub Keeps : {R T : Type 0} → Result T InputFault → R → R → R → Type 0
Keeps (Ok answer) old more new = new ≡ more
Keeps (Err Failed) old more new = new ≡ more
Keeps (Err Full) old more new = new ≡ more
Keeps (Err OutOfMemory) old more new = new ≡ old

-- one piece was taken
pub record TakesPiece (taken taken' left left' : Option (List ℕ)) (old : Reading) (result : Result ℕ InputFault) (new : Reading) : Type 0 where
  pub more : List ℕ
  pub takes : Appends taken taken' more
  pub leaves : Consumes left left' more
  pub most : old.taken + length more ≤ 2 ^ 40
  pub keeps : Keeps result old (with_bytes old more) new
  pub count : Counts left' more result

-- a piece was taken for which there was so much room, and fed
pub record Feeds (taken taken' left left' : Option (List ℕ)) (old : List ℕ) (room : ℕ) (result : Result ℕ InputFault) (new : List ℕ) : Type 0 where
  pub more : List ℕ
  pub takes : Appends taken taken' more
  pub leaves : Consumes left left' more
  pub most : length more ≤ room
  pub keeps : Keeps result old (old ++ more) new
  pub count : Counts left' more result

-- the first line was used up, and the LF that ends it
pub record SkipsWhole (old new : Reading) : Type 0 where
  pub line : List ℕ
  pub rest : List ℕ
  pub whole : has_line_end line ≡ false
  pub bytes : old.bytes ≡ line ++ 10 ∷ rest
  pub is : new ≡ record { longest = old.longest; bytes = rest; lines = old.lines + 1; taken = old.taken }

-- all bytes are of one line that no LF ends, and were used up
pub record SkipsLast (old new : Reading) : Type 0 where
  pub whole : has_line_end old.bytes ≡ false
  pub is : new ≡ record { longest = old.longest; bytes = []; lines = old.lines; taken = old.taken }

-- Where these more bytes were taken: whether an LF ended the first line, which is used up; or why that isn't known.
abbrev pub Skips : Option (List ℕ) → Reading → Result Bool InputFault → Reading → Type 0
Skips left r (Ok true) new = SkipsWhole r new
Skips left r (Ok false) new = SkipsLast r new × IsAtEnd left × (r.taken < 2 ^ 40)
Skips left r (Err Failed) new = SkipsLast r new × (r.taken < 2 ^ 40)
Skips left r (Err Full) new = SkipsLast r new × (r.taken ≡ 2 ^ 40)
Skips left r (Err OutOfMemory) new = Unit {0}

-- More bytes were taken of the source, up to 2^40 in all, and the first line was used up.
pub record SkipsLine (taken taken' left left' : Option (List ℕ)) (old : Reading) (result : Result Bool InputFault) (new : Reading) : Type 0 where
  pub more : List ℕ
  pub takes : Appends taken taken' more
  pub leaves : Consumes left left' more
  pub most : old.taken + length more ≤ 2 ^ 40
  pub skips : Skips left' (with_bytes old more) result new

-- Reading an image from a source, in whatever pieces its bytes come.
use Rattle.std.specs.Prelude.{◌≡◌, ℕ, ◌+◌, ◌^◌, ◌<◌, ◌≤◌, Bool, true, false, List, [], ◌++◌, length, Option, Result, Ok, Err}
use Rattle.std.specs.Io.KnownBytes.{Appends, Consumes, IsAtEnd}
use Rattle.line_stream.specs.Reads.{Keeps}
use Rattle.line_stream.specs.declared.reader.InputFault.{InputFault}
use Rattle.line_stream.specs.declared.reader.InputFault.TheVariants as input
use Rattle.cell_model.specs.declared.row.ListLine.{ListLine}
use Rattle.cell_model.specs.declared.row.Listing.{Listing}
use Rattle.cell_image.specs.Images.{width_bytes}
use Rattle.cell_image.specs.ImageReads.{Spot, image_read, next_cell}
use Rattle.cell_image.specs.declared.image_fault.ImageFault.{ImageFault}
use Rattle.cell_image.specs.declared.image_fault.ImageFault.TheVariants.{CutShort, BadMark, BadWidths, BadTable, EmptyPart, NotRising, Trailing, OutOfMemory}
use Rattle.cell_image.specs.declared.image_stream.TakeImageFault.{TakeImageFault}
use Rattle.cell_image.specs.declared.image_stream.TakeImageFault.TheVariants.{Image, Input}

-- ---- the whole

-- A fault of the image is certain: bytes are cut short at the source's end alone, any other fault is told whatever more comes.
abbrev pub Refuses : {A : Type 0} → (List ℕ → Result A ImageFault) → Option (List ℕ) → List ℕ → ImageFault → Type 0
Refuses read left input (CutShort at) = IsAtEnd left × (read input ≡ Err (CutShort at))
Refuses read left input OutOfMemory = Unit {0}
Refuses read left input fault = (later : List ℕ) → read (input ++ later) ≡ Err fault

-- so many bytes are fewer than an input may have, or as many, or there was no memory
abbrev pub Ended : ℕ → InputFault → Type 0
Ended count input.Failed = count < 2 ^ 40
Ended count input.Full = count ≡ 2 ^ 40
Ended count input.OutOfMemory = Unit {0}

-- at the source's end the listing of which the input is the image; or why there is none
abbrev pub GivesListing : Option (List ℕ) → List ℕ → Result Listing TakeImageFault → Type 0
GivesListing left input (Ok l) = IsAtEnd left × (length input < 2 ^ 40) × (image_read input ≡ Ok (width_bytes l.widths, l.lines))
GivesListing left input (Err (Image fault)) = Refuses image_read left input fault
GivesListing left input (Err (Input fault)) = Ended (length input) fault

-- these bytes were taken of a source, and read so
pub record TakesImage (taken taken' left left' : Option (List ℕ)) (result : Result Listing TakeImageFault) : Type 0 where
  pub input : List ℕ
  pub takes : Appends taken taken' input
  pub leaves : Consumes left left' input
  pub gives : GivesListing left' input result

-- ---- one step of it

abbrev pub nothing : Spot
nothing = record { at = 0; bytes = [] }

-- more bytes came
abbrev pub with_more : Spot → List ℕ → Spot
with_more s more = record { at = s.at; bytes = s.bytes ++ more }

-- how many bytes came in all
abbrev pub taken_to : Spot → ℕ
taken_to s = s.at + length s.bytes

-- what was read of these bytes stands whatever more comes, or a fault is certain, or the bytes ended
abbrev pub Tells : {A B : Type 0} → (A → B) → (Spot → Result (B × Spot) ImageFault) → Option (List ℕ) → Spot → Result A TakeImageFault → Spot → Type 0
Tells view read left s (Ok x) new = ((later : List ℕ) → read (with_more s later) ≡ Ok (view x, with_more new later)) × (taken_to new ≡ taken_to s)
Tells view read left s (Err (Image fault)) new = Refuses (λ bytes. read (record { at = s.at; bytes = bytes })) left s.bytes fault
Tells view read left s (Err (Input fault)) new = Ended (taken_to s) fault

-- more bytes were taken of a source, and what was at hand was read so
pub record TakesBy {A B : Type 0} (view : A → B) (read : Spot → Result (B × Spot) ImageFault) (taken taken' left left' : Option (List ℕ)) (old : Spot) (result : Result A TakeImageFault) (new : Spot) : Type 0 where
  pub more : List ℕ
  pub takes : Appends taken taken' more
  pub leaves : Consumes left left' more
  pub tells : Tells view read left' (with_more old more) result new

-- one more cell was taken behind these, and was added to them
abbrev pub TakesCell : List ListLine → (taken taken' left left' : Option (List ℕ)) → Spot → Result (Unit {0}) TakeImageFault → List ListLine → Spot → Type 0
TakesCell cells taken taken' left left' old result cells' new = TakesBy (λ _. cells') (next_cell cells) taken taken' left left' old result new

-- nothing is behind the last cell, or something is
abbrev pub EndsSo : Option (List ℕ) → Spot → Result (Unit {0}) TakeImageFault → Type 0
EndsSo left s (Ok _) = IsAtEnd left × (s.bytes ≡ []) × (s.at < 2 ^ 40)
EndsSo left s (Err (Image fault)) = (fault ≡ Trailing s.at) × (1 ≤ length s.bytes)
EndsSo left s (Err (Input fault)) = Ended (taken_to s) fault

pub record Ends (taken taken' left left' : Option (List ℕ)) (old : Spot) (result : Result (Unit {0}) TakeImageFault) : Type 0 where
  pub more : List ℕ
  pub takes : Appends taken taken' more
  pub leaves : Consumes left left' more
  pub ends : EndsSo left' (with_more old more) result

-- ---- one piece

-- so many bytes were taken, of which none is the source's end; a failure takes none
abbrev pub CountsPiece : Option (List ℕ) → Spot → List ℕ → Result ℕ InputFault → Type 0
CountsPiece left old more (Ok count) = (length more ≡ count) × (count ≡ 0 → IsAtEnd left) × (taken_to old < 2 ^ 40)
CountsPiece left old more (Err input.Failed) = (more ≡ []) × (taken_to old < 2 ^ 40)
CountsPiece left old more (Err input.Full) = (more ≡ []) × (taken_to old ≡ 2 ^ 40)
CountsPiece left old more (Err input.OutOfMemory) = Unit {0}

-- one piece was taken
pub record TakesPiece (taken taken' left left' : Option (List ℕ)) (old : Spot) (result : Result ℕ InputFault) (new : Spot) : Type 0 where
  pub more : List ℕ
  pub takes : Appends taken taken' more
  pub leaves : Consumes left left' more
  pub keeps : Keeps result old (with_more old more) new
  pub count : CountsPiece left' old more result

abbrev pub is_cut : ImageFault → Bool
is_cut (CutShort at) = true
is_cut BadMark = false
is_cut BadWidths = false
is_cut (BadTable at) = false
is_cut (EmptyPart at) = false
is_cut (NotRising at) = false
is_cut (Trailing at) = false
is_cut OutOfMemory = false

-- A piece came where this fault is that the bytes are cut short. The fault stands where it is another one, or the source has ended.
abbrev pub MoreIs : ImageFault → Option (List ℕ) → Spot → List ℕ → Result (Unit {0}) TakeImageFault → Spot → Type 0
MoreIs fault left old more (Ok _) new = (new ≡ with_more old more) × (1 ≤ length more) × (taken_to old < 2 ^ 40)
MoreIs fault left old more (Err (Image told)) new = (told ≡ fault) × (more ≡ []) × (is_cut fault ≡ true → IsAtEnd left)
MoreIs fault left old more (Err (Input why)) new = Ended (taken_to (with_more old more)) why

pub record TakesMore (fault : ImageFault) (taken taken' left left' : Option (List ℕ)) (old : Spot) (result : Result (Unit {0}) TakeImageFault) (new : Spot) : Type 0 where
  pub more : List ℕ
  pub takes : Appends taken taken' more
  pub leaves : Consumes left left' more
  pub is : MoreIs fault left' old more result new

-- Reading a listing from a source.
use Rattle.std.specs.Prelude.{◌≡◌, ℕ, ◌^◌, ◌<◌, List, length, Option, Result, Ok, Err}
use Rattle.std.specs.Io.KnownBytes.{Appends, Consumes, IsAtEnd}
use Rattle.line_stream.specs.declared.reader.InputFault.{InputFault}
use Rattle.line_stream.specs.declared.reader.InputFault.TheVariants.{Failed, Full, OutOfMemory}
use Rattle.row_key.specs.declared.widths.Widths.{Widths}
use Rattle.cell_listing.specs.Grammar.{listed}
use Rattle.cell_listing.specs.ListedLines.{ListingRead}

-- at the end of the input its lines; or why it wasn't read to its end
abbrev pub Reads : Widths → Option (List ℕ) → List ℕ → Result ListingRead InputFault → Type 0
Reads widths left input (Ok read) = IsAtEnd left × (length input < 2 ^ 40) × (read ≡ record { widths = widths; lines = listed input })
Reads widths left input (Err Failed) = length input < 2 ^ 40
Reads widths left input (Err Full) = length input ≡ 2 ^ 40
Reads widths left input (Err OutOfMemory) = Unit {0}

-- these bytes were taken of a source, and read so
pub record ReadsListing (widths : Widths) (taken taken' left left' : Option (List ℕ)) (result : Result ListingRead InputFault) : Type 0 where
  pub input : List ℕ
  pub takes : Appends taken taken' input
  pub leaves : Consumes left left' input
  pub reads : Reads widths left' input result

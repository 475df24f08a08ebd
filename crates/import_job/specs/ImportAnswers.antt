-- What the job of `import` gives.
use Rattle.std.specs.Prelude.{◌≡◌, ◌⊎◌, ℕ, ◌^◌, ◌<◌, ◌≤◌, Bool, true, false, List, [], ◌++◌, length, Option, Ok, Err, codes, decimal}
use Rattle.std.specs.Io.KnownBytes.{Appends, Consumes, IsAtEnd}
use Rattle.tsd_io.specs.Causes.{Rose}
use Rattle.tsd_base.specs.Points.{DataPoint}
use Rattle.line_stream.specs.declared.line.TheConstants.{LONGEST_LINE}
use Rattle.line_stream.specs.Lines.{Line, Splits}
use Rattle.line_stream.specs.Reads.{IsFront}
use Rattle.cell_model.specs.KindWidths.{Widths}
use Rattle.cell_model.specs.Counts.{lines_of}
use Rattle.cell_model.specs.Store.{Store}
use Rattle.cell_listing.specs.Grammar.{cells_text}
use Rattle.point_lines.specs.LinePoints.{points_from, points_of}
use Rattle.point_lines.specs.NameIds.{no_names}
use Rattle.import_job.specs.declared.import_end.ImportEnd.{ImportEnd}
use Rattle.import_job.specs.declared.import_end.ImportEnd.TheVariants.{Done, Refused, ReadFault, WriteFault, OutOfMemory, Stopped, SessionFull}
use Rattle.import_job.specs.ImportedCells.{IsFilled}
use Rattle.import_job.specs.Compactions.{IsCompacted}

-- the store is the filled one, or that of which each row of points was compacted
abbrev pub IsMade : Bool → Store → Store → Type 0
IsMade false filled made = made ≡ filled
IsMade true filled made = IsCompacted filled made

-- the text is the listing of a store into which these points were imported
pub record IsListing (w : Widths) (compact : Bool) (points : List DataPoint) (text : List ℕ) : Type 0 where
  pub filled : Store
  pub is_filled : IsFilled w points filled
  pub made : Store
  pub is_made : IsMade compact filled made
  pub text_is : text ≡ cells_text (lines_of made)

-- the line that tells of the first line that is refused
abbrev pub refused_line : ℕ → List ℕ → List ℕ
refused_line number text = codes "line " ++ decimal number ++ codes ": " ++ text ++ codes "\n"

-- all lines of the input were accepted, and the text is the listing of their points
abbrev pub Lists : Widths → Bool → List ℕ → Bool → List ℕ → Type 0
Lists w compact input ended text = (ended ≡ true) × ((points : List DataPoint) × (points_of w input ≡ Ok points) × IsListing w compact points text)

-- Whatever comes, unless the input has ended, a line of it is the first that is refused, and the text tells of it.
abbrev pub Refuses : Widths → List ℕ → Bool → List ℕ → Type 0
Refuses w input ended text =
    (number : ℕ) × (told : List ℕ) × ((more : List ℕ) → (ended ≡ true → more ≡ []) → points_of w (input ++ more) ≡ Err (number, told)) × (text ≡ refused_line number told)

-- the input so far is these whole lines, none of them refused, and the rest is the front of a line that may be short enough
pub record IsUnrefused (w : Widths) (input : List ℕ) : Type 0 where
  pub lines : List Line
  pub rest : List ℕ
  pub splits : Splits input lines rest
  pub read : (points : List DataPoint) × (points_from w 1 no_names lines ≡ Ok points)
  pub front : IsFront LONGEST_LINE rest

-- a front of the text of one of the two was given
abbrev pub GivesFront : Widths → Bool → List ℕ → Bool → List ℕ → Type 0
GivesFront w compact input ended output = (rest : List ℕ) × (Lists w compact input ended (output ++ rest) ⊎ Refuses w input ended (output ++ rest))

-- Of each end, what it says of the bytes taken, whether their end came, and the bytes given.
abbrev pub ImportAnswers : Widths → Bool → List ℕ → Bool → List ℕ → ImportEnd → Type 0
ImportAnswers w compact input ended output Done = Lists w compact input ended output
ImportAnswers w compact input ended output Refused = Refuses w input ended output
ImportAnswers w compact input ended output ReadFault = IsUnrefused w input × (length input < 2 ^ 40) × (output ≡ [])
ImportAnswers w compact input ended output SessionFull = IsUnrefused w input × (length input ≡ 2 ^ 40) × (output ≡ [])
ImportAnswers w compact input ended output WriteFault = GivesFront w compact input ended output
ImportAnswers w compact input ended output OutOfMemory = (output ≡ []) ⊎ GivesFront w compact input ended output
ImportAnswers w compact input ended output Stopped = output ≡ []

-- these bytes were taken of the source and these given to the sink, and the end is right for them
pub record PassesImport (w : Widths) (compact : Bool) (taken taken' left left' held held' : Option (List ℕ)) (end : ImportEnd) : Type 0 where
  pub input : List ℕ
  pub ended : Bool
  pub output : List ℕ
  pub takes : Appends taken taken' input
  pub leaves : Consumes left left' input
  pub at_end : ended ≡ true → IsAtEnd left'
  pub most : length input ≤ 2 ^ 40
  pub early : ended ≡ true → length input < 2 ^ 40
  pub gives : Appends held held' output
  pub answers : ImportAnswers w compact input ended output end

-- a fault of the source, of the sink and a stop come only where their counts rose
abbrev pub EndCause : (reads reads' writes writes' stops stops' : ℕ) → ImportEnd → Type 0
EndCause reads reads' writes writes' stops stops' ReadFault = Rose reads reads'
EndCause reads reads' writes writes' stops stops' WriteFault = Rose writes writes'
EndCause reads reads' writes writes' stops stops' Stopped = Rose stops stops'
EndCause reads reads' writes writes' stops stops' _ = Unit {0}

-- Reading lines one after the other.
use Rattle.std.specs.Prelude.{◌≡◌, ℕ, ◌+◌, ◌^◌, ◌<◌, ◌≤◌, Bool, true, false, List, [], ◌∷◌, ◌++◌, length, Option, None, Some, Result, Ok, Err}
use Rattle.std.specs.Io.KnownBytes.{Appends, Consumes, IsAtEnd}
use Rattle.tsd_base.specs.Points.{DataPoint}
use Rattle.batch_run.specs.declared.run_fault.RunFault.{RunFault}
use Rattle.batch_run.specs.declared.run_fault.RunFault.TheVariants.{Failed, Full, OutOfMemory, Stopped}
use Rattle.line_stream.specs.declared.line.TheConstants.{LONGEST_LINE}
use Rattle.line_stream.specs.Lines.{Line, Splits}
use Rattle.line_stream.specs.Reads.{IsFront}
use Rattle.point_lines.specs.NameIds.{Names}
use Rattle.batch_run.specs.declared.input.BadLine.{BadLine}
use Rattle.batch_job.specs.Pending.{Gathers, SoFar}
use Rattle.batch_job.specs.PointLines.{Judged, judged, points_from, points_of, with_points}
use Rattle.point_lines.specs.LinePoints.Judged.{Blank, Taken, Refused}
use Rattle.batch_job.specs.NotedIds.{no_names, noted_all, exhausted_text}
use Rattle.cell_model.specs.Layout.{names_of}
use Rattle.tsd_base.specs.declared.kinds.Kind.{Kind}

-- None of the lines is refused, and their points were gathered. Whatever lines come behind them, these points come first.
pub record IsRead (lines : List Line) (g : SoFar) : Type 0 where
  pub points : List DataPoint
  pub gathers : Gathers points g
  pub first : (number : ℕ) (more : List Line) → points_from number no_names (lines ++ more) ≡ with_points points (points_from (number + length lines) gathers.names more)

-- the text with which a line is refused, where these names have ids before it
abbrev pub full_text : Result Names Kind → Option (List ℕ)
full_text (Ok names) = None
full_text (Err kind) = Some (exhausted_text kind)

abbrev pub refusal : Names → Judged → Option (List ℕ)
refusal names Blank = None
refusal names (Taken point) = full_text (noted_all names (names_of point))
refusal names (Refused text) = Some text

-- the line is refused with this text, under this number
abbrev pub IsBad : Names → Line → ℕ → BadLine → Type 0
IsBad names line number bad = (refusal names (judged line) ≡ Some bad.text.items) × (bad.number ≡ number)

-- behind lines that were read one more was read, or it is refused
abbrev pub ReadsLine : Line → ℕ → SoFar → SoFar → Option BadLine → Type 0
ReadsLine line number old new None = (lines : List Line) → IsRead lines old → IsRead (lines ++ line ∷ []) new
ReadsLine line number old new (Some bad) = (lines : List Line) → (read : IsRead lines old) → IsBad read.gathers.names line number bad

-- The input so far is these whole lines, none of them refused, and the rest is the front of a line that may be short enough.
pub record IsUnrefused (input : List ℕ) : Type 0 where
  pub lines : List Line
  pub rest : List ℕ
  pub splits : Splits input lines rest
  pub read : (points : List DataPoint) × (points_from 1 no_names lines ≡ Ok points)
  pub front : IsFront LONGEST_LINE rest

-- the points of an input, as far as it is known: all of it, or whatever comes
abbrev pub IsPointsOf : List ℕ → Bool → Result (List DataPoint) (ℕ × List ℕ) → Type 0
IsPointsOf input true points = points_of input ≡ points
IsPointsOf input false points = (more : List ℕ) → points_of (input ++ more) ≡ points

-- what was read of an input: all its points, or the first line that is refused; or why neither
abbrev pub ReadsTo : List ℕ → Bool → SoFar → Result (Option BadLine) RunFault → Type 0
ReadsTo input ended g (Ok None) = (ended ≡ true) × ((points : List DataPoint) × (points_of input ≡ Ok points) × Gathers points g)
ReadsTo input ended g (Ok (Some bad)) = IsPointsOf input ended (Err (bad.number, bad.text.items))
ReadsTo input ended g (Err Failed) = IsUnrefused input × (length input < 2 ^ 40)
ReadsTo input ended g (Err Full) = IsUnrefused input × (length input ≡ 2 ^ 40)
ReadsTo input ended g (Err OutOfMemory) = Unit {0}
ReadsTo input ended g (Err Stopped) = Unit {0}

-- these bytes were taken of the source, and they are read so
pub record ReadsInputTo (taken taken' left left' : Option (List ℕ)) (g : SoFar) (result : Result (Option BadLine) RunFault) : Type 0 where
  pub input : List ℕ
  pub ended : Bool
  pub takes : Appends taken taken' input
  pub leaves : Consumes left left' input
  pub end : ended ≡ true → IsAtEnd left'
  pub most : length input ≤ 2 ^ 40
  pub early : ended ≡ true → length input < 2 ^ 40
  pub reads : ReadsTo input ended g result

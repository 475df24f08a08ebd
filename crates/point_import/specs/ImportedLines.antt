-- What an import made of the lines of its input.
use Rattle.std.specs.Prelude.{◌≡◌, ◌⊎◌, ℕ, ◌+◌, ◌^◌, ◌<◌, ◌≤◌, Bool, true, false, List, [], ◌∷◌, ◌++◌, length, Option, Some, Result, Ok, Err}
use Rattle.std.specs.Io.KnownBytes.{Appends, Consumes, IsAtEnd}
use Rattle.tsd_base.specs.Points.{DataPoint, point_of}
use Rattle.tsd_hooks.specs.declared.name_patterns.Patterns.{Patterns}
use Rattle.cell_model.specs.declared.answers.RowsFault.{RowsFault}
use Rattle.cell_model.specs.declared.answers.RowsFault.TheVariants as rows
use Rattle.cell_model.specs.Deeds.{Since, deeds}
use Rattle.cell_model.specs.History.{History}
use Rattle.cell_model.specs.Seen.{Seen, InEach}
use Rattle.line_stream.specs.declared.line.TheConstants.{LONGEST_LINE}
use Rattle.line_stream.specs.Lines.{Line, Splits, is_blank, is_too_long, lines_of, text_of}
use Rattle.line_stream.specs.Reads.{IsFront}
use Rattle.point_lines.specs.LinePoints.{judged}
use Rattle.point_lines.specs.LinePoints.Judged.{Blank, Taken}
use Rattle.point_import.specs.declared.import_fault.LineFault.{LineFault}
use Rattle.point_import.specs.declared.import_fault.LineFault.TheVariants.{TooLong, Point, Exhausted}
use Rattle.point_import.specs.declared.import_fault.ImportFault.{ImportFault}
use Rattle.point_import.specs.declared.import_fault.ImportFault.TheVariants.{Line as BadLine, ReadFault, SessionFull, OutOfMemory, Stopped}
use Rattle.point_import.specs.PutPoints.{PointMade, WasPut}

-- ---- lines that are accepted

-- Lines were accepted one after the other, from one length on to another, with so many points: a blank one makes nothing, and the point of any other was put.
pub data WereAccepted (patterns : Patterns) (h : History) (caller n : ℕ) : List Line → ℕ → ℕ → Type 0 where
  start : WereAccepted patterns h caller n [] 0 n
  then_blank : {lines : List Line} {count e : ℕ} (line : Line) → WereAccepted patterns h caller n lines count e → judged line ≡ Blank → WereAccepted patterns h caller n (lines ++ line ∷ []) count e
  then_put : {lines : List Line} {count e e2 : ℕ} (line : Line) (p : DataPoint) → WereAccepted patterns h caller n lines count e → e ≤ e2 → judged line ≡ Taken p → WasPut patterns h caller e e2 p
      → WereAccepted patterns h caller n (lines ++ line ∷ []) (count + 1) e2

-- ---- the line that is refused

-- the line is refused so, and what was made for it: of a text that is no point nothing
abbrev pub IsRefused : Patterns → History → ℕ → ℕ → ℕ → Line → LineFault → Type 0
IsRefused patterns h caller n n2 line TooLong = (is_too_long line.bytes ≡ true) × (deeds h caller n n2 ≡ [])
IsRefused patterns h caller n n2 line (Point fault) =
    (is_too_long line.bytes ≡ false) × (is_blank (text_of line) ≡ false) × (point_of (text_of line) ≡ Err fault) × (deeds h caller n n2 ≡ [])
IsRefused patterns h caller n n2 line (Exhausted kind) = (p : DataPoint) × (judged line ≡ Taken p) × PointMade patterns h caller n n2 p (Ok (Some kind))

-- the put of a line's point was begun, and a step of it had this fault
abbrev pub IsBroken : Patterns → History → ℕ → ℕ → ℕ → Line → RowsFault → Type 0
IsBroken patterns h caller n n2 line fault = (p : DataPoint) × (judged line ≡ Taken p) × PointMade patterns h caller n n2 p (Err fault)

-- ---- one line

abbrev pub LineMade : Patterns → History → ℕ → ℕ → ℕ → Line → ℕ → Result ℕ ImportFault → Type 0
LineMade patterns h caller n n2 line number (Ok count) =
    ((count ≡ 0) × (n2 ≡ n) × (judged line ≡ Blank)) ⊎ ((count ≡ 1) × ((p : DataPoint) × (judged line ≡ Taken p) × WasPut patterns h caller n n2 p))
LineMade patterns h caller n n2 line number (Err (BadLine told fault)) = (told ≡ number) × IsRefused patterns h caller n n2 line fault
LineMade patterns h caller n n2 line number (Err ReadFault) = ⊥
LineMade patterns h caller n n2 line number (Err SessionFull) = ⊥
LineMade patterns h caller n n2 line number (Err OutOfMemory) = (deeds h caller n n2 ≡ []) ⊎ IsBroken patterns h caller n n2 line rows.OutOfMemory
LineMade patterns h caller n n2 line number (Err Stopped) = (deeds h caller n n2 ≡ []) ⊎ IsBroken patterns h caller n n2 line rows.Stopped

pub record PutsLine (patterns : Patterns) (line : Line) (number : ℕ) (old : Seen) (result : Result ℕ ImportFault) (new : Seen) : Type 0 where
  pub since : Since old new
  pub made : InEach new (λ h. LineMade patterns h old.caller old.length new.length line number result)

-- ---- all lines

-- these lines come first, and of the one behind them this is true
abbrev pub ComesThen : List Line → List Line → (Line → Type 0) → Type 0
ComesThen all before P = (line : Line) × (others : List Line) × (all ≡ before ++ line ∷ others) × P line

-- the input has ended, or whatever comes: first these lines, and of the one behind them this is true
abbrev pub Finds : List ℕ → Bool → List Line → (Line → Type 0) → Type 0
Finds input ended before P = (more : List ℕ) → (ended ≡ true → more ≡ []) → ComesThen (lines_of (input ++ more)) before P

-- the lines before the first one that is refused were accepted
pub record RefusesLine (patterns : Patterns) (h : History) (caller n n2 : ℕ) (input : List ℕ) (ended : Bool) (number : ℕ) (fault : LineFault) : Type 0 where
  pub before : List Line
  pub count : ℕ
  pub last : ℕ
  pub accepted : WereAccepted patterns h caller n before count last
  pub in_range : last ≤ n2
  pub number_is : number ≡ length before + 1
  pub refused : Finds input ended before (λ line. IsRefused patterns h caller last n2 line fault)

-- the whole lines so far were accepted, and what is left is the front of a line that may be short enough
pub record AcceptsSoFar (patterns : Patterns) (h : History) (caller n n2 : ℕ) (input : List ℕ) : Type 0 where
  pub before : List Line
  pub count : ℕ
  pub rest : List ℕ
  pub accepted : WereAccepted patterns h caller n before count n2
  pub splits : Splits input before rest
  pub front : IsFront LONGEST_LINE rest

-- lines were accepted, and nothing was made for the next one, or a step of its put had this fault
pub record BreaksOff (patterns : Patterns) (h : History) (caller n n2 : ℕ) (input : List ℕ) (ended : Bool) (fault : RowsFault) : Type 0 where
  pub before : List Line
  pub count : ℕ
  pub rest : List ℕ
  pub last : ℕ
  pub accepted : WereAccepted patterns h caller n before count last
  pub in_range : last ≤ n2
  pub splits : Splits input before rest
  pub begun : (deeds h caller last n2 ≡ []) ⊎ Finds input ended before (λ line. IsBroken patterns h caller last n2 line fault)

-- Of an import's answer: all lines were accepted, with so many points; or the first refused one; or why neither is known.
abbrev pub ImportMade : Patterns → History → ℕ → ℕ → ℕ → List ℕ → Bool → Result ℕ ImportFault → Type 0
ImportMade patterns h caller n n2 input ended (Ok count) = (ended ≡ true) × WereAccepted patterns h caller n (lines_of input) count n2
ImportMade patterns h caller n n2 input ended (Err (BadLine number fault)) = RefusesLine patterns h caller n n2 input ended number fault
ImportMade patterns h caller n n2 input ended (Err ReadFault) = AcceptsSoFar patterns h caller n n2 input × (length input < 2 ^ 40)
ImportMade patterns h caller n n2 input ended (Err SessionFull) = AcceptsSoFar patterns h caller n n2 input × (length input ≡ 2 ^ 40)
ImportMade patterns h caller n n2 input ended (Err OutOfMemory) = BreaksOff patterns h caller n n2 input ended rows.OutOfMemory
ImportMade patterns h caller n n2 input ended (Err Stopped) = BreaksOff patterns h caller n n2 input ended rows.Stopped

-- These bytes were taken of the source, and their lines were imported so, in each lawful history that fits what the caller has seen after it.
pub record Imports (patterns : Patterns) (taken taken' left left' : Option (List ℕ)) (old : Seen) (result : Result ℕ ImportFault) (new : Seen) : Type 0 where
  pub input : List ℕ
  pub ended : Bool
  pub takes : Appends taken taken' input
  pub leaves : Consumes left left' input
  pub end : ended ≡ true → IsAtEnd left'
  pub most : length input ≤ 2 ^ 40
  pub early : ended ≡ true → length input < 2 ^ 40
  pub since : Since old new
  pub made : InEach new (λ h. ImportMade patterns h old.caller old.length new.length input ended result)

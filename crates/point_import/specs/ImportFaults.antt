-- Why an import ended before its input did, and the causes.
use Rattle.std.specs.Prelude.{ℕ, List, codes}
use Rattle.tsd_base.specs.Faults.{point_fault_text}
use Rattle.tsd_io.specs.Causes.{Rose}
use Rattle.cell_model.specs.declared.answers.RowsFault.{RowsFault}
use Rattle.cell_model.specs.declared.answers.RowsFault.TheVariants as rows
use Rattle.line_stream.specs.declared.reader.InputFault.{InputFault}
use Rattle.line_stream.specs.declared.reader.InputFault.TheVariants as input
use Rattle.point_lines.specs.NameIds.{exhausted_text}
use Rattle.point_import.specs.declared.import_fault.LineFault.{LineFault}
use Rattle.point_import.specs.declared.import_fault.LineFault.TheVariants.{TooLong, Point, Exhausted}
use Rattle.point_import.specs.declared.import_fault.ImportFault.{ImportFault}
use Rattle.point_import.specs.declared.import_fault.ImportFault.TheVariants.{Line, ReadFault, SessionFull, OutOfMemory, Stopped}

-- what is told of a line that is refused
abbrev pub line_fault_text : LineFault → List ℕ
line_fault_text TooLong = codes "line too long"
line_fault_text (Point fault) = point_fault_text fault
line_fault_text (Exhausted kind) = exhausted_text kind

-- a fault of the input, or of the rows, as one of an import
abbrev pub of_input : InputFault → ImportFault
of_input input.Failed = ReadFault
of_input input.Full = SessionFull
of_input input.OutOfMemory = OutOfMemory

abbrev pub of_rows : RowsFault → ImportFault
of_rows rows.OutOfMemory = OutOfMemory
of_rows rows.Stopped = Stopped

-- the source failed only where its count of faults rose, and the caller was stopped only where its count of stops did
abbrev pub ImportCause : ℕ → ℕ → ℕ → ℕ → ImportFault → Type 0
ImportCause reads reads' stops stops' (Line number fault) = Unit {0}
ImportCause reads reads' stops stops' ReadFault = Rose reads reads'
ImportCause reads reads' stops stops' SessionFull = Unit {0}
ImportCause reads reads' stops stops' OutOfMemory = Unit {0}
ImportCause reads reads' stops stops' Stopped = Rose stops stops'

-- the same of one line, for which no source is asked
abbrev pub LineCause : ℕ → ℕ → ImportFault → Type 0
LineCause stops stops' (Line number fault) = Unit {0}
LineCause stops stops' ReadFault = ⊥
LineCause stops stops' SessionFull = ⊥
LineCause stops stops' OutOfMemory = Unit {0}
LineCause stops stops' Stopped = Rose stops stops'

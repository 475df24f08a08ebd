-- Why a run prints nothing, and the causes.
use Rattle.std.specs.Prelude.{ℕ}
use Rattle.tsd_io.specs.Causes.{Rose}
use Rattle.line_stream.specs.declared.reader.InputFault.{InputFault}
use Rattle.line_stream.specs.declared.reader.InputFault.TheVariants as input
use Rattle.cell_model.specs.declared.answers.RowsFault.{RowsFault}
use Rattle.cell_model.specs.declared.answers.RowsFault.TheVariants as rows
use Rattle.batch_run.specs.declared.run_fault.RunFault.{RunFault}
use Rattle.batch_run.specs.declared.run_fault.RunFault.TheVariants.{Failed, Full, OutOfMemory, Stopped}

abbrev pub of_input : InputFault → RunFault
of_input input.Failed = Failed
of_input input.Full = Full
of_input input.OutOfMemory = OutOfMemory

abbrev pub of_rows : RowsFault → RunFault
of_rows rows.OutOfMemory = OutOfMemory
of_rows rows.Stopped = Stopped

-- The source failed only where its count of faults rose, and the halt refused a step only where the count of stops did.
abbrev pub RunCause : (faults faults' stops stops' : ℕ) → RunFault → Type 0
RunCause faults faults' stops stops' Failed = Rose faults faults'
RunCause faults faults' stops stops' Stopped = Rose stops stops'
RunCause faults faults' stops stops' _ = Unit {0}

-- a fault in a line is none of the source, and comes with its cause
abbrev pub LineCause : (stops stops' : ℕ) → RunFault → Type 0
LineCause stops stops' OutOfMemory = Unit {0}
LineCause stops stops' Stopped = Rose stops stops'
LineCause stops stops' _ = ⊥

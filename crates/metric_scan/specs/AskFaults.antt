-- Faults as data.
use Rattle.std.specs.Prelude.{Bool, true, false}
use Rattle.cell_model.specs.declared.answers.RowsFault.{RowsFault}
use Rattle.cell_model.specs.declared.answers.RowsFault.TheVariants as rows
use Rattle.metric_scan.specs.declared.fault.AskFault.{AskFault}
use Rattle.metric_scan.specs.declared.fault.AskFault.TheVariants.{OutOfMemory, Stopped}

-- a fault of the rows as one of a query
abbrev pub ask_fault : RowsFault → AskFault
ask_fault rows.OutOfMemory = OutOfMemory
ask_fault rows.Stopped = Stopped

-- the fault is that the caller was stopped
abbrev pub is_stop : AskFault → Bool
is_stop Stopped = true
is_stop _ = false

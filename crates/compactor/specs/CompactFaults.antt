-- The faults of compactions, of merges and of steps.
use Rattle.std.specs.Prelude.{Bool, true, false}
use Rattle.qual_codec.specs.declared.cells.MergeFault.{MergeFault}
use Rattle.qual_codec.specs.declared.cells.MergeFault.TheVariants as merge
use Rattle.cell_model.specs.declared.answers.RowsFault.{RowsFault}
use Rattle.cell_model.specs.declared.answers.RowsFault.TheVariants as rows
use Rattle.compactor.specs.declared.compaction.CompactFault.{CompactFault}
use Rattle.compactor.specs.declared.compaction.CompactFault.TheVariants.{Conflict, OutOfMemory, Stopped}

abbrev pub fault_of_merge : MergeFault → CompactFault
fault_of_merge (merge.Conflict offset a b) = Conflict offset a b
fault_of_merge merge.OutOfMemory = OutOfMemory

abbrev pub fault_of_rows : RowsFault → CompactFault
fault_of_rows rows.OutOfMemory = OutOfMemory
fault_of_rows rows.Stopped = Stopped

-- the fault is that the caller was stopped
abbrev pub is_stop : CompactFault → Bool
is_stop (Conflict offset a b) = false
is_stop OutOfMemory = false
is_stop Stopped = true

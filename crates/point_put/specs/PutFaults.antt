-- Faults as data.
use Rattle.std.specs.Prelude.{ℕ, Bool, true, false, List, ◌++◌, codes}
use Rattle.tsd_base.specs.Faults.{kind_text}
use Rattle.cell_model.specs.declared.answers.RowsFault.{RowsFault}
use Rattle.cell_model.specs.declared.answers.RowsFault.TheVariants as rows
use Rattle.point_put.specs.declared.fault.PutFault.{PutFault}
use Rattle.point_put.specs.declared.fault.PutFault.TheVariants.{Unknown, Filtered, Exhausted, OutOfMemory, Stopped}

-- a fault of the rows as one of putting
abbrev pub put_fault : RowsFault → PutFault
put_fault rows.OutOfMemory = OutOfMemory
put_fault rows.Stopped = Stopped

-- the fault is that the caller was stopped
abbrev pub is_stop : PutFault → Bool
is_stop Stopped = true
is_stop _ = false

-- what is told of a point that wasn't put
unfoldable pub put_fault_text : PutFault → List ℕ
put_fault_text (Unknown kind name) = codes "unknown " ++ kind_text kind ++ codes " " ++ name
put_fault_text (Filtered kind name) = kind_text kind ++ codes " " ++ name ++ codes " is filtered"
put_fault_text (Exhausted kind) = codes "ids of " ++ kind_text kind ++ codes " are exhausted"
put_fault_text OutOfMemory = codes "out of memory"
put_fault_text Stopped = codes "stopped"

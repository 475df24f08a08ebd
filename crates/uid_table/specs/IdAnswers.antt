-- Answers as data.
use Rattle.std.specs.Prelude.{ℕ, Bool, true, false}
use Rattle.cell_model.specs.declared.answers.RowsFault.{RowsFault}
use Rattle.cell_model.specs.declared.answers.RowsFault.TheVariants as rows
use Rattle.uid_table.specs.declared.id_answers.Assigned.{Assigned}
use Rattle.uid_table.specs.declared.id_answers.Assigned.TheVariants.{Fresh, Existing, Lost}
use Rattle.uid_table.specs.declared.id_answers.ResolveFault.{ResolveFault}
use Rattle.uid_table.specs.declared.id_answers.ResolveFault.TheVariants as resolve
use Rattle.uid_table.specs.declared.id_answers.AssignFault.{AssignFault}
use Rattle.uid_table.specs.declared.id_answers.AssignFault.TheVariants as assign

-- the id that the name has
abbrev pub answered_id : Assigned → ℕ
answered_id (Fresh id) = id
answered_id (Existing id) = id
answered_id (Lost wasted id) = id

-- a fault of the rows as one of resolving
abbrev pub resolve_fault : RowsFault → ResolveFault
resolve_fault rows.OutOfMemory = resolve.OutOfMemory
resolve_fault rows.Stopped = resolve.Stopped

-- and as one of assigning
abbrev pub assign_fault : RowsFault → AssignFault
assign_fault rows.OutOfMemory = assign.OutOfMemory
assign_fault rows.Stopped = assign.Stopped

-- the fault of a resolve is that the caller was stopped
abbrev pub is_resolve_stop : ResolveFault → Bool
is_resolve_stop resolve.Stopped = true
is_resolve_stop _ = false

-- and that of an assignment
abbrev pub is_assign_stop : AssignFault → Bool
is_assign_stop assign.Stopped = true
is_assign_stop _ = false

-- The texts of faults of requests about names.
use Rattle.std.specs.Prelude.{ℕ, List, codes}
use Rattle.name_requests.specs.declared.fault.AssignFault.{AssignFault}
use Rattle.name_requests.specs.declared.fault.AssignFault.TheVariants as assign
use Rattle.name_requests.specs.declared.fault.SuggestFault.{SuggestFault}
use Rattle.name_requests.specs.declared.fault.SuggestFault.TheVariants as suggest

unfoldable pub assign_fault_text : AssignFault → List ℕ
assign_fault_text assign.NotJson = codes "body is not JSON"
assign_fault_text assign.BadLists = codes "bad lists"
assign_fault_text assign.NothingToAssign = codes "nothing to assign"
assign_fault_text assign.OutOfMemory = codes "out of memory"

unfoldable pub suggest_fault_text : SuggestFault → List ℕ
suggest_fault_text suggest.NotJson = codes "body is not JSON"
suggest_fault_text suggest.BadRequest = codes "bad request"
suggest_fault_text suggest.BadType = codes "bad type"
suggest_fault_text suggest.BadMax = codes "bad max"
suggest_fault_text suggest.OutOfMemory = codes "out of memory"

-- What is printed, as an outcome.
use Rattle.std.specs.Prelude.{◌≡◌, List, Result, Ok, Err}
use Rattle.batch_run.specs.declared.output_text.Printed.{Printed}
use Rattle.batch_run.specs.Outcomes.{Outcome, replied}
use Rattle.batch_run.specs.declared.run_fault.RunFault.{RunFault}
use Rattle.batch_run.specs.declared.run_fault.RunFault.TheVariants.{OutOfMemory, Stopped}
use Rattle.json_reply.specs.Replies.{Group}
use Rattle.metric_scan.specs.declared.fault.AskFault.{AskFault}

abbrev pub outcome_of : Printed → Outcome
outcome_of printed = record { status = printed.status; text = printed.text.items }

-- the answer of a query is printed, or there was no memory to, or it was stopped
abbrev pub Tells : Result Printed RunFault → Result (List Group) AskFault → Type 0
Tells (Ok printed) answer = outcome_of printed ≡ replied answer
Tells (Err OutOfMemory) answer = Unit {0}
Tells (Err Stopped) answer = Unit {0}
Tells (Err _) answer = ⊥

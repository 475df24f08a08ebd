-- What is told of a query that has no answer.
use Rattle.std.specs.Prelude.{ℕ, List, [], ◌++◌, codes, decimal}
use Rattle.std.specs.Fmt.{signed_decimal}
use Rattle.tsd_base.specs.Faults.{kind_text}
use Rattle.metric_scan.specs.declared.fault.AskFault.{AskFault}
use Rattle.metric_scan.specs.declared.fault.AskFault.TheVariants as ask

-- want of memory isn't told, nor is a stop; times are in milliseconds
abbrev pub ask_fault_text : AskFault → List ℕ
ask_fault_text (ask.TooManyBuckets count) = decimal count ++ codes " buckets (1000000 at most)"
ask_fault_text (ask.BadFilter index) = codes "bad filter " ++ decimal index
ask_fault_text (ask.Unknown kind name) = codes "unknown " ++ kind_text kind ++ codes " " ++ name
ask_fault_text (ask.Duplicate time a b) = codes "two values at " ++ decimal time ++ codes ": " ++ signed_decimal a ++ codes " and " ++ signed_decimal b
ask_fault_text (ask.Overflow time) = codes "overflow at " ++ decimal time
ask_fault_text ask.OutOfMemory = []
ask_fault_text ask.Stopped = []

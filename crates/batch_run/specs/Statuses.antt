-- The numbers of statuses.
use Rattle.std.specs.Prelude.{ℕ}
use Rattle.batch_run.specs.declared.status.Status.{Status}
use Rattle.batch_run.specs.declared.status.Status.TheVariants.{Done, Usage, Refused, ReadFault, WriteFault, Memory, Stopped, DoorFault, SessionFull, ClockFault}

abbrev pub number_of : Status → ℕ
number_of Done = 0
number_of Usage = 1
number_of Refused = 2
number_of ReadFault = 3
number_of WriteFault = 4
number_of Memory = 5
number_of Stopped = 6
number_of DoorFault = 7
number_of SessionFull = 8
number_of ClockFault = 9

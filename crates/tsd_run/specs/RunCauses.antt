-- The causes of how a run ends.
use Rattle.std.specs.Prelude.{◌≡◌, ◌≢◌, ◌≤◌}
use Rattle.tsd_io.specs.Causes.{Rose}
use Rattle.link_acceptor.specs.Accepting.{IsNoneLeft}
use Rattle.batch_run.specs.declared.status.Status.{Status}
use Rattle.batch_run.specs.declared.status.Status.TheVariants.{Done, ReadFault, WriteFault, Memory, Stopped, DoorFault, ClockFault}
use Rattle.tsd_run.specs.RunDevices.{Devices, LoneDevices, lone}

-- No count of faults or of stops falls, and a status that tells of one comes only where it rose.
pub record HasLoneCauses (before after : LoneDevices) (status : Status) : Type 0 where
  pub reads_later : before.input.faults ≤ after.input.faults
  pub writes_later : before.output.faults ≤ after.output.faults
  pub clock_later : before.clock.faults ≤ after.clock.faults
  pub stops_later : before.stops ≤ after.stops
  pub read_fault : status ≡ ReadFault → Rose before.input.faults after.input.faults
  pub write_fault : status ≡ WriteFault → Rose before.output.faults after.output.faults
  pub clock_fault : status ≡ ClockFault → Rose before.clock.faults after.clock.faults
  pub stopped : status ≡ Stopped → Rose before.stops after.stops

-- so it is of all devices, the doors among them
pub record HasCauses (before after : Devices) (status : Status) : Type 0 where
  pub lone_causes : HasLoneCauses (lone before) (lone after) status
  pub doors_later : before.doors.faults ≤ after.doors.faults
  pub door_fault : status ≡ DoorFault → Rose before.doors.faults after.doors.faults

-- A fleet is done only where no more connections came, and where the halt refused it is stopped, unless memory ran out.
pub record HasFleetEnd (before after : Devices) (status : Status) : Type 0 where
  pub none_left : status ≡ Done → IsNoneLeft before.doors.waiting after.doors.waiting
  pub heeded : status ≢ Stopped → status ≢ Memory → after.stops ≡ before.stops

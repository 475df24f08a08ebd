-- What the devices of a run tell at a moment.
use Rattle.std.specs.Prelude.{ℕ, List, Option}
use Rattle.tsd_daemon.specs.ServedConns.{ConnTold}
use Rattle.tsd_fleet.specs.Devices.{ClockTold, DoorsTold, FleetDevices, OutputTold}

-- an input: the bytes that were taken of it and those that are left, where it tells them, and how often it failed
pub record InputTold : Type 0 where
  pub taken : Option (List ℕ)
  pub left : Option (List ℕ)
  pub faults : ℕ

-- the devices of a command that waits for nobody, and how often its halt refused
pub record LoneDevices : Type 0 where
  pub input : InputTold
  pub output : OutputTold
  pub clock : ClockTold
  pub stops : ℕ

-- all devices of a run, and how often its halt refused
pub record Devices : Type 0 where
  pub input : InputTold
  pub output : OutputTold
  pub clock : ClockTold
  pub doors : DoorsTold
  pub stops : ℕ

-- those that such a command has
abbrev pub lone : Devices → LoneDevices
lone d = record { input = d.input; output = d.output; clock = d.clock; stops = d.stops }

-- what they tell of the connection that such a command may serve
abbrev pub conn_told : LoneDevices → ConnTold
conn_told d = record { taken = d.input.taken; left = d.input.left; held = d.output.held; moments = d.clock.moments }

-- those that a fleet has
abbrev pub fleet : Devices → FleetDevices
fleet d = record { output = d.output; clock = d.clock; doors = d.doors; stops = d.stops }

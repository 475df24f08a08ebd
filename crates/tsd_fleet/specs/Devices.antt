-- What the devices of a fleet tell at a moment, and what is asked of a fleet.
use Rattle.std.specs.Prelude.{ℕ, ◌≤◌, List, Option}
use Rattle.cell_model.specs.Store.{Store}
use Rattle.point_put.specs.Admissions.{Admission}
use Rattle.conn_workers.specs.ServedLinks.{ServingTerms}
use Rattle.worker_returns.specs.GatheredLinks.{ReturnsTold}
pub use Rattle.conn_workers.specs.ServedLinks.{ClockTold}
pub use Rattle.site_workers.specs.ServedSites.{DoorsTold}

-- what an output tells: the bytes that it holds, where it tells them, and how often it failed
pub record OutputTold : Type 0 where
  pub held : Option (List ℕ)
  pub faults : ℕ

-- what all devices of a fleet tell, with how often its halt refused
pub record FleetDevices : Type 0 where
  pub output : OutputTold
  pub clock : ClockTold
  pub doors : DoorsTold
  pub stops : ℕ

-- what is asked of a fleet: its port, for which names ids are given, the store that it begins from, and whether the ends of its connections tell their bytes
pub record Terms : Type 1 where
  pub port : ℕ
  pub admission : Admission
  pub base : Store
  pub inlets_tell : Type 0
  pub outlets_tell : Type 0

-- what its connections are served by, where its clock has these moments to give at first
abbrev pub served_by : Terms → Option (List ℕ) → ServingTerms
served_by terms moments = record { admission = terms.admission; moments = moments; inlets_tell = terms.inlets_tell; outlets_tell = terms.outlets_tell }

-- what is told of the connections that were given back
abbrev pub returns_told : FleetDevices → ReturnsTold
returns_told d = record { back = d.doors.back; clock_faults = d.clock.faults }

-- no count of failures or refusals falls
pub record NoneFalls (before after : FleetDevices) : Type 0 where
  pub writes : before.output.faults ≤ after.output.faults
  pub clock : before.clock.faults ≤ after.clock.faults
  pub doors : before.doors.faults ≤ after.doors.faults
  pub stops : before.stops ≤ after.stops

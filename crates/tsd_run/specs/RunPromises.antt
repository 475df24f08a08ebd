-- What a run promises but for its headline.
use Rattle.std.specs.Prelude.{Option, MatchOption, IsSome}
use Rattle.command_words.specs.CommandWords.{Asked, Serve, fleet_asked}
use Rattle.batch_run.specs.declared.status.Status.{Status}
use Rattle.tsd_run.specs.FleetStatuses.{ServesFleet}
use Rattle.tsd_run.specs.RunCauses.{HasCauses, HasFleetEnd, HasLoneCauses}
use Rattle.tsd_run.specs.RunDevices.{Devices, LoneDevices, lone}
use Rattle.tsd_run.specs.Runs.{RunsAlone}

-- of a command that waits for nobody: what it took and gave, and the causes
pub record RanAlone (asked : Option Asked) (before after : LoneDevices) (status : Status) : Type 0 where
  pub runs : RunsAlone asked before after status
  pub causes : HasLoneCauses before after status

-- of a fleet
pub record RanFleet (s : Serve) (inlets_tell outlets_tell : Type 0) (before after : Devices) (status : Status) : Type 0 where
  pub serves : ServesFleet s inlets_tell outlets_tell before after status
  pub causes : HasCauses before after status
  pub ends : HasFleetEnd before after status

-- what is served where the words ask for a fleet, and what a command that waits for nobody does of any other
abbrev pub Runs : Option Asked → (inlets_tell outlets_tell : Type 0) → (before after : Devices) → Status → Type 0
Runs asked inlets_tell outlets_tell before after status =
    MatchOption (fleet_asked asked) (RunsAlone asked (lone before) (lone after) status) (λ s. ServesFleet s inlets_tell outlets_tell before after status)

-- of any words
pub record Ran (asked : Option Asked) (inlets_tell outlets_tell : Type 0) (before after : Devices) (status : Status) : Type 0 where
  pub runs : Runs asked inlets_tell outlets_tell before after status
  pub causes : HasCauses before after status
  pub ends : IsSome (fleet_asked asked) → HasFleetEnd before after status

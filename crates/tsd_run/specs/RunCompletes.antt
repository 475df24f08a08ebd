-- How a run ends whose devices don't fail.
use Rattle.std.specs.Prelude.{ℕ, ◌^◌, ◌<◌, List, length, Some}
use Rattle.std.specs.Io.KnownBytes.{Appends}
use Rattle.tsd_io.specs.Causes.{Rose}
use Rattle.command_words.specs.CommandWords.{Asked}
use Rattle.batch_run.specs.declared.status.Status.{Status}
use Rattle.batch_run.specs.declared.status.Status.TheVariants.{Done, Refused, Memory}
use Rattle.tsd_run.specs.RunDevices.{Devices, InputTold}
use Rattle.tsd_run.specs.RunPromises.{Ran}

-- no count of a device's faults rose, and none of the halt's refusals
pub record NoneRose (before after : Devices) : Type 0 where
  pub input : Rose before.input.faults after.input.faults → ⊥
  pub output : Rose before.output.faults after.output.faults → ⊥
  pub clock : Rose before.clock.faults after.clock.faults → ⊥
  pub doors : Rose before.doors.faults after.doors.faults → ⊥
  pub halt : Rose before.stops after.stops → ⊥

-- fewer than 2^40 bytes were taken of the input, as it tells
abbrev pub IsShort : (before after : InputTold) → Type 0
IsShort before after = (bytes : List ℕ) → Appends before.taken after.taken bytes → length bytes < 2 ^ 40

-- it did what was asked, or refused it for a cause of its own, or had no memory
abbrev pub EndsByItself : Status → Type 0
EndsByItself Done = Unit {0}
EndsByItself Refused = Unit {0}
EndsByItself Memory = Unit {0}
EndsByItself other = ⊥

-- A run of a command whose devices don't fail, whose halt refuses nothing and whose input is short ends by itself.
abbrev pub RunCompletes : (inlets_tell outlets_tell : Type 0) → Type 0
RunCompletes inlets_tell outlets_tell = (asked : Asked) (before after : Devices) (status : Status) → Ran (Some asked) inlets_tell outlets_tell before after status → NoneRose before after
    → IsShort before.input after.input → EndsByItself status

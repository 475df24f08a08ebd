-- Callers of one store, what its history showed, and what a step of another is to caller 1.
use Rattle.std.specs.Prelude.{◌≡◌, ℕ, ◌≤◌, List}
use Rattle.cell_model.specs.declared.events.Step.{Step}
use Rattle.cell_model.specs.declared.events.Reply.{Reply}
use Rattle.cell_model.specs.Seen.{Waited, IsPossible}
use Rattle.cell_solo.specs.Turns.{Play, sight, Steps, Stays}
use Rattle.test_rows.specs.declared.fact.Fact.{Fact}
use Rattle.test_rows.specs.Facts.{AllHold}

-- callers of a store, what its history showed, and for how many steps there is room at least
pub record Sharing : Type 0 where
  pub solo : Play
  pub facts : List Fact
  pub room : ℕ

-- there are four callers, and each fact holds
pub record IsSharing (s : Sharing) : Type 0 where
  pub callers : s.solo.callers ≡ 4
  pub room : s.room ≤ s.solo.room
  pub hold : AllHold (sight s.solo) s.facts

-- it becomes the turn of this caller
abbrev pub turned : ℕ → Sharing → Sharing
turned caller s = record s { solo = record s.solo { caller = caller } }

-- a step of the caller whose turn it is, or none
pub data IsOneStep (old new : Play) : Type 0 where
  none : Stays old new → IsOneStep old new
  one : {step : Step} {reply : Reply} → Steps old step reply new → IsOneStep old new

-- caller 1, whose turn it is and stays, only waited
pub record Passes (old new : Play) : Type 0 where
  pub first : new.caller ≡ 1
  pub waits : Waited (sight old) (sight new)
  pub lives : IsPossible (sight old) → IsPossible (sight new)

-- callers of which caller 1 makes the steps of these rows, and how often it was stopped
pub record Scene : Type 0 where
  pub shared : Sharing
  pub stops : ℕ

pub record IsScene (s : Scene) : Type 0 where
  pub first : s.shared.solo.caller ≡ 1

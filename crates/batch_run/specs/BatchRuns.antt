-- What `print` promises.
use Rattle.std.specs.Prelude.{◌≡◌, ℕ, ◌^◌, ◌<◌, ◌≤◌, ◌⊎◌, Bool, true, false, List, [], ◌++◌, length, Option, Some, Result, Ok, Err}
use Rattle.std.specs.Io.KnownBytes.{Appends, Consumes, IsAtEnd}
use Rattle.batch_run.specs.declared.status.Status.{Status}
use Rattle.batch_run.specs.declared.status.Status.TheVariants.{Done, Usage, Refused, ReadFault, WriteFault, Memory, Stopped as Halted, DoorFault, SessionFull, ClockFault}
use Rattle.batch_run.specs.declared.run_fault.RunFault.{RunFault}
use Rattle.batch_run.specs.declared.run_fault.RunFault.TheVariants.{Failed, Full, OutOfMemory, Stopped}
use Rattle.batch_run.specs.declared.output_text.Printed.{Printed}
use Rattle.command_words.specs.CommandWords.{Batch}
use Rattle.query_text.specs.Subs.{sub_of}
use Rattle.query_text.specs.declared.queries.Sub.{Sub}
use Rattle.batch_run.specs.Inputs.{IsUnrefused}
use Rattle.batch_run.specs.Outcomes.{Outcome, outcome}
use Rattle.batch_run.specs.OutputText.{outcome_of}

-- The input so far decides the outcome: it has ended, or whatever comes doesn't matter.
abbrev pub Decides : Option Batch → List ℕ → Bool → Outcome → Type 0
Decides command input true o = outcome command input ≡ o
Decides command input false o = (more : List ℕ) → outcome command (input ++ more) ≡ o

-- The words and the query are good, so the input is read.
pub record ReadsInput (command : Option Batch) : Type 0 where
  pub batch : Batch
  pub command_is : command ≡ Some batch
  pub sub : Sub
  pub query : sub_of batch.ms batch.query ≡ Ok sub

-- The input so far decides nothing: more of it is asked.
abbrev pub AsksOn : Option Batch → List ℕ → Type 0
AsksOn command input = ReadsInput command × IsUnrefused input

-- What was taken of the input, and whether its end came.
pub record Taken (command : Option Batch) (taken taken' left left' : Option (List ℕ)) (input : List ℕ) (ended : Bool) : Type 0 where
  pub takes : Appends taken taken' input
  pub leaves : Consumes left left' input
  pub end : ended ≡ true → IsAtEnd left'
  pub asked : (0 < length input) ⊎ (ended ≡ true) → ReadsInput command
  pub most : length input ≤ 2 ^ 40
  pub early : ended ≡ true → length input < 2 ^ 40

-- What is to be printed is decided, an answer at the input's end alone, or why it isn't.
abbrev pub Decided : Option Batch → List ℕ → Bool → Result Printed RunFault → Type 0
Decided command input ended (Ok printed) = Decides command input ended (outcome_of printed) × (printed.status ≡ Done → ended ≡ true)
Decided command input ended (Err Failed) = AsksOn command input × (length input < 2 ^ 40)
Decided command input ended (Err Full) = AsksOn command input × (length input ≡ 2 ^ 40)
Decided command input ended (Err OutOfMemory) = Unit {0}
Decided command input ended (Err Stopped) = Unit {0}

-- The command is worked up to what is to be printed.
pub record Works (command : Option Batch) (taken taken' left left' : Option (List ℕ)) (result : Result Printed RunFault) : Type 0 where
  pub input : List ℕ
  pub ended : Bool
  pub bytes : Taken command taken taken' left left' input ended
  pub decided : Decided command input ended result

-- a front of the bytes
abbrev pub IsFront : List ℕ → List ℕ → Type 0
IsFront front all = (rest : List ℕ) × (all ≡ front ++ rest)

-- What was printed is the outcome's text, and the status is the outcome's.
abbrev pub Prints : Option Batch → List ℕ → Bool → List ℕ → Status → Type 0
Prints command input ended output status = Decides command input ended (record { status = status; text = output })

-- Of each status, what it says of the bytes taken, whether their end came, and the bytes given.
abbrev pub Answers : Option Batch → List ℕ → Bool → List ℕ → Status → Type 0
Answers command input ended output Done = Prints command input ended output Done × (ended ≡ true)
Answers command input ended output Usage = Prints command input ended output Usage
Answers command input ended output Refused = Prints command input ended output Refused
Answers command input ended output ReadFault = AsksOn command input × (length input < 2 ^ 40) × (output ≡ [])
Answers command input ended output SessionFull = AsksOn command input × (length input ≡ 2 ^ 40) × (output ≡ [])
Answers command input ended output WriteFault = (o : Outcome) × Decides command input ended o × IsFront output o.text
Answers command input ended output Memory = output ≡ []
Answers command input ended output Halted = output ≡ []
Answers command input ended output DoorFault = ⊥
Answers command input ended output ClockFault = ⊥

-- A run that prints at its end took these bytes and gave those, where source and sink tell them, and its status is right for them.
pub record RunsPrinted (command : Option Batch) (taken taken' left left' held held' : Option (List ℕ)) (status : Status) : Type 0 where
  pub input : List ℕ
  pub ended : Bool
  pub output : List ℕ
  pub bytes : Taken command taken taken' left left' input ended
  pub gives : Appends held held' output
  pub answers : Answers command input ended output status

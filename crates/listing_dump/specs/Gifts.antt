-- Bytes that are given to a sink, or wait.
use Rattle.std.specs.Prelude.{◌≡◌, ℕ, ◌≤◌, List, ◌++◌, Option, Result, Err}
use Rattle.std.specs.Io.KnownBytes.{Appends}
use Rattle.tsd_io.specs.Causes.{Rose}
use Rattle.listing_dump.specs.declared.dump.DumpFault.{DumpFault}
use Rattle.listing_dump.specs.declared.dump.DumpFault.TheVariants.{Failed}

-- a front of these bytes was given, and these wait
pub record Gives (held held' : Option (List ℕ)) (all waiting : List ℕ) : Type 0 where
  pub given : List ℕ
  pub appends : Appends held held' given
  pub parts : all ≡ given ++ waiting

abbrev pub GivesSome : Option (List ℕ) → Option (List ℕ) → List ℕ → Type 0
GivesSome held held' all = (rest : List ℕ) × Gives held held' all rest

-- the count of faults never falls, and it rose where the sink failed
pub record IsCaused (before now : ℕ) (result : Result (Unit {0}) DumpFault) : Type 0 where
  pub later : before ≤ now
  pub failed : result ≡ Err Failed → Rose before now

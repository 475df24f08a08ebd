-- What the entries of a history showed, as it is kept to tell which steps are allowed.
use Rattle.std.specs.Prelude.{◌≡◌, ℕ, List, Option, None, Some, Contains}
use Rattle.qual_codec.specs.declared.cells.Cell.{Cell as RowCell}
use Rattle.cell_model.specs.declared.row.Row.{Row}
use Rattle.tsd_base.specs.declared.kinds.Kind.{Kind}
use Rattle.cell_model.specs.declared.row.Found.{Found}
use Rattle.cell_model.specs.declared.answers.Bumped.{Bumped}
use Rattle.cell_model.specs.declared.answers.Bumped.TheVariants.{Full, Given as GivenId}
use Rattle.cell_model.specs.declared.answers.Claimed.{Claimed as Reply}
use Rattle.cell_model.specs.declared.answers.Claimed.TheVariants.{Done, Held}
use Rattle.cell_model.specs.Lawful.{given, claimed}
use Rattle.cell_model.specs.Store.{value_among}
use Rattle.cell_model.specs.Seen.{Seen, Saw, KnowsCell}
use Rattle.test_rows.specs.declared.fact.Fact.{Fact}
use Rattle.test_rows.specs.declared.fact.Fact.TheVariants.{Cell, Claim, Given}

-- the fact shows the value at the qualifier of the row
pub record ShowsValue (fact : Fact) (row : Row) (qual value : List ℕ) : Type 0 where
  pub version : Option ℕ
  pub is : fact ≡ Cell row qual value version

-- one of the facts does
pub record IsShown (facts : List Fact) (row : Row) (qual value : List ℕ) : Type 0 where
  pub version : Option ℕ
  pub among : Contains facts (Cell row qual value version)

-- an entry that was seen shows the fact
abbrev pub Holds : Seen → Fact → Type 0
Holds s (Cell row qual value version) = KnowsCell s row qual value
Holds s (Claim row qual value) = (place : ℕ) × (who : ℕ) × Saw s place (claimed who row qual value)
Holds s (Given caller kind id) = (place : ℕ) × Saw s place (given caller kind id)

abbrev pub AllHold : Seen → List Fact → Type 0
AllHold s facts = (f : Fact) → Contains facts f → Holds s f

-- entries that were seen show each of these cells of the row
abbrev pub ShowsAll : Seen → Row → List RowCell → Type 0
ShowsAll s row cells = (qual value : List ℕ) → value_among cells qual ≡ Some value → KnowsCell s row qual value

-- entries that were seen show what a claim was answered: the cell that holds, or that it was claimed and holds now
abbrev pub ShowsClaim : Seen → Row → List ℕ → List ℕ → Reply → Type 0
ShowsClaim s row qual value Done = KnowsCell s row qual value × ((place : ℕ) × (who : ℕ) × Saw s place (claimed who row qual value))
ShowsClaim s row qual value (Held held) = KnowsCell s row qual held

-- they show each cell of the row that was found, if one was
abbrev pub ShowsFound : Seen → Option Found → Type 0
ShowsFound s None = Unit {0}
ShowsFound s (Some found) = ShowsAll s found.row found.cells

-- they show that the caller was given the id, if it was
abbrev pub ShowsBump : Seen → ℕ → Kind → Bumped → Type 0
ShowsBump s caller kind Full = Unit {0}
ShowsBump s caller kind (GivenId id) = (place : ℕ) × Saw s place (given caller kind id)

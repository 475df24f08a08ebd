-- What facts show of the data points of a row.
use Rattle.std.specs.Prelude.{ℕ, List, Contains}
use Rattle.qual_codec.specs.declared.cells.Dot.{Dot}
use Rattle.qual_codec.specs.CellDots.{IsDots}
use Rattle.qual_codec.specs.Order.{IsBelow}
use Rattle.cell_model.specs.declared.row.Row.{Row}
use Rattle.test_rows.specs.declared.fact.Fact.{Fact}
use Rattle.test_rows.specs.Facts.{ShowsValue, IsShown}

abbrev pub AllWithin : List Dot → List Dot → Type 0
AllWithin low high = (d : Dot) → Contains low d → Contains high d

-- a cell of the row with these data points
pub record ShowsDots (fact : Fact) (row : Row) (dots : List Dot) : Type 0 where
  pub qual : List ℕ
  pub value : List ℕ
  pub shows : ShowsValue fact row qual value
  pub reads : IsDots qual value dots

-- a cell of the row that was shown has the data point
pub record StandsIn (facts : List Fact) (row : Row) (d : Dot) : Type 0 where
  pub qual : List ℕ
  pub value : List ℕ
  pub dots : List Dot
  pub shown : IsShown facts row qual value
  pub reads : IsDots qual value dots
  pub among : Contains dots d

-- the fact shows a cell of the row that is strictly above this qualifier
pub record ShowsAbove (fact : Fact) (row : Row) (qual : List ℕ) : Type 0 where
  pub above : List ℕ
  pub value : List ℕ
  pub shows : ShowsValue fact row above value
  pub below : IsBelow qual above

-- a cell of the row that was shown is strictly above this qualifier
pub record HasAbove (facts : List Fact) (row : Row) (qual : List ℕ) : Type 0 where
  pub above : List ℕ
  pub value : List ℕ
  pub shown : IsShown facts row above value
  pub below : IsBelow qual above

abbrev pub AllBelow : List Fact → Row → List (List ℕ × ℕ) → Type 0
AllBelow facts row which = (d : List ℕ × ℕ) → Contains which d → HasAbove facts row d.0

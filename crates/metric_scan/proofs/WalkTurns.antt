-- A turn goes on from wherever the walk was.
use Rattle.std.proofs.Common.{◌≡◌, List, refl, sym, ap, subst, ◌∙◌}
use Rattle.std.specs.Prelude.{Result}
use Rattle.cell_model.specs.declared.row.Found.{Found}
use Rattle.cell_model.specs.declared.events.Placed.{Placed}
use Rattle.cell_model.specs.declared.answers.RowsFault.{RowsFault}
use Rattle.cell_model.specs.Seen.{Seen}
use Rattle.metric_scan.specs.declared.metric_rows.MetricRows.{MetricRows}
use Rattle.metric_scan.specs.declared.row_turn.RowTurn.{RowTurn}
use Rattle.metric_scan.specs.IdFilters.{passes}
use Rattle.metric_scan.specs.Walks.{Picks, RowRange, Walked, HasWalked, IsUnderWay, picks_of, names_of}
use Rattle.metric_scan.specs.RowTurns.{TurnIs, TurnSays}

-- the rows were gone through so far, of which those are picked
pub record Going (r : RowRange) (picks : Picks) (own : List Placed) (founds : List Found) (rows : MetricRows) (now : Seen) : Type 0 where
  pub picks_are : picks_of rows ≡ picks
  pub walked : Walked r own founds picks rows.scan (names_of rows) now

pub going_from : (r : RowRange) (own : List Placed) (founds : List Found) (rows : MetricRows) (now : Seen) → HasWalked r own founds rows now → Going r (picks_of rows) own founds rows now
going_from r own founds rows now walked = record { picks_are = refl; walked = walked }

module _ (r : RowRange) (picks : Picks) (own : List Placed) (founds : List Found) (rows : MetricRows) (now : Seen) (g : Going r picks own founds rows now) where
  has_walked : HasWalked r own founds rows now
  has_walked = subst (λ (p : Picks). Walked r own founds p rows.scan (names_of rows) now) (sym g.picks_are) g.walked

  pub under_way : IsUnderWay rows now
  under_way = (r, own, founds, has_walked)

  pub turn_is : (result : Result RowTurn RowsFault) (after : MetricRows) (new : Seen) → TurnSays rows now result after new → TurnIs r own founds result picks after.scan (names_of after) new
  turn_is result after new says = subst (λ (p : Picks). TurnIs r own founds result p after.scan (names_of after) new) g.picks_are (says.is r own founds has_walked)

  pub picks_still : (result : Result RowTurn RowsFault) (after : MetricRows) (new : Seen) → TurnSays rows now result after new → picks_of after ≡ picks
  picks_still result after new says = ap passes says.filters_are ∙ g.picks_are

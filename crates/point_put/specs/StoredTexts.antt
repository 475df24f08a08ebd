-- Where the point of a text was stored.
use Rattle.std.specs.Prelude.{Result, Ok, Err}
use Rattle.cell_model.specs.declared.answers.Stored.{Stored}
use Rattle.cell_model.specs.Seen.{Seen}
use Rattle.uid_table.specs.declared.placed_point.PlacedPoint.{PlacedPoint}
use Rattle.uid_table.specs.KnownSeries.{IsShownSeries}
use Rattle.point_put.specs.declared.fault.PutFault.{PutFault}
use Rattle.point_put.specs.declared.stored_text.StoredText.{StoredText}
use Rattle.point_put.specs.declared.stored_text.StoredText.TheVariants.{Known, New}

-- the row where a point stands, and its hour
abbrev pub place_of : PlacedPoint → Stored
place_of placed = record { row = placed.row; base = placed.base }

-- the row of an answer, and its hour
abbrev pub stored_at : StoredText → Stored
stored_at (Known series) = place_of series.value.placed
stored_at (New stored) = stored

-- the series that the answer holds, if any, may be kept
abbrev pub MayBeKept : Seen → StoredText → Type 0
MayBeKept s (Known series) = IsShownSeries s series.value
MayBeKept s (New stored) = Unit {0}

-- the answer of a put, by the place of its point
abbrev pub put_answer : Result PlacedPoint PutFault → Result Stored PutFault
put_answer (Ok placed) = Ok (place_of placed)
put_answer (Err fault) = Err fault

-- the answer of a put at this place
abbrev pub answer_at : Result (Unit {0}) PutFault → Stored → Result Stored PutFault
answer_at (Ok done) stored = Ok stored
answer_at (Err fault) stored = Err fault

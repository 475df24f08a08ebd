-- The points that the lines of a batch are. Its ids have three bytes.
use Rattle.std.specs.Prelude.{ℕ, List, Result}
use Rattle.row_key.specs.Made.{three}
use Rattle.tsd_base.specs.Points.{DataPoint}
use Rattle.line_stream.specs.Lines.{Line}
use Rattle.point_lines.specs.LinePoints as lines
use Rattle.point_lines.specs.NameIds.{Names}
pub use Rattle.point_lines.specs.LinePoints.{Judged, judged, judged_point, judged_text, with_point, with_points}

-- a line behind which come others, where these names have ids before it
abbrev pub with_line : Judged → ℕ → Names → (Names → Result (List DataPoint) (ℕ × List ℕ)) → Result (List DataPoint) (ℕ × List ℕ)
with_line judged number names rest = lines.with_line three judged number names rest

-- the points of lines that are numbered from here, where these names have ids before them; or the number and text of the first line
-- that is refused
abbrev pub points_from : ℕ → Names → List Line → Result (List DataPoint) (ℕ × List ℕ)
points_from number names all = lines.points_from three number names all

-- the points of an input, whose lines count from 1
abbrev pub points_of : List ℕ → Result (List DataPoint) (ℕ × List ℕ)
points_of input = lines.points_of three input

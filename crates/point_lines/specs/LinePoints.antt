-- The points that lines are, where ids have these widths.
use Rattle.std.specs.Prelude.{ℕ, ◌+◌, List, [], ◌∷◌, ◌++◌, codes, Result, Ok, Err, if◌then◌else◌}
use Rattle.tsd_base.specs.declared.points.PointFault.{PointFault}
use Rattle.tsd_base.specs.Faults.{point_fault_text}
use Rattle.tsd_base.specs.Points.{DataPoint, point_of}
use Rattle.tsd_base.specs.declared.kinds.Kind.{Kind}
use Rattle.cell_model.specs.KindWidths.{Widths}
use Rattle.cell_model.specs.Layout.{names_of}
use Rattle.line_stream.specs.Lines.{Line, is_blank, is_too_long, lines_of, text_of}
use Rattle.point_lines.specs.NameIds.{Names, no_names, noted_all, exhausted_text}

-- what a line is: nothing, a point, or refused with a text
pub data Judged : Type 0 where
  Blank : Judged
  Taken : DataPoint → Judged
  Refused : List ℕ → Judged

abbrev pub judged_point : Result DataPoint PointFault → Judged
judged_point (Ok point) = Taken point
judged_point (Err fault) = Refused (point_fault_text fault)

abbrev pub judged_text : List ℕ → Judged
judged_text text = if is_blank text then Blank else judged_point (point_of text)

abbrev pub judged : Line → Judged
judged line = if is_too_long line.bytes then Refused (codes "line too long") else judged_text (text_of line)

-- points that come before what was read
abbrev pub with_points : List DataPoint → Result (List DataPoint) (ℕ × List ℕ) → Result (List DataPoint) (ℕ × List ℕ)
with_points points (Ok more) = Ok (points ++ more)
with_points points (Err refusal) = Err refusal

-- a point whose names have their ids, and what comes behind it; or the kind of a name for which there is none
abbrev pub with_point : DataPoint → ℕ → Result Names Kind → (Names → Result (List DataPoint) (ℕ × List ℕ)) → Result (List DataPoint) (ℕ × List ℕ)
with_point point number (Ok names) rest = with_points (point ∷ []) (rest names)
with_point point number (Err kind) rest = Err (number, exhausted_text kind)

-- a line behind which come others, where these names have ids before it
abbrev pub with_line : Widths → Judged → ℕ → Names → (Names → Result (List DataPoint) (ℕ × List ℕ)) → Result (List DataPoint) (ℕ × List ℕ)
with_line w Blank number names rest = rest names
with_line w (Taken point) number names rest = with_point point number (noted_all w names (names_of point)) rest
with_line w (Refused text) number names rest = Err (number, text)

-- the points of lines that are numbered from here, where these names have ids before them; or the number and text of the first line
-- that is refused
abbrev pub points_from : Widths → ℕ → Names → List Line → Result (List DataPoint) (ℕ × List ℕ)
points_from w number names [] = Ok []
points_from w number names (line ∷ lines) = with_line w (judged line) number names (λ more. points_from w (number + 1) more lines)

-- the points of an input, whose lines count from 1
abbrev pub points_of : Widths → List ℕ → Result (List DataPoint) (ℕ × List ℕ)
points_of w input = points_from w 1 no_names (lines_of input)

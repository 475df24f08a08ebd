-- The line of a point that is to be kept.
use Rattle.std.specs.Prelude.{◌≡◌, ℕ, true, false, List, [], Option, None, Some}
use Rattle.std.specs.Global.{Vec}
use Rattle.tsd_base.specs.Points.{DataPoint}
use Rattle.tsd_hooks.specs.FedPoints.{is_under}
use Rattle.tsd_hooks.specs.PointText.{point_text}

-- the bytes of a line, if there is one
abbrev pub line_text : Option (Vec ℕ) → List ℕ
line_text None = []
line_text (Some line) = line.items

-- and how many lines that is
abbrev pub line_count : Option (Vec ℕ) → ℕ
line_count None = 0
line_count (Some line) = 1

-- the line of a point whose metric begins with the prefix, and none of another
abbrev pub IsLineUnder : List ℕ → DataPoint → Option (Vec ℕ) → Type 0
IsLineUnder prefix point None = is_under prefix point ≡ false
IsLineUnder prefix point (Some line) = (is_under prefix point ≡ true) × (line.items ≡ point_text point)

-- Elements as lines.
use Rattle.std.specs.Prelude.{◌≡◌, ℕ, List, [], ◌∷◌, Ok}
use Rattle.json.specs.Token.{Token}
use Rattle.serde_json.specs.Data.{Data}
use Rattle.tsd_base.specs.Points.{DataPoint, point_of}
use Rattle.json_points.specs.Elements.{element_of}
use Rattle.put_bodies.specs.BodyTapes.{GoesOnWith}
use Rattle.put_bodies.specs.declared.element_line.LineRead.{LineRead}
use Rattle.put_bodies.specs.declared.element_line.LineRead.TheVariants.{Line, Other, End}

-- where the line reads as a point, the element is that point
abbrev pub IsLineOf : List ℕ → Data → Type 0
IsLineOf line d = (point : DataPoint) → point_of line ≡ Ok point → element_of d ≡ Ok point

-- the line is of the first of these elements, or it has none, and the tokens go on with the others; or there is none
abbrev pub IsNext : List Data → LineRead → List ℕ → List Token → Type 0
IsNext elements Line line after = (d : Data) × (rest : List Data) × (elements ≡ d ∷ rest) × IsLineOf line d × GoesOnWith after rest
IsNext elements Other line after = (d : Data) × (rest : List Data) × (elements ≡ d ∷ rest) × GoesOnWith after rest
IsNext elements End line after = elements ≡ []

-- The cells of a store that began empty, into which one caller alone imported points.
use Rattle.std.specs.Prelude.{◌≡◌, ◌⊎◌, ◌↔◌, ℕ, ◌≤◌, List, ◌∷◌, ◌++◌, length, Contains, Option, None, Some, Ok}
use Rattle.std.specs.List.{flat_map}
use Rattle.std.specs.Int.{w64, to_be_bytes}
use Rattle.tsd_base.specs.Points.{DataPoint}
use Rattle.tsd_base.specs.declared.kinds.Kind.{Kind}
use Rattle.cell_model.specs.declared.row.Row.{Row}
use Rattle.cell_model.specs.IdRows.{id_row, name_row}
use Rattle.cell_model.specs.KindWidths.{Widths, kind_bytes}
use Rattle.cell_model.specs.Layout.{IsLayout, names_of}
use Rattle.cell_model.specs.Machine.{counter_row, kind_qual}
use Rattle.cell_model.specs.Readings.{point_row}
use Rattle.cell_model.specs.Store.{Store, value_at}
use Rattle.point_lines.specs.NameIds.{Names, id_in, list_of, no_names, noted_all}

-- a number, or 0 where there is none
abbrev pub number_or_0 : Option ℕ → ℕ
number_or_0 (Some n) = n
number_or_0 None = 0

-- the id of a name: its place, from 1, among the names of its kind in the order in which they first come
abbrev pub place_id : Names → Kind → List ℕ → ℕ
place_id names kind name = number_or_0 (id_in (list_of names kind) name)

-- what stands in the tables of ids and names: the counter of a kind that has a name, the id of a name, and the name of an id
pub data IsIdCell (w : Widths) (names : Names) : Row → List ℕ → List ℕ → Type 0 where
  counter : (kind : Kind) → 1 ≤ length (list_of names kind) → IsIdCell w names counter_row (kind_qual kind) (to_be_bytes w64 (length (list_of names kind)))
  forward : (kind : Kind) (name : List ℕ) (id : ℕ) → id_in (list_of names kind) name ≡ Some id → IsIdCell w names (name_row name) (kind_qual kind) (kind_bytes w kind id)
  reverse : (kind : Kind) (name : List ℕ) (id : ℕ) → id_in (list_of names kind) name ≡ Some id → IsIdCell w names (id_row w kind id) (kind_qual kind) name

-- The value is that of the last point that is laid out in this row under this qualifier. Two values of one time with different lengths have two qualifiers.
pub record IsLastAt (w : Widths) (names : Names) (points : List DataPoint) (row qual value : List ℕ) : Type 0 where
  pub before : List DataPoint
  pub point : DataPoint
  pub later : List DataPoint
  pub parts : points ≡ before ++ point ∷ later
  pub layout : IsLayout w (place_id names) point row qual value
  pub last : (q : DataPoint) (other : List ℕ) → Contains later q → IsLayout w (place_id names) q row qual other → ⊥

-- what stands in the table of points
pub data IsPointCell (w : Widths) (names : Names) (points : List DataPoint) : Row → List ℕ → List ℕ → Type 0 where
  laid_out : (row qual value : List ℕ) → IsLastAt w names points row qual value → IsPointCell w names points (point_row row) qual value

-- the store has ids of these widths, and exactly these cells
pub record IsFilled (w : Widths) (points : List DataPoint) (s : Store) : Type 0 where
  pub names : Names
  pub noted : noted_all w no_names (flat_map names_of points) ≡ Ok names
  pub widths : s.widths ≡ w
  pub cells : (row : Row) (qual value : List ℕ) → value_at s row qual ≡ Some value ↔ (IsIdCell w names row qual value ⊎ IsPointCell w names points row qual value)

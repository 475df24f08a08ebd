-- The points of a caller that are handed on.
use Rattle.std.specs.Prelude.{◌≡◌, ℕ, false, List, [], ◌∷◌, filter, length}
use Rattle.std.specs.List.{flat_map}
use Rattle.tsd_base.specs.Points.{DataPoint}
use Rattle.tsd_hooks.specs.FedPoints.{is_under}
use Rattle.tsd_hooks.specs.PointText.{point_text}
use Rattle.row_key.specs.Made.{three}
use Rattle.cell_model.specs.declared.events.Step.{Step}
use Rattle.cell_model.specs.declared.events.Step.TheVariants.{PutPoint, AppendPoint}
use Rattle.cell_model.specs.declared.events.Placed.{Placed}
use Rattle.cell_model.specs.Store.{no_cells}
use Rattle.cell_model.specs.History.{History}
use Rattle.cell_model.specs.Seen.{Seen}
use Rattle.cell_model.specs.Deeds.{MadeSo, deeds}

-- the point that a step puts or appends
abbrev pub points_in : Step → List DataPoint
points_in (PutPoint point row qual value) = point ∷ []
points_in (AppendPoint point row piece) = point ∷ []
points_in _ = []

-- and those of them whose metric begins with the prefix
abbrev pub fed_by : List ℕ → Step → List DataPoint
fed_by prefix step = filter (is_under prefix) (points_in step)

-- the points of entries whose metric begins with the prefix, in order
abbrev pub fed_points : List ℕ → List Placed → List DataPoint
fed_points prefix list = flat_map (λ (d : Placed). fed_by prefix d.entry.step) list

-- the points that this caller put or appended between two lengths of a history whose metric begins with the prefix, in order of place
abbrev pub fed : History → ℕ → ℕ → ℕ → List ℕ → List DataPoint
fed h caller from to prefix = fed_points prefix (deeds h caller from to)

-- the lines of points
abbrev pub lines_of : List DataPoint → List ℕ
lines_of points = flat_map point_text points

-- the text is the lines of these points, and this is their number
pub record AreLines (points : List DataPoint) (text : List ℕ) (count : ℕ) : Type 0 where
  pub text_is : text ≡ lines_of points
  pub count_is : count ≡ length points

-- what is kept is the lines of those that were made since
abbrev pub FeedsSince : List ℕ → Seen → Seen → List ℕ → ℕ → Type 0
FeedsSince prefix start seen text count = MadeSo start (λ list. AreLines (fed_points prefix list) text count) seen

-- nothing is seen yet
abbrev pub nothing_seen : Seen
nothing_seen = record { base = no_cells three; caller = 0; absorbed = []; length = 0; entries = []; alone = false }

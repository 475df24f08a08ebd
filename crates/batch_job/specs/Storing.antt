-- What one caller that steps alone did in a store that began empty.
use Rattle.std.specs.Prelude.{◌≡◌, ◌↔◌, ℕ, List, Contains, Option, None, Some, Ok, Err}
use Rattle.std.specs.List.{AllByRecursion, flat_map}
use Rattle.row_key.specs.Made.{three}
use Rattle.tsd_base.specs.declared.kinds.Kind.{Kind}
use Rattle.tsd_base.specs.Points.{DataPoint}
use Rattle.tsd_base.specs.LastPoints.{last_points}
use Rattle.cell_model.specs.declared.events.Entry.{Entry}
use Rattle.cell_model.specs.History.{History, Had}
use Rattle.cell_model.specs.Layout.{IsPoint, names_of}
use Rattle.cell_model.specs.declared.events.Step.{Step}
use Rattle.cell_model.specs.declared.events.Step.TheVariants.{PutPoint, AppendPoint, PutMerged, DropCells}
use Rattle.cell_model.specs.Seen.{Seen}
use Rattle.point_lines.specs.LoneHistories.{IsLone}
pub use Rattle.point_lines.specs.LoneHistories.{HasIds, Holds, IsNumbered}
use Rattle.batch_job.specs.NotedIds.{Names, no_names, noted_all}

-- the store began empty, with ids of three bytes, and nobody else steps
abbrev pub IsAlone : Seen → Type 0
IsAlone s = IsLone three s

-- the step puts this point
abbrev pub Puts : Step → DataPoint → Type 0
Puts (PutPoint point row qual value) p = point ≡ p
Puts _ p = ⊥

-- the step changes cells of points and puts none: it appends, merges or drops
abbrev pub IsOtherWrite : Step → Type 0
IsOtherWrite (AppendPoint point row piece) = Unit {0}
IsOtherWrite (PutMerged row qual value) = Unit {0}
IsOtherWrite (DropCells row which) = Unit {0}
IsOtherWrite _ = ⊥

-- no entry of the history appends a point, or merges or drops cells
abbrev pub HasOnlyPuts : History → Type 0
HasOnlyPuts h = (e : Entry) → Had h e → IsOtherWrite e.step → ⊥

-- an entry of the history puts this point
abbrev pub WasPut : History → DataPoint → Type 0
WasPut h p = (e : Entry) × Had h e × Puts e.step p

-- these names have their ids, and no point was put or appended, nor cells merged or dropped
pub record IsNaming (names : Names) (s : Seen) : Type 0 where
  pub by : IsAlone s
  pub numbered : Holds s (IsNumbered names)
  pub unput : Holds s (λ h. (p : DataPoint) → WasPut h p → ⊥)
  pub only_puts : Holds s HasOnlyPuts

-- names got their ids, from the left; or there is none left for the first one of this kind that had none
abbrev pub Notes : Seen → List (Kind × List ℕ) → Option Kind → Seen → Type 0
Notes old ns None new = (names : Names) → IsNaming names old → (more : Names) × (noted_all names ns ≡ Ok more) × IsNaming more new
Notes old ns (Some kind) new = (names : Names) → IsNaming names old → noted_all names ns ≡ Err kind

-- the names of the points have their ids, exactly the last points were put, and nothing was appended, merged or dropped
pub record IsStored (points : List DataPoint) (s : Seen) : Type 0 where
  pub are_points : AllByRecursion IsPoint points
  pub names : Names
  pub noted : noted_all no_names (flat_map names_of points) ≡ Ok names
  pub by : IsAlone s
  pub ids : Holds s (HasIds names)
  pub puts : Holds s (λ h. (p : DataPoint) → WasPut h p ↔ Contains (last_points points) p)
  pub only_puts : Holds s HasOnlyPuts

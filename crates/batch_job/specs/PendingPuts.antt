-- Putting the points of series.
use Rattle.std.specs.Prelude.{◌≡◌, ◌↔◌, ◌⊎◌, ℕ, ℤ, Bool, List, map, Contains, Some}
use Rattle.std.specs.List.{AllByRecursion}
use Rattle.tsd_base.specs.Moments.{IsTime}
use Rattle.tsd_base.specs.TagList.{Pair}
use Rattle.tsd_base.specs.declared.kinds.Kind.{Kind}
use Rattle.cell_model.specs.History.{History, first}
use Rattle.cell_model.specs.IdRows.{id_of, AllResolved}
use Rattle.tsd_base.specs.Points.{DataPoint}
use Rattle.cell_model.specs.Seen.{Seen, InEach, Fits}
use Rattle.batch_job.specs.NotedIds.{names_in}
use Rattle.batch_job.specs.SeriesValues.{Series, series_of_point}
use Rattle.batch_job.specs.LastValues.{last_at}
use Rattle.batch_job.specs.Storing.{Holds, IsAlone, HasOnlyPuts, WasPut}

-- these names have ids
pub record AreResolved (s : Seen) (names : List (Kind × List ℕ)) : Type 0 where
  pub by : IsAlone s
  pub resolved : Holds s (λ h. AllResolved h names)

-- values of a series in one form as points
abbrev pub points_in : List ℕ → List Pair → Bool → List (ℕ × ℤ) → List DataPoint
points_in metric tags fine dots = map (λ d. record { metric = metric; tags = tags; time = d.0; fine = fine; value = d.1 }) dots

-- from one sight to a later one, the points of which P holds were put, no name got or lost an id, and nothing was appended, merged or dropped
pub record AddsSome (old : Seen) (P : DataPoint → Type 0) (new : Seen) : Type 0 where
  pub by : IsAlone new
  pub fits : (h : History) → Fits new h → Fits old h
  pub ids : InEach new (λ h. (kind : Kind) (name : List ℕ) → id_of (first new.length h) kind name ≡ id_of (first old.length h) kind name)
  pub puts : InEach new (λ h. (p : DataPoint) → WasPut (first new.length h) p ↔ (WasPut (first old.length h) p ⊎ P p))
  pub only_puts : InEach new (λ h. HasOnlyPuts (first old.length h) → HasOnlyPuts (first new.length h))

abbrev pub Adds : Seen → List DataPoint → Seen → Type 0
Adds old points new = AddsSome old (Contains points) new

-- a series of these has this value as its last one at this time
pub record IsLast (all : List (Series × List (ℕ × ℤ))) (p : DataPoint) : Type 0 where
  pub entry : Series × List (ℕ × ℤ)
  pub among : Contains all entry
  pub series_is : entry.0 ≡ series_of_point p
  pub last : last_at entry.1 p.time ≡ Some p.value

abbrev pub PutsAll : Seen → List (Series × List (ℕ × ℤ)) → Seen → Type 0
PutsAll old all new = AddsSome old (IsLast all) new

-- times of points in one form
abbrev pub AreTimes : Bool → List (ℕ × ℤ) → Type 0
AreTimes fine values = AllByRecursion (λ d. IsTime d.0 fine) values

-- what may be put: the names of a series have ids, and its times are those of points
pub record MayPut (s : Seen) (e : Series × List (ℕ × ℤ)) : Type 0 where
  pub resolved : AreResolved s (names_in e.0.0.0 e.0.0.1)
  pub times : AreTimes e.0.1 e.1

-- What a put is answered, by the entries that its caller makes for it.
use Rattle.std.specs.Prelude.{◌≡◌, ℕ, ◌-◌, Bool, List, [], ◌∷◌, ◌++◌, Some, Result, Ok, Err}
use Rattle.tsd_base.specs.Points.{DataPoint}
use Rattle.cell_model.specs.declared.answers.Stored.{Stored}
use Rattle.cell_model.specs.declared.row.Row.{Row}
use Rattle.cell_model.specs.declared.events.Reply.TheVariants.{Written}
use Rattle.cell_model.specs.declared.events.Placed.{Placed}
use Rattle.cell_model.specs.Layout.{names_of, base_time}
use Rattle.cell_model.specs.Lawful.{PointBasis}
use Rattle.cell_model.specs.History.{History, first, store_after}
use Rattle.cell_model.specs.IdRows.{id_of, AllResolved}
use Rattle.cell_model.specs.Seen.{Seen, InEach}
use Rattle.cell_model.specs.Deeds.{Made}
use Rattle.cell_model.specs.Readings.{store_step}
use Rattle.uid_table.specs.IdSteps.{Did}
use Rattle.point_put.specs.declared.fault.PutFault.{PutFault}
use Rattle.point_put.specs.declared.fault.PutFault.TheVariants.{Unknown, Filtered, Exhausted, OutOfMemory, Stopped}
use Rattle.point_put.specs.Admissions.{Admission}
use Rattle.point_put.specs.Entries.{InTurn, EndsAt, WasUnknown, WasFiltered, WasExhausted}

-- the entry puts the point in this row, or with appends it appends it there, in the layout with the ids that its names have after the history
pub record DidStore (appends : Bool) (h : History) (point : DataPoint) (row : Row) (d : Placed) : Type 0 where
  pub qual : List ℕ
  pub value : List ℕ
  pub did : Did d (store_step appends point row qual value) Written
  pub layout : PointBasis (store_after h).widths (λ kind name id. id_of h kind name ≡ Some id) point row qual value

-- the entries for the names, and one more, before which all of them are resolved, and which puts or appends the point
pub record WasStored (c : Admission) (point : DataPoint) (h : History) (list : List Placed) (stored : Stored) : Type 0 where
  pub names : List Placed
  pub put : Placed
  pub list_is : list ≡ names ++ put ∷ []
  pub entries : InTurn c h (names_of point) names
  pub resolved : AllResolved (first (put.place - 1) h) (names_of point)
  pub did : DidStore c.config.appends h point stored.row put
  pub base : stored.base ≡ base_time point.time

-- what the last step of a put makes
abbrev pub StoreMade : Bool → DataPoint → Seen → Result Stored PutFault → Seen → Type 0
StoreMade appends point old (Ok stored) new =
    (d : Placed) × Made old (d ∷ []) new × InEach new (λ h. DidStore appends (first new.length h) point stored.row d) × (stored.base ≡ base_time point.time)
StoreMade appends point old (Err (Unknown kind name)) new = ⊥
StoreMade appends point old (Err (Filtered kind name)) new = ⊥
StoreMade appends point old (Err (Exhausted kind)) new = ⊥
StoreMade appends point old (Err OutOfMemory) new = Made old [] new
StoreMade appends point old (Err Stopped) new = Made old [] new

-- A point was asked, by these entries of its caller and the history as long as the caller has seen it. Accepted, they have one put, or with appends
-- one append, of the point; refused, they have neither, and end with those for the name that is told; without memory or stopped, they have neither.
-- In each case a name is resolved before the next one is asked.
abbrev pub PointAsked : Admission → DataPoint → History → List Placed → Result Stored PutFault → Type 0
PointAsked c point h list (Ok stored) = WasStored c point h list stored
PointAsked c point h list (Err (Unknown kind name)) = EndsAt c h (names_of point) kind name list × WasUnknown c kind name list
PointAsked c point h list (Err (Filtered kind name)) = EndsAt c h (names_of point) kind name list × WasFiltered c kind name list
PointAsked c point h list (Err (Exhausted kind)) = (name : List ℕ) × EndsAt c h (names_of point) kind name list × WasExhausted c kind name list
PointAsked c point h list (Err OutOfMemory) = InTurn c h (names_of point) list
PointAsked c point h list (Err Stopped) = InTurn c h (names_of point) list

-- the caller made these entries and no other, by which the point was asked, in each history that fits
abbrev pub PutSays : Admission → DataPoint → Seen → Result Stored PutFault → Seen → Type 0
PutSays c point old result new = (list : List Placed) × Made old list new × InEach new (λ h. PointAsked c point (first new.length h) list result)

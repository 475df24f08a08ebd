-- One element of a put.
use Rattle.std.proofs.Common.{◌≡◌, ℕ, List, [], ◌∷◌, refl, sym, subst, None, Some, Result, Ok, Err, IfErr, OnErr}
use Rattle.serde_json.specs.Data.{Data}
use Rattle.tsd_base.specs.Points.{DataPoint}
use Rattle.cell_model.specs.declared.answers.RowsFault.{RowsFault}
use Rattle.cell_model.specs.declared.answers.RowsFault.TheVariants as rows
use Rattle.cell_model.specs.declared.answers.Stored.{Stored}
use Rattle.cell_model.specs.History.{first}
use Rattle.cell_model.specs.Seen.{Seen}
use Rattle.cell_model.specs.Stops.{RoseIf, is_stop}
use Rattle.cell_laws.proofs.CallerLemmas.{nothing_made}
use Rattle.point_put.specs.Admissions.{Admission}
use Rattle.point_put.specs.declared.fault.PutFault.{PutFault}
use Rattle.point_put.specs.declared.fault.PutFault.TheVariants.{Unknown, Filtered, Exhausted, OutOfMemory, Stopped}
use Rattle.point_put.specs.PutFaults as faults
use Rattle.compactor.specs.Queues.{HasRows}
use Rattle.compactor.proofs.CallerLemmas.{rows_none}
use Rattle.queued_put.specs.QueuedPuts.{PutsQueued, FailsQueued}
use Rattle.json_points.specs.declared.fault.ElementFault.{ElementFault}
use Rattle.json_points.specs.declared.fault.ElementFault.TheVariants as elements
use Rattle.json_points.specs.Elements.{element_of, Fails}
use Rattle.json_points.specs.ElementFaults.{element_fault_text}
use Rattle.http_put.specs.PutElements.{Outcome, RefusedPoint, ReadAsked, ReadBegun}
use Rattle.http_put.specs.PutOneElement.{AskedSo, BegunSo, ElementPut, ElementBegun, PointPut, PointBegun, RefusedElement}
use Rattle.http_put.proofs.ElementRuns.{read_nothing}

-- ---- a point

pub point_stored : (c : Admission) (point : DataPoint) (old new : Seen) (before after : List Stored) → PutsQueued c point old before new after → PointPut c point old before None new after
point_stored c point old new before after p = record {
  own = p.says.0;
  stored = p.stored ∷ [];
  made = p.says.1;
  asked = λ h l f. (Ok p.stored, p.says.2 h l f, (refl, refl));
  rows = p.rows;
}

pub point_refused : (c : Admission) (point : DataPoint) (old new : Seen) (before after : List Stored) (fault : PutFault) (outcome : Outcome)
    → FailsQueued c point old fault new → RefusedPoint fault outcome → after ≡ before → PointPut c point old before outcome new after
point_refused c point old new before after (Unknown kind name) outcome says told same = record {
  own = says.0;
  stored = [];
  made = says.1;
  asked = λ h l f. (Err (Unknown kind name), says.2 h l f, (told, refl));
  rows = subst (λ (q : List Stored). HasRows before [] q) (sym same) (rows_none before);
}
point_refused c point old new before after (Filtered kind name) outcome says told same = record {
  own = says.0;
  stored = [];
  made = says.1;
  asked = λ h l f. (Err (Filtered kind name), says.2 h l f, (told, refl));
  rows = subst (λ (q : List Stored). HasRows before [] q) (sym same) (rows_none before);
}
point_refused c point old new before after (Exhausted kind) outcome says told same = record {
  own = says.0;
  stored = [];
  made = says.1;
  asked = λ h l f. (Err (Exhausted kind), says.2 h l f, (told, refl));
  rows = subst (λ (q : List Stored). HasRows before [] q) (sym same) (rows_none before);
}
point_refused c point old new before after OutOfMemory outcome says told same = absurd told
point_refused c point old new before after Stopped outcome says told same = absurd told

pub point_begun : (c : Admission) (point : DataPoint) (old new : Seen) (fault : PutFault) → FailsQueued c point old fault new → PointBegun c point old new
point_begun c point old new (Unknown kind name) says = record { own = says.0; made = says.1; begun = λ h l f. (Err (Unknown kind name), says.2 h l f) }
point_begun c point old new (Filtered kind name) says = record { own = says.0; made = says.1; begun = λ h l f. (Err (Filtered kind name), says.2 h l f) }
point_begun c point old new (Exhausted kind) says = record { own = says.0; made = says.1; begun = λ h l f. (Err (Exhausted kind), says.2 h l f) }
point_begun c point old new OutOfMemory says = record { own = says.1.0; made = says.1.1; begun = λ h l f. (says.0, says.1.2 h l f) }
point_begun c point old new Stopped says = record { own = says.0; made = says.1; begun = λ h l f. (Err Stopped, says.2 h l f) }

-- a stop of the put is one of the element
pub stopped_put : {T : Type 0} (before now : ℕ) (fault : PutFault) (r : Result T RowsFault) → (r ≡ Err rows.Stopped → fault ≡ Stopped) → RoseIf (faults.is_stop fault) before now
    → IfErr r (λ e. RoseIf (is_stop e) before now)
stopped_put before now fault (Ok x) by rose = tt
stopped_put before now fault (Err rows.OutOfMemory) by rose = tt
stopped_put before now fault (Err rows.Stopped) by rose = subst (λ (f : PutFault). RoseIf (faults.is_stop f) before now) (by refl) rose

-- ---- an element

pub element_put : (c : Admission) (d : Data) (point : DataPoint) (old new : Seen) (before after : List Stored) (outcome : Outcome)
    → element_of d ≡ Ok point → PointPut c point old before outcome new after → ElementPut c d old before outcome new after
element_put c d point old new before after outcome is put =
    subst (λ (read : Result DataPoint ElementFault). AskedSo (λ h own stored. ReadAsked c read h own outcome stored) old before new after) (sym is) put

pub element_begun : (c : Admission) (d : Data) (point : DataPoint) (old new : Seen) → element_of d ≡ Ok point → PointBegun c point old new → ElementBegun c d old new
element_begun c d point old new is begun = subst (λ (read : Result DataPoint ElementFault). BegunSo (ReadBegun c read) old new) (sym is) begun

read_so : (d : Data) (fault : ElementFault) (outcome : Outcome) → Fails fault (element_of d) → RefusedElement fault outcome → (element_of d ≡ Err fault) × (outcome ≡ Some (element_fault_text fault))
read_so d elements.NotObject outcome f r = (f, r)
read_so d (elements.BadMember m) outcome f r = (f, r)
read_so d (elements.Point p) outcome f r = (f, r)
read_so d elements.OutOfMemory outcome f r = absurd r

pub element_unread : (c : Admission) (d : Data) (fault : ElementFault) (s : Seen) (before : List Stored) (outcome : Outcome)
    → Fails fault (element_of d) → RefusedElement fault outcome → ElementPut c d s before outcome s before
element_unread c d fault s before outcome f r =
    let x = read_so d fault outcome f r in
    record {
      own = [];
      stored = [];
      made = nothing_made s;
      asked = λ h l fits. subst (λ (read : Result DataPoint ElementFault). ReadAsked c read (first s.length h) [] outcome []) (sym x.0) (refl, x.1, refl);
      rows = rows_none before;
    }

pub unread_begun : (c : Admission) (d : Data) (s : Seen) → ElementBegun c d s s
unread_begun c d s = record { own = []; made = nothing_made s; begun = λ h l f. read_nothing c (element_of d) (first s.length h) }

-- nothing but memory was wanted
pub memory_alone : {T : Type 0} (stops : ℕ) (r : Result T RowsFault) → IfErr r (λ e. e ≡ rows.OutOfMemory) → IfErr r (λ e. RoseIf (is_stop e) stops stops)
memory_alone stops (Ok x) e = tt
memory_alone stops (Err f) e = subst (λ (fault : RowsFault). RoseIf (is_stop fault) stops stops) (sym e) tt

-- what holds at each error
pub at_err : {T E : Type 0} {P : Type 0} (r : Result T E) → P → OnErr r P
at_err (Ok x) p = tt
at_err (Err e) p = p

pub err_as : {T E : Type 0} {P Q : Type 0} (r : Result T E) → (P → Q) → OnErr r P → OnErr r Q
err_as (Ok x) f p = tt
err_as (Err e) f p = f p

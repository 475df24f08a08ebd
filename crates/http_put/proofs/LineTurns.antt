-- The put of an element by its line.
use Rattle.std.proofs.Common.{◌≡◌, ℕ, ◌+◌, ◌<◌, ◌≤◌, List, [], ◌∷◌, length, drop, get_or, refl, sym, ap, subst, ◌∙◌, arith, None, Result, Ok, Err, IfErr, IfOk, OnErr}
use Rattle.std.proofs.lemmas.List.{drop_all, drop_more}
use Rattle.serde_json.specs.Data.{Data}
use Rattle.row_key.specs.declared.tables.Table.TheVariants.{Points}
use Rattle.tsd_base.specs.Points.{DataPoint}
use Rattle.cell_model.specs.declared.answers.RowsFault.{RowsFault}
use Rattle.cell_model.specs.declared.answers.RowsFault.TheVariants as rows
use Rattle.cell_model.specs.declared.answers.Stored.{Stored}
use Rattle.cell_model.specs.Seen.{Seen, IsPossible}
use Rattle.cell_model.specs.Stops.{RoseIf, is_stop}
use Rattle.compactor.proofs.CallerLemmas.{added_row}
use Rattle.point_put.specs.Admissions.{Admission}
use Rattle.point_put.specs.PutPoint.{PutSays}
use Rattle.point_put.specs.StoredTexts.{stored_at}
use Rattle.point_put.specs.TextPuts.{TextSays, is_text_stop}
use Rattle.point_put.specs.declared.fault.PutFault.{PutFault}
use Rattle.point_put.specs.declared.fault.PutFault.TheVariants.{Unknown, Filtered, Exhausted, OutOfMemory, Stopped}
use Rattle.point_put.specs.declared.fault.TextFault.{TextFault}
use Rattle.point_put.specs.declared.fault.TextFault.TheVariants.{Unput, Unread}
use Rattle.point_put.specs.declared.stored_text.StoredText.{StoredText}
use Rattle.queued_put.specs.QueuedPuts.{FailsQueued, WasAdded}
use Rattle.put_bodies.specs.BodyLines.{AreLinesOf}
use Rattle.put_bodies.specs.ElementLines.{IsLineOf}
use Rattle.http_put.specs.PutLines.{IsDenial, IsTold, IsUnput, LineBegun, LinePut, TurnBegun, TurnMade}
use Rattle.http_put.specs.declared.put_lines.Turn.{Turn}
use Rattle.http_put.specs.declared.put_lines.Turn.TheVariants.{Told, Other, End}
use Rattle.http_put.proofs.OneElement.{element_begun, element_put, point_begun, point_refused, point_stored}

-- it stands in a point row
pub in_points : (c : Admission) (line : List ℕ) (old new : Seen) (stored : StoredText) → TextSays c line old (Ok stored) new → IsPossible new → (stored_at stored).row.table ≡ Points
in_points c line old new stored (point, is, (list, made, asked)) possible = (asked possible.history possible.lawful possible.fits).did.layout.in_points

-- it was put, and its row was added
pub line_stored : (c : Admission) (line : List ℕ) (old new : Seen) (before after : List Stored) (stored : StoredText) → TextSays c line old (Ok stored) new → WasAdded before (stored_at stored) after
    → LinePut c line old before (Told None) new after
line_stored c line old new before after stored (point, is, says) (added, made) =
    (point, is, point_stored c point old new before after (record { stored = stored_at stored; says = says; rows = added_row before (stored_at stored) added after made }))

fails : (c : Admission) (point : DataPoint) (old new : Seen) (fault : PutFault) → PutSays c point old (Err fault) new → FailsQueued c point old fault new
fails c point old new (Unknown kind name) says = says
fails c point old new (Filtered kind name) says = says
fails c point old new (Exhausted kind) says = says
fails c point old new OutOfMemory says = (Err OutOfMemory, says)
fails c point old new Stopped says = says

-- its point wasn't put
denied_so : (c : Admission) (line : List ℕ) (old new : Seen) (before after : List Stored) (fault : TextFault) (turn : Turn) → TextSays c line old (Err fault) new → after ≡ before → IsDenial fault turn
    → LinePut c line old before turn new after
denied_so c line old new before after (Unread fault) turn (is, made) same told = subst (λ (t : Turn). LinePut c line old before t new after) (sym told) (made, same)
denied_so c line old new before after (Unput fault) (Told out) (point, is, says) same told = (point, is, point_refused c point old new before after fault _ (fails c point old new fault says) told same)
denied_so c line old new before after (Unput fault) Other says same told = absurd told
denied_so c line old new before after (Unput fault) End says same told = absurd told

pub line_denied : (c : Admission) (line : List ℕ) (old new : Seen) (before after : List Stored) (fault : TextFault) (r : Result Turn RowsFault) → TextSays c line old (Err fault) new → after ≡ before → IfOk r (IsDenial fault)
    → IfOk r (λ turn. LinePut c line old before turn new after)
line_denied c line old new before after fault (Ok turn) says same told = denied_so c line old new before after fault turn says same told
line_denied c line old new before after fault (Err e) says same told = tt

-- whatever came of the put, it was begun
pub stored_begun : (c : Admission) (line : List ℕ) (old new : Seen) (stored : StoredText) → TextSays c line old (Ok stored) new → LineBegun c line old new
stored_begun c line old new stored (point, is, says) = (point, is, record { own = says.0; made = says.1; begun = λ h l f. (Ok (stored_at stored), says.2 h l f) })

pub denied_begun : (c : Admission) (line : List ℕ) (old new : Seen) (fault : TextFault) (r : Result Turn RowsFault) → TextSays c line old (Err fault) new → (OnErr r (IsUnput fault)) → OnErr r (LineBegun c line old new)
denied_begun c line old new (Unread fault) (Err e) says unput = absurd unput
denied_begun c line old new (Unput fault) (Err e) (point, is, says) unput = (point, is, point_begun c point old new fault (fails c point old new fault says))
denied_begun c line old new fault (Ok turn) says unput = tt

-- a stop of the put is one of the element
pub denied_stops : {T : Type 0} (before now : ℕ) (fault : TextFault) (r : Result T RowsFault) → (r ≡ Err rows.Stopped → fault ≡ Unput Stopped) → RoseIf (is_text_stop fault) before now
    → IfErr r (λ e. RoseIf (is_stop e) before now)
denied_stops before now fault (Ok x) by rose = tt
denied_stops before now fault (Err rows.OutOfMemory) by rose = tt
denied_stops before now fault (Err rows.Stopped) by rose = subst (λ (f : TextFault). RoseIf (is_text_stop f) before now) (by refl) rose

-- ---- the element of the line

pub turn_of : (c : Admission) (elements : List Data) (line : List ℕ) (old new : Seen) (before after : List Stored) (turn : Turn) (ahead : List (List ℕ)) (d : Data) (rest : List Data) → elements ≡ d ∷ rest → IsLineOf line d → AreLinesOf ahead rest
    → LinePut c line old before turn new after → TurnMade c elements old before turn ahead new after
turn_of c elements line old new before after (Told out) ahead d rest is of goes (point, reads, put) = (d, rest, is, goes, element_put c d point old new before after _ (of point reads) put)
turn_of c elements line old new before after Other ahead d rest is of goes (made, same) = (d, rest, is, made, same)
turn_of c elements line old new before after End ahead d rest is of goes put = absurd put

pub turn_begun : (c : Admission) (elements : List Data) (line : List ℕ) (old new : Seen) (d : Data) (rest : List Data) → elements ≡ d ∷ rest → IsLineOf line d → LineBegun c line old new → TurnBegun c elements old new
turn_begun c elements line old new d rest is of (point, reads, begun) = (d, rest, is, element_begun c d point old new (of point reads) begun)

-- what rose later rose since before
pub later_rose : {T : Type 0} (before mid now : ℕ) (r : Result T RowsFault) → before ≤ mid → IfErr r (λ e. RoseIf (is_stop e) mid now) → IfErr r (λ e. RoseIf (is_stop e) before now)
later_rose before mid now (Ok x) le rose = tt
later_rose before mid now (Err rows.OutOfMemory) le rose = tt
later_rose before mid now (Err rows.Stopped) le rose = omega (arith, le, rose)

pub if_told : {P : Type 0} {E : Type 0} (r : Result Turn E) → P → IfOk r (λ turn. IsTold turn → P)
if_told (Ok turn) p = λ told. p
if_told (Err e) p = tt

-- ---- the lines ahead

pub record FirstAhead (line : List ℕ) (elements : List Data) (later : List (List ℕ)) : Type 0 where
  pub d : Data
  pub rest : List Data
  pub is : elements ≡ d ∷ rest
  pub of : IsLineOf line d
  pub goes : AreLinesOf later rest

first_of : (line : List ℕ) (later : List (List ℕ)) (elements : List Data) → AreLinesOf (line ∷ later) elements → FirstAhead line elements later
first_of line later [] h = absurd h
first_of line later (d ∷ rest) h = record { d = d; rest = rest; is = refl; of = h.0; goes = h.1 }

pub first_ahead : (lines : List (List ℕ)) (at : ℕ) (line : List ℕ) (elements : List Data) → at < length lines → line ≡ get_or lines at [] → AreLinesOf (drop at lines) elements → FirstAhead line elements (drop (at + 1) lines)
first_ahead lines at line elements within is h =
    first_of line (drop (at + 1) lines) elements (subst (λ (l : List (List ℕ)). AreLinesOf l elements) (drop_more lines at [] within ∙ ap (λ (l : List ℕ). l ∷ drop (at + 1) lines) (sym is)) h)

no_more : (elements : List Data) → AreLinesOf [] elements → elements ≡ []
no_more [] h = refl
no_more (d ∷ rest) h = absurd h

pub none_ahead : (lines : List (List ℕ)) (at : ℕ) (elements : List Data) → length lines ≤ at → AreLinesOf (drop at lines) elements → elements ≡ []
none_ahead lines at elements past h = no_more elements (subst (λ (l : List (List ℕ)). AreLinesOf l elements) (drop_all at lines past) h)

-- The points that a lawful history has put into one row have the same names and the same hour.
use Rattle.std.proofs.Common.{◌≡◌, ℕ, zero, suc, ◌/◌, List, [], ◌∷◌, sym, ap, subst, ◌∙◌, arith}
use Rattle.std.specs.Prelude.{Bool, true, false, nat_eq, Some, slice_get}
use Rattle.tsd_base.specs.declared.kinds.Kind.TheVariants.{Metric}
use Rattle.tsd_base.specs.Points.{DataPoint}
use Rattle.row_hours.specs.declared.hours.TheConstants.{HOUR_MILLIS}
use Rattle.row_key.specs.declared.keys.RowKey.{RowKey}
use Rattle.row_key.proofs.CallerLemmas.{one_key}
use Rattle.list_lemmas.proofs.BoolTests.{not_Some, same_Some}
use Rattle.cell_model.specs.declared.row.Row.{Row}
use Rattle.cell_model.specs.declared.events.Step.TheVariants.{PutPoint}
use Rattle.cell_model.specs.History.{History, store_after}
use Rattle.cell_model.specs.History.History.{Base, Then}
use Rattle.cell_model.specs.IdRows.{name_of}
use Rattle.cell_model.specs.Layout.{base_time}
use Rattle.cell_model.specs.Lawful.{IsLawful, MayStep}
use Rattle.cell_laws.proofs.CallerLemmas.{Begins, PutReads, known_is_allowed, lawful_begins, longer, put_reads, tags_once, trans_begins, whole}
use Rattle.cell_model.specs.Store.{Store}
use Rattle.cell_model.specs.Listed.{store_of}
use Rattle.cell_model.specs.Seen.{Knows}
use Rattle.cell_model.specs.Readings.{store_step}
use Rattle.cell_solo.proofs.Plays.{fits_whole}
use Rattle.cell_solo.specs.Turns.{Turn, entry_of, played, Play, IsPlayed, history_of, sight}
use Rattle.cell_solo.specs.TurnPlaces.{named_row_of}
use Rattle.cell_solo.specs.PackedTurns.{IsOnlyPut}

-- a row is of one series and one hour
named_once : (h : History) (row : Row) (p q : DataPoint) (qual value qual' value' : List ℕ) → PutReads h p row qual value → PutReads h q row qual' value' → named_row_of p row ≡ named_row_of q row
named_once h row p q qual value qual' value' old new =
    let x = old.dot_reads in
    let y = new.dot_reads in
    let k : x.key ≡ y.key = one_key (store_after h).widths x.key y.key x.is_key y.is_key (sym x.row_is ∙ y.row_is) in
    let metric = same_Some p.metric q.metric (sym x.metric_is ∙ ap (λ (z : RowKey). name_of h Metric z.metric) k ∙ y.metric_is) in
    let tags = tags_once (name_of h) x.key.pairs.items y.key.pairs.items p.tags q.tags (ap (λ (z : RowKey). z.pairs.items) k) x.tags_are y.tags_are in
    let bases : base_time p.time ≡ base_time q.time = sym old.base ∙ ap (λ (z : RowKey). z.base) k ∙ new.base in
    let hour : p.time / HOUR_MILLIS ≡ q.time / HOUR_MILLIS = omega (arith, bases) in
    λ i. record { metric = metric i; tags = tags i; hour = hour i; row = row }

-- a turn of a play was allowed when it was made
record WasAllowed (h : History) (turn : Turn) : Type 0 where
  before : History
  begins : Begins before h
  may : MayStep before turn.caller turn.step

begins_played : (h : History) (turns : List Turn) → Begins h (played h turns)
begins_played h [] = whole
begins_played h (t ∷ turns) = trans_begins (longer whole) (begins_played (Then h (entry_of h t)) turns)

turn_allowed : (h : History) (turns : List Turn) (k : ℕ) (turn : Turn) → IsLawful (played h turns) → slice_get turns k ≡ Some turn → WasAllowed (played h turns) turn
turn_allowed h [] k turn l e = absurd (not_Some turn (sym e))
turn_allowed h (t ∷ turns) zero turn l e =
    let lawful = lawful_begins (begins_played (Then h (entry_of h t)) turns) l in
    let same : t ≡ turn = same_Some t turn e in
    record { before = h; begins = begins_played h (t ∷ turns); may = subst (λ (x : Turn). MayStep h x.caller x.step) same lawful.1.may }
turn_allowed h (t ∷ turns) (suc k) turn l e = turn_allowed (Then h (entry_of h t)) turns k turn l e

-- what a put or an append of a point stands on: a put of it may be made
record MayPut (h : History) (caller : ℕ) (point : DataPoint) (row : Row) : Type 0 where
  qual : List ℕ
  value : List ℕ
  may : MayStep h caller (PutPoint point row qual value)

may_put : (h : History) (caller : ℕ) (appends : Bool) (point : DataPoint) (row : Row) (qual value : List ℕ) → MayStep h caller (store_step appends point row qual value) → MayPut h caller point row
may_put h caller false point row qual value may = record { qual = qual; value = value; may = may }
may_put h caller true point row qual value may = record { qual = may.qual; value = may.value; may = may.put }

-- what was put or appended before into the row of a put that is allowed has its names and its hour
pub only_put : (h : History) (turns : List Turn) (caller : ℕ) (point : DataPoint) (row : Row) (qual value : List ℕ) → IsLawful (played h turns) → MayStep (played h turns) caller (PutPoint point row qual value)
    → IsOnlyPut turns (named_row_of point row)
only_put h turns caller point row qual value l may = record {
  each = λ p put same.
      let was = turn_allowed h turns put.at (record { caller = put.caller; step = store_step put.appends put.point p.row put.qual put.value }) l put.stands in
      let basis = may_put was.before put.caller put.appends put.point p.row put.qual put.value was.may in
      let old = put_reads was.before (played h turns) put.point p.row basis.qual basis.value was.begins l basis.may in
      let new = put_reads (played h turns) (played h turns) point row qual value whole l may in
      sym put.named ∙ ap (named_row_of put.point) same ∙ named_once (played h turns) row put.point point basis.qual basis.value qual value (subst (λ (r : Row). PutReads (played h turns) put.point r basis.qual basis.value) same old) new;
}

-- so it is of a put that the caller whose turn it is knows to be allowed
pub only_known : (content : Store) (covers : Row → Bool) (p v : Play) (middle : List Turn) (point : DataPoint) (row : Row) (qual value : List ℕ) → IsPlayed content covers p → p ≡ v → middle ≡ p.turns
    → Knows (sight v) (PutPoint point row qual value) → IsOnlyPut middle (named_row_of point row)
only_known content covers p v middle point row qual value is view_is same known =
    let h = history_of p in
    let knows = subst (λ (w : Play). Knows (sight w) (PutPoint point row qual value)) (sym view_is) known in
    let may = known_is_allowed (sight p) h (PutPoint point row qual value) is.play.lawful (fits_whole h p.caller (nat_eq p.callers 1)) knows in
    subst (λ (ts : List Turn). IsOnlyPut ts (named_row_of point row)) (sym same) (only_put (Base (store_of p.lines)) p.turns p.caller point row qual value is.play.lawful may)

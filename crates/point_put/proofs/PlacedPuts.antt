-- Points that are put where they are placed.
use Rattle.std.proofs.Common.{◌≡◌, ℕ, ◌≤◌, Bool, ℤ, [], ◌∷◌, length, Result, Ok, Err, refl, sym, subst, ◌∙◌, arith}
use Rattle.tsd_base.specs.declared.points.Point.{Point}
use Rattle.tsd_base.specs.Points.{DataPoint, data_point}
use Rattle.tsd_base.specs.Moments.{IsTime}
use Rattle.row_key.specs.declared.widths.Widths.{Widths}
use Rattle.row_key.specs.declared.keys.RowKey.{RowKey}
use Rattle.row_key.specs.Key.{key_bytes}
use Rattle.cell_model.specs.declared.answers.Stored.{Stored}
use Rattle.cell_model.specs.Layout.{base_time, names_of}
use Rattle.cell_model.specs.Readings.{point_row}
use Rattle.cell_model.specs.Seen.{Seen, IsPossible}
use Rattle.cell_laws.proofs.CallerLemmas.{nothing_made}
use Rattle.uid_table.specs.declared.placed_point.PlacedPoint.{PlacedPoint}
use Rattle.uid_table.specs.IdSteps.{MadeSo}
use Rattle.uid_table.specs.PlacedPoints.{IsPlaced, IsRefilled, IsSomeRow, key_at}
use Rattle.uid_table.proofs.CallerLemmas.{IsLater, placed_kept}
use Rattle.point_put.specs.declared.fault.PutFault.{PutFault}
use Rattle.point_put.specs.declared.fault.PutFault.TheVariants as fault
use Rattle.point_put.specs.Admissions.{Admission}
use Rattle.point_put.specs.ShownIds.{AllShown, KeyShown}
use Rattle.point_put.specs.PutPoint.{PutSays, StoreMade}
use Rattle.point_put.specs.StoredTexts.{answer_at, place_of}
use Rattle.point_put.specs.TextPuts.{IsFewFor, point_at}
use Rattle.point_put.proofs.Asking.{none_for, none_in_turn}
use Rattle.point_put.proofs.Outcomes.{put_done}

-- the row of a placed point is one of its hour
pub some_row : (s : Seen) (p : PlacedPoint) → IsPlaced s p → IsSomeRow p.metric_width p.row p.base
some_row s p h = record { widths = s.base.widths; key = h.key; width_is = h.width; row_of = (h.shown.is_key, h.row); base_is = h.base }

-- the key at another time
key_moved : (s : Seen) (p : DataPoint) (key : RowKey) (time : ℕ) (fine : Bool) (value : ℤ) → IsTime time fine → KeyShown s p key → KeyShown s (point_at p time fine value) (key_at key (base_time time))
key_moved s p key time fine value t k = record {
  is_point = record { metric = k.is_point.metric; tags = k.is_point.tags; timed = t };
  is_key = record {
    metric = k.is_key.metric;
    base = let most = t.most in omega (arith, most);
    hour = omega arith;
    some = k.is_key.some;
    most = k.is_key.most;
    ids = k.is_key.ids;
    rising = k.is_key.rising;
  };
  metric = k.metric;
  base = refl;
  pairs = k.pairs;
}

-- a point that was refilled is placed
pub refilled : (s : Seen) (p q : PlacedPoint) (time : ℕ) (fine : Bool) (value : ℤ) → IsTime time fine → IsRefilled p time fine value q → IsPlaced s p → IsPlaced s q
refilled s p q time fine value t r h = record {
  key = key_at h.key q.base;
  shown = subst (λ (x : DataPoint × ℕ). KeyShown s x.0 (key_at h.key x.1)) (λ i. (sym r.point i, sym r.base i)) (key_moved s (data_point p.point) h.key time fine value t h.shown);
  row = r.row s.base.widths h.key h.width (h.shown.is_key, h.row) h.base;
  base = refl;
  width = h.width ∙ sym r.width;
  names = subst (λ (d : DataPoint). AllShown s (names_of d)) (sym r.point) h.names;
  possible = h.possible;
}

-- under another name of the value
pub refilled_as : (p q : PlacedPoint) (time : ℕ) (fine : Bool) (value value' : ℤ) → value' ≡ value → IsRefilled p time fine value' q → IsRefilled p time fine value q
refilled_as p q time fine value value' same r = subst (λ v. IsRefilled p time fine v q) same r

-- a put whose names were all shown takes one step
pub put_shown : (c : Admission) (point : DataPoint) (old new : Seen) (key : RowKey) (r : Result Stored PutFault) → AllShown old (names_of point) → StoreMade c.config.appends point old r new → PutSays c point old r new
put_shown c point old new key r all made = put_done c point old old new key r (record { list = []; made = nothing_made old; entries = none_for old.base.widths c (names_of point); turns = λ h l f. none_in_turn c h (names_of point); answered = all }) made

-- a step of a put loses nothing
pub stored_later : (appends : Bool) (point : DataPoint) (old new : Seen) (r : Result Stored PutFault) → StoreMade appends point old r new → IsLater old new
stored_later appends point old new (Ok stored) (d, made, did, base) = (made.since.extends, made.since.lives)
stored_later appends point old new (Err (fault.Unknown kind name)) s = absurd s
stored_later appends point old new (Err (fault.Filtered kind name)) s = absurd s
stored_later appends point old new (Err (fault.Exhausted kind)) s = absurd s
stored_later appends point old new (Err fault.OutOfMemory) s = (s.since.extends, s.since.lives)
stored_later appends point old new (Err fault.Stopped) s = (s.since.extends, s.since.lives)

-- and makes one entry at most
pub one_made : (appends : Bool) (point : DataPoint) (old new : Seen) (r : Result Stored PutFault) → StoreMade appends point old r new → MadeSo old (λ list. length list ≤ 1) new
one_made appends point old new (Ok stored) (d, made, did, base) = (d ∷ [], made, omega arith)
one_made appends point old new (Err (fault.Unknown kind name)) s = absurd s
one_made appends point old new (Err (fault.Filtered kind name)) s = absurd s
one_made appends point old new (Err (fault.Exhausted kind)) s = absurd s
one_made appends point old new (Err fault.OutOfMemory) s = ([], s, omega arith)
one_made appends point old new (Err fault.Stopped) s = ([], s, omega arith)

pub one_is_few : (point : DataPoint) (old new : Seen) → MadeSo old (λ list. length list ≤ 1) new → MadeSo old (IsFewFor point) new
one_is_few point old new (list, made, one) = (list, made, omega (arith, one))

pub none_made : (s : Seen) → MadeSo s (λ list. length list ≤ 1) s
none_made s = ([], nothing_made s, omega arith)

-- the next point of a series was put
pub next_says : (c : Admission) (appends : Bool) (old mid : Seen) (p q : PlacedPoint) (time : ℕ) (fine : Bool) (value : ℤ) (r : Result (Unit {0}) PutFault) → c.config.appends ≡ appends → IsTime time fine → IsRefilled p time fine value q → IsPlaced old p → StoreMade appends (data_point q.point) old (answer_at r (place_of q)) mid
    → PutSays c (point_at (data_point p.point) time fine value) old (answer_at r (place_of q)) mid
next_says c appends old mid p q time fine value r same t f h made =
    subst (λ d. PutSays c d old (answer_at r (place_of q)) mid) f.point
    (put_shown c (data_point q.point) old mid h.key (answer_at r (place_of q)) (refilled old p q time fine value t f h).names (subst (λ b. StoreMade b (data_point q.point) old (answer_at r (place_of q)) mid) (sym same) made))

pub next_placed : (appends : Bool) (old mid : Seen) (p q : PlacedPoint) (time : ℕ) (fine : Bool) (value : ℤ) (r : Result (Unit {0}) PutFault) → IsTime time fine → IsRefilled p time fine value q → IsPlaced old p → StoreMade appends (data_point q.point) old (answer_at r (place_of q)) mid → IsPlaced mid q
next_placed appends old mid p q time fine value r t f h made = placed_kept old mid q (stored_later appends (data_point q.point) old mid (answer_at r (place_of q)) made) (refilled old p q time fine value t f h)

-- without memory for its row it wasn't
pub not_refilled : (c : Admission) (s : Seen) (p : PlacedPoint) (point : DataPoint) → names_of point ≡ names_of (data_point p.point) → IsPlaced s p → PutSays c point s (Err fault.OutOfMemory) s
not_refilled c s p point same h = put_shown c point s s h.key (Err fault.OutOfMemory) (subst (AllShown s) (sym same) h.names) (nothing_made s)

-- a point in the row of its key
pub placed : (s : Seen) (w : Widths) (point : Point) (key : RowKey) (p : PlacedPoint) → w ≡ s.base.widths → p.point ≡ point → (p.row ≡ point_row (key_bytes w key)) × (key.base ≡ p.base) × (w.metric ≡ p.metric_width) → KeyShown s (data_point point) key → AllShown s (names_of (data_point point)) → IsPossible s → IsPlaced s p
placed s w point key p is same row shown names possible = record {
  key = key;
  shown = subst (λ (q : Point). KeyShown s (data_point q) key) (sym same) shown;
  row = subst (λ (v : Widths). p.row ≡ point_row (key_bytes v key)) is row.0;
  base = row.1;
  width = subst (λ (v : Widths). v.metric ≡ p.metric_width) is row.2;
  names = subst (λ (q : Point). AllShown s (names_of (data_point q))) (sym same) names;
  possible = possible;
}

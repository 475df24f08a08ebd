-- The cell of a point, with the ids that were seen of its names.
use Rattle.std.proofs.Common.{◌≡◌, ℕ, ◌+◌, ◌-◌, Bool, true, false, ◌≤◌, ◌%◌, List, [], ◌∷◌, ◌++◌, length, refl, sym, ap, subst, ◌∙◌, if◌then◌else◌, arith}
use Rattle.std.proofs.lemmas.List.{append-nil}
use Rattle.std.specs.Int.{w16, w32, to_be_bytes}
use Rattle.std.specs.Prelude.{Contains, Some, Result, Ok, Err, IsErrAnd, unwrap_or}
use Rattle.row_hours.specs.declared.hours.TheConstants.{HOUR_MILLIS}
use Rattle.tsd_base.specs.declared.kinds.Kind.{Kind}
use Rattle.tsd_base.specs.declared.kinds.Kind.TheVariants.{Metric, TagKey, TagValue}
use Rattle.tsd_base.specs.Points.{DataPoint}
use Rattle.row_key.specs.declared.keys.RowKey.{RowKey}
use Rattle.row_key.specs.Key.{key_bytes}
use Rattle.qual_codec.specs.declared.cells.Item.{Item}
use Rattle.qual_codec.specs.Items.{IsLength, item_bytes}
use Rattle.qual_codec.specs.Items.IsLength.{one, two, four, eight}
use Rattle.qual_codec.specs.CellDots.{IsDots}
use Rattle.qual_codec.specs.Spelling.{IsShortest, dot_of}
use Rattle.cell_model.specs.declared.answers.RowsFault.{RowsFault}
use Rattle.cell_model.specs.declared.answers.RowsFault.TheVariants as rows
use Rattle.cell_model.specs.declared.answers.Stored.{Stored}
use Rattle.cell_model.specs.declared.row.Row.{Row}
use Rattle.cell_model.specs.declared.events.Step.TheVariants.{PutPoint, AppendPoint}
use Rattle.cell_model.specs.declared.events.Reply.TheVariants.{Written}
use Rattle.cell_model.specs.KindWidths.{Widths, kind_bytes}
use Rattle.cell_model.specs.Store.{Store}
use Rattle.cell_model.specs.Machine.{greatest, kind_qual}
use Rattle.cell_model.specs.History.{first}
use Rattle.cell_model.specs.IdRows.{name_row, id_of}
use Rattle.cell_model.specs.Layout.{HasKey, names_of}
use Rattle.cell_model.specs.Lawful.{PointBasis}
use Rattle.cell_model.specs.Readings.{point_row, store_step}
use Rattle.cell_model.specs.Seen.{Seen, Waited, Stepped, IsPossible, Knows, KnowsCell}
use Rattle.cell_model.specs.Deeds.{Made}
use Rattle.uid_table.specs.Shown.{HasShown}
use Rattle.point_put.specs.declared.fault.PutFault.{PutFault}
use Rattle.point_put.specs.declared.fault.PutFault.TheVariants.{OutOfMemory}
use Rattle.point_put.specs.PutFaults.{put_fault}
use Rattle.point_put.specs.ShownIds.{AllShown, KeyShown}
use Rattle.point_put.specs.PutPoint.{StoreMade}
use Rattle.point_put.specs.StoredTexts.{answer_at}
use Rattle.qual_codec.proofs.CallerLemmas.{coarse, fine_number}
use Rattle.cell_laws.proofs.CallerLemmas.{first_lawful, first_fits, seen_carry, wait_made, step_made, itself}
use Rattle.point_put.proofs.Asking.{passed_on}

-- the ids of names in some history that fits
ids_from : (s : Seen) → IsPossible s → Kind → List ℕ → ℕ
ids_from s p kind name = unwrap_or (id_of p.history kind name) 0

ids_from-is : (s : Seen) (p : IsPossible s) (kind : Kind) (name : List ℕ) (id : ℕ) → HasShown s kind name id → ids_from s p kind name ≡ id
unfolding ids_from
ids_from-is s p kind name id h = ap (λ o. unwrap_or o 0) (h.stands s (itself s) p.history p.lawful p.fits)

has_key : (s : Seen) (p : IsPossible s) (point : DataPoint) (key : RowKey) → KeyShown s point key → HasKey s.base.widths (ids_from s p) point key
has_key s p point key k = record {
  is_key = k.is_key;
  metric = sym (ids_from-is s p Metric point.metric key.metric k.metric);
  base = k.base;
  count = k.pairs.count;
  each_tag = λ t c. let w = k.pairs.each_tag t c in subst (λ (x : ℕ × ℕ). Contains key.pairs.items x) (λ j. ((sym (ids_from-is s p TagKey t.0 w.0.0 w.2.0)) j, (sym (ids_from-is s p TagValue t.1 w.0.1 w.2.1)) j)) w.1;
  each_pair = λ i c. let w = k.pairs.each_pair i c in (w.0, w.1, λ j. ((ids_from-is s p TagKey w.0.0 i.0 w.2.0) j, (ids_from-is s p TagValue w.0.1 i.1 w.2.1) j));
}

-- what a cell that is to be put is made of
pub record Laid (s : Seen) (point : DataPoint) (key : RowKey) (row : Row) (qual value : List ℕ) : Type 0 where
  pub possible : IsPossible s
  pub names : AllShown s (names_of point)
  pub key_is : KeyShown s point key
  pub row_is : row ≡ point_row (key_bytes s.base.widths key)
  pub dot : IsDots qual value (dot_of (point.time % HOUR_MILLIS) point.fine point.value (length value) ∷ [])
  pub shortest : IsShortest point.value value

basis : (Has : Kind → List ℕ → ℕ → Type 0) (s : Seen) (point : DataPoint) (key : RowKey) (row : Row) (qual value : List ℕ) → Laid s point key row qual value → ((kind : Kind) (name : List ℕ) (id : ℕ) → HasShown s kind name id → Has kind name id)
    → PointBasis s.base.widths Has point row qual value
basis Has s point key row qual value l of = record {
  is_point = l.key_is.is_point;
  in_points = ap (λ (r : Row). r.table) l.row_is;
  ids = ids_from s l.possible;
  resolved = λ kind name c. let w = l.names kind name c in subst (Has kind name) (sym (ids_from-is s l.possible kind name w.0 w.1)) (of kind name w.0 w.1);
  layout = record { key = key; has = has_key s l.possible point key l.key_is; row_is = ap (λ (r : Row). r.bytes) l.row_is; dot = l.dot; shortest = l.shortest };
}

-- the put is known to be allowed
pub knows_put : (s : Seen) (point : DataPoint) (key : RowKey) (row : Row) (qual value : List ℕ) → Laid s point key row qual value
    → PointBasis s.base.widths (λ kind name id. KnowsCell s (name_row name) (kind_qual kind) (kind_bytes s.base.widths kind id) × (id ≤ greatest s.base.widths kind)) point row qual value
knows_put s point key row qual value l = basis _ s point key row qual value l (λ kind name id h. (h.known, h.is_id.1))

-- an item has at most four bytes, and a value at most eight
item_length : (i : Item) → length (item_bytes i) ≤ 4
item_length i = at i.fine
  where
    at : (b : Bool) → length (if b then to_be_bytes w32 (fine_number i.offset 0 (i.len - 1)) else to_be_bytes w16 (coarse i.offset (i.len - 1))) ≤ 4
    at true = omega arith
    at false = omega arith

value_length : (n : ℕ) → IsLength n → n ≤ 8
value_length _ one = omega arith
value_length _ two = omega arith
value_length _ four = omega arith
value_length _ eight = omega arith

-- so the piece of a point that may be put has at most twelve
pub few_bytes : (s : Seen) (point : DataPoint) (row : Row) (qual value q v : List ℕ) → q ≡ qual → v ≡ value → Knows s (PutPoint point row qual value) → length q + length v ≤ 12
few_bytes s point row qual value q v same_qual same_value k =
    let i = (dot_of (point.time % HOUR_MILLIS) point.fine point.value (length value)).item in
    let a = ap (λ (l : List ℕ). length l) (same_qual ∙ k.layout.dot.items.qual_is ∙ append-nil (item_bytes i)) in
    let b = ap (λ (l : List ℕ). length l) same_value in
    let most = item_length i in
    let few = value_length (length value) k.layout.shortest.len in
    omega (arith, a, b, most, few)

-- where a put is known to be allowed, so is an append of its piece
pub knows_append : (s : Seen) (point : DataPoint) (row : Row) (qual value piece : List ℕ) → piece ≡ qual ++ value → Knows s (PutPoint point row qual value) → Knows s (AppendPoint point row piece)
knows_append s point row qual value piece is k = record { qual = qual; value = value; piece_is = is; put = k }

-- and what it makes
pub stored : (appends : Bool) (old new : Seen) (point : DataPoint) (key : RowKey) (row : Row) (qual value : List ℕ) → Laid old point key row qual value → Stepped old (store_step appends point row qual value) Written new → IsPossible new
    → StoreMade appends point old (Ok (record { row = row; base = key.base })) new
stored appends old new point key row qual value l step p =
    let made = step_made old new _ _ step p in (
      _,
      made,
      (λ h lawful fits. record {
        qual = qual;
        value = value;
        did = (refl, refl);
        layout = seen_carry (first_fits new h fits) (λ (w : Widths). PointBasis w (λ kind name id. id_of (first new.length h) kind name ≡ Some id) point row qual value)
            (subst (λ (b : Store). PointBasis b.widths (λ kind name id. id_of (first new.length h) kind name ≡ Some id) point row qual value) (sym step.base)
            (basis _ old point key row qual value l (λ kind name id shown. shown.stands new made.since.extends (first new.length h) (first_lawful h new.length lawful) (first_fits new h fits))));
      }),
      l.key_is.base,
    )

pub waited_made : (appends : Bool) (old new : Seen) (point : DataPoint) (e : RowsFault) → Waited old new → (IsPossible old → IsPossible new) → StoreMade appends point old (Err (put_fault e)) new
waited_made appends old new point rows.OutOfMemory w lives = wait_made old new w lives
waited_made appends old new point rows.Stopped w lives = wait_made old new w lives

pub not_stored : (appends : Bool) (old new : Seen) (point : DataPoint) (e : RowsFault) (r : Result Stored PutFault) → IsErrAnd r (λ y. y ≡ put_fault e) → Waited old new → (IsPossible old → IsPossible new) → StoreMade appends point old r new
not_stored appends old new point e r is w lives = passed_on (λ x. StoreMade appends point old x new) (put_fault e) r is (waited_made appends old new point e w lives)

pub not_stored_at : (appends : Bool) (old new : Seen) (point : DataPoint) (e : RowsFault) (r : Result (Unit {0}) PutFault) (stored : Stored) → IsErrAnd r (λ y. y ≡ put_fault e) → Waited old new → (IsPossible old → IsPossible new) → StoreMade appends point old (answer_at r stored) new
not_stored_at appends old new point e r stored is w lives = passed_on (λ x. StoreMade appends point old (answer_at x stored) new) (put_fault e) r is (waited_made appends old new point e w lives)

pub no_memory : (appends : Bool) (s : Seen) (point : DataPoint) (r : Result Stored PutFault) → IsErrAnd r (λ y. y ≡ OutOfMemory) → Made s [] s → StoreMade appends point s r s
no_memory appends s point r is m = passed_on (λ x. StoreMade appends point s x s) OutOfMemory r is m

-- the parts of such a cell, under the names that the code has for them
pub laid : (s : Seen) (point : DataPoint) (key : RowKey) (row : Row) (qual value list : List ℕ) → list ≡ value → KeyShown s point key → AllShown s (names_of point) → IsPossible s → row ≡ point_row (key_bytes s.base.widths key)
    → IsDots qual list (dot_of (point.time % HOUR_MILLIS) point.fine point.value (length list) ∷ []) → IsShortest point.value value → Laid s point key row qual value
laid s point key row qual value list same k names p row_is dot shortest = record {
  possible = p;
  names = names;
  key_is = k;
  row_is = row_is;
  dot = subst (λ (v : List ℕ). IsDots qual v (dot_of (point.time % HOUR_MILLIS) point.fine point.value (length v) ∷ [])) same dot;
  shortest = shortest;
}

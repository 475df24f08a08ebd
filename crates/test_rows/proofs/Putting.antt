-- A put of a point of one tag is allowed by the ids that facts show of its names.
use Rattle.std.proofs.Common.{◌≡◌, ◌⊎◌, inl, inr, ℕ, ◌≤◌, ◌%◌, List, [], ◌∷◌, ◌++◌, length, refl, sym, ap, subst, ◌∙◌, arith}
use Rattle.std.specs.Prelude.{Contains, AllPairs, ◌<◌}
use Rattle.std.proofs.lemmas.List.Elements.{All-contains_itself}
use Rattle.row_hours.specs.declared.hours.TheConstants.{HOUR_MILLIS}
use Rattle.tsd_base.specs.declared.kinds.Kind.{Kind}
use Rattle.tsd_base.specs.declared.kinds.Kind.TheVariants.{Metric, TagKey, TagValue}
use Rattle.tsd_base.specs.TagList.{Pair}
use Rattle.tsd_base.specs.Points.{DataPoint}
use Rattle.row_key.specs.declared.keys.RowKey.{RowKey}
use Rattle.row_key.specs.Key.{IsKey, IsId, key_bytes}
use Rattle.cell_model.specs.KindWidths.{Widths, greatest, kind_bytes}
use Rattle.qual_codec.specs.CellDots.{IsDots}
use Rattle.qual_codec.specs.Spelling.{IsShortest, dot_of}
use Rattle.cell_model.specs.declared.row.Row.{Row}
use Rattle.cell_model.specs.Machine.{kind_qual}
use Rattle.cell_model.specs.IdRows.{name_row}
use Rattle.cell_model.specs.Layout.{HasKey, names_of}
use Rattle.cell_model.specs.Lawful.{PointBasis, AppendBasis}
use Rattle.cell_model.specs.Readings.{point_row}
use Rattle.cell_model.specs.Seen.{Seen, KnowsCell}
use Rattle.test_rows.specs.declared.fact.Fact.{Fact}
use Rattle.test_rows.specs.Facts.{AllHold, IsShown}
use Rattle.test_rows.specs.Puts.{ShowsKey}
use Rattle.list_lemmas.proofs.ListMembers.{here, split, not_in}
use Rattle.test_rows.proofs.Holding.{shown_known}

-- the ids of a kind's one name
by_kind : ℕ → ℕ × ℕ → Kind → List ℕ → ℕ
by_kind metric ids Metric name = metric
by_kind metric ids TagKey name = ids.0
by_kind metric ids TagValue name = ids.1

pub is_key : (w : Widths) (facts : List Fact) (p : DataPoint) (key : RowKey) → ShowsKey w facts p key → IsKey w key
is_key w facts p key k = record {
  metric = k.metric.is_id;
  base = let b = k.base in let most = k.is_point.timed.most in omega (arith, b, most);
  hour = let b = k.base in omega (arith, b);
  some = subst (λ (x : List (ℕ × ℕ)). 1 ≤ length x) (sym k.tags.pairs_are) (omega arith);
  most = subst (λ (x : List (ℕ × ℕ)). length x ≤ 8) (sym k.tags.pairs_are) (omega arith);
  ids = λ n d lt. each _ (All-contains_itself key.pairs.items n d lt);
  rising = subst (λ (x : List (ℕ × ℕ)). AllPairs (λ a b. a.0 < b.0) x) (sym k.tags.pairs_are) (λ i j d lt more. absurd (omega (arith, lt, more)));
}
  where
    one : (i : ℕ × ℕ) → (k.tags.ids ≡ i) ⊎ Contains [] i → IsId w.tag_key i.0 × IsId w.tag_value i.1
    one i (inl same) = subst (λ (j : ℕ × ℕ). IsId w.tag_key j.0 × IsId w.tag_value j.1) same (k.tags.shows.0.is_id, k.tags.shows.1.is_id)
    one i (inr none) = absurd (not_in i none)

    each : (i : ℕ × ℕ) → Contains key.pairs.items i → IsId w.tag_key i.0 × IsId w.tag_value i.1
    each i c = one i (split k.tags.ids i [] (subst (λ (x : List (ℕ × ℕ)). Contains x i) k.tags.pairs_are c))

-- each name of the point has the id of its kind
resolved : (Has : Kind → List ℕ → ℕ → Type 0) (metric : ℕ) (ids : ℕ × ℕ) (name : List ℕ) (tag : Pair) → Has Metric name metric → Has TagKey tag.0 ids.0 → Has TagValue tag.1 ids.1
    → (kind : Kind) (n : List ℕ) → Contains {X = Kind × List ℕ} ((Metric, name) ∷ (TagKey, tag.0) ∷ (TagValue, tag.1) ∷ []) (kind, n) → Has kind n (by_kind metric ids kind n)
unfolding by_kind
resolved Has metric ids name tag m k v kind n c = first (split (Metric, name) (kind, n) ((TagKey, tag.0) ∷ (TagValue, tag.1) ∷ []) c)
  where
    Holds : Kind × List ℕ → Type 0
    Holds x = Has x.0 x.1 (by_kind metric ids x.0 x.1)

    third : (◌≡◌ {A = Kind × List ℕ} (TagValue, tag.1) (kind, n)) ⊎ Contains {X = Kind × List ℕ} [] (kind, n) → Holds (kind, n)
    third (inl same) = subst Holds same v
    third (inr none) = absurd (not_in (kind, n) none)

    second : (◌≡◌ {A = Kind × List ℕ} (TagKey, tag.0) (kind, n)) ⊎ Contains {X = Kind × List ℕ} ((TagValue, tag.1) ∷ []) (kind, n) → Holds (kind, n)
    second (inl same) = subst Holds same k
    second (inr more) = third (split (TagValue, tag.1) (kind, n) [] more)

    first : (◌≡◌ {A = Kind × List ℕ} (Metric, name) (kind, n)) ⊎ Contains {X = Kind × List ℕ} ((TagKey, tag.0) ∷ (TagValue, tag.1) ∷ []) (kind, n) → Holds (kind, n)
    first (inl same) = subst Holds same m
    first (inr more) = second (split (TagKey, tag.0) (kind, n) ((TagValue, tag.1) ∷ []) more)

-- an id of the name was seen
abbrev Seen_id : Widths → Seen → Kind → List ℕ → ℕ → Type 0
Seen_id w s kind name id = KnowsCell s (name_row name) (kind_qual kind) (kind_bytes w kind id) × (id ≤ greatest w kind)

has_key : (w : Widths) (facts : List Fact) (p : DataPoint) (key : RowKey) (k : ShowsKey w facts p key) → HasKey w (by_kind key.metric k.tags.ids) p key
unfolding by_kind
has_key w facts p key k = record {
  is_key = is_key w facts p key k;
  metric = refl;
  base = k.base;
  count = ap length k.tags.pairs_are ∙ sym (ap length k.tags.tags_are);
  each_tag = λ t c. subst (λ (x : List (ℕ × ℕ)). Contains x (k.tags.ids.0, k.tags.ids.1)) (sym k.tags.pairs_are) (here k.tags.ids []);
  each_pair = λ i c. (k.tags.tag, subst (λ (x : List Pair). Contains x k.tags.tag) (sym k.tags.tags_are) (here k.tags.tag []), only i (split k.tags.ids i [] (subst (λ (x : List (ℕ × ℕ)). Contains x i) k.tags.pairs_are c)));
}
  where
    only : (i : ℕ × ℕ) → (k.tags.ids ≡ i) ⊎ Contains [] i → (k.tags.ids.0, k.tags.ids.1) ≡ i
    only i (inl same) = same
    only i (inr none) = absurd (not_in i none)

-- the cell with the key's row, and the shortest value, is known to be allowed
pub put_known : (w : Widths) (s : Seen) (facts : List Fact) (p : DataPoint) (key : RowKey) (row : Row) (qual value list : List ℕ) → AllHold s facts → ShowsKey w facts p key → list ≡ value → row ≡ point_row (key_bytes w key) → IsDots qual list (dot_of (p.time % HOUR_MILLIS) p.fine p.value (length list) ∷ []) → IsShortest p.value value
    → PointBasis w (Seen_id w s) p row qual value
put_known w s facts p key row qual value list all k same row_is dot shortest = record {
  is_point = k.is_point;
  in_points = ap (λ (r : Row). r.table) row_is;
  ids = by_kind key.metric k.tags.ids;
  resolved = λ kind n c.
      resolved (Seen_id w s) key.metric k.tags.ids p.metric k.tags.tag (known k.metric.shown, k.metric.is_id.1) (known k.tags.shows.0.shown, k.tags.shows.0.is_id.1) (known k.tags.shows.1.shown, k.tags.shows.1.is_id.1) kind n
      (subst (λ (ts : List Pair). Contains (names_of (record p { tags = ts })) (kind, n)) k.tags.tags_are c);
  layout = record {
    key = key;
    has = has_key w facts p key k;
    row_is = ap (λ (r : Row). r.bytes) row_is;
    dot = subst (λ (v : List ℕ). IsDots qual v (dot_of (p.time % HOUR_MILLIS) p.fine p.value (length v) ∷ [])) same dot;
    shortest = shortest;
  };
}
  where
    known : {r : Row} {q v : List ℕ} → IsShown facts r q v → KnowsCell s r q v
    known shown = shown_known s facts _ _ _ all shown

-- and so is an append of its qualifier and its value
pub append_known : (w : Widths) (s : Seen) (facts : List Fact) (p : DataPoint) (key : RowKey) (row : Row) (qual value list q v piece : List ℕ) → AllHold s facts → ShowsKey w facts p key → list ≡ value → q ≡ qual → v ≡ value → piece ≡ q ++ v
    → row ≡ point_row (key_bytes w key) → IsDots qual list (dot_of (p.time % HOUR_MILLIS) p.fine p.value (length list) ∷ []) → IsShortest p.value value
    → AppendBasis w (Seen_id w s) p row piece
append_known w s facts p key row qual value list q v piece all k same q_is v_is piece_is row_is dot shortest = record {
  qual = qual;
  value = value;
  piece_is = piece_is ∙ (λ i. q_is i ++ v_is i);
  put = put_known w s facts p key row qual value list all k same row_is dot shortest;
}

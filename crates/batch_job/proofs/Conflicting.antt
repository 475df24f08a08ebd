-- Conflicts of stored points, and what a query over them shows.
use Rattle.std.proofs.Common.{◌≡◌, Equal, ⊎_elim, inl, inr, ℕ, ℤ, ◌+◌, ◌*◌, ◌≤◌, Bool, true, false, List, [], ◌∷◌, ◌++◌, Option, Some, map, refl, sym, ap, subst, ◌∙◌, arith}
use Rattle.std.specs.Prelude.{if◌then◌else◌, None, Contains, IsTrue, filter, find, not, option_map, unwrap_or}
use Rattle.std.specs.FinMap.{nat_cmp-IsAntisymmetric, slice_cmp-IsAntisymmetric}
use Rattle.std.specs.List.{flat_map}
use Rattle.std.specs.Cmp.{nat_cmp_total, tied_itself}
use Rattle.std.specs.Cmp.Lexicographic.{nat_list_cmp_total, slice_cmp}
use Rattle.std.specs.Ordering.{int_eq, is_le, nat_cmp, ordering_reverse, ordering_then}
use Rattle.std.specs.declared.cmp.Ordering.{Ordering}
use Rattle.std.specs.declared.cmp.Ordering.TheVariants.{Less, Greater}
use Rattle.std.proofs.lemmas.Bool.{and_parts, eqb-true, true≢false}
use Rattle.std.proofs.lemmas.Bool.Decides.{Decides-int_eq, nat_tests}
use Rattle.std.proofs.lemmas.List.Elements.{All-contains, All-from_recursion, Contains-append_cases, Contains-append_left, Contains-append_right}
use Rattle.row_key.specs.declared.keys.RowKey.{RowKey}
use Rattle.row_key.specs.declared.tables.Table.TheVariants.{Points}
use Rattle.qual_codec.specs.declared.cells.Cell.{Cell}
use Rattle.qual_codec.specs.declared.cells.Dot.{Dot}
use Rattle.qual_codec.specs.declared.cells.Item.{Item}
use Rattle.qual_codec.specs.CellDots.{HoldsDots, column_qual}
use Rattle.tsd_base.specs.Points.{DataPoint}
use Rattle.tsd_base.specs.Alphabet.{IsName}
use Rattle.tsd_base.specs.LastPoints.{last_points}
use Rattle.tsd_base.specs.TagList.{IsPair, Pair}
use Rattle.list_lemmas.specs.BytesOrder.{bytes_cmp as row_bytes_cmp}
use Rattle.row_key.specs.Key.{hour_bytes, pair_bytes}
use Rattle.row_key.specs.KeyOrder.{pair_cmp}
use Rattle.row_key.specs.Made.{three}
use Rattle.row_key.specs.declared.widths.Widths.{Widths}
use Rattle.tsd_base.specs.TagOrder.{tags_same}
use Rattle.tsd_base.specs.declared.kinds.Kind.{Kind}
use Rattle.tsd_base.specs.declared.kinds.Kind.TheVariants.{Metric, TagKey, TagValue}
use Rattle.cell_model.specs.declared.row.Found.{Found}
use Rattle.cell_model.specs.declared.row.Row.{Row}
use Rattle.cell_model.specs.declared.events.Entry.{Entry}
use Rattle.cell_model.specs.declared.events.Placed.{Placed}
use Rattle.cell_model.specs.declared.events.Reply.TheVariants.{Next}
use Rattle.cell_model.specs.declared.events.Step.{Step}
use Rattle.cell_model.specs.declared.events.Step.TheVariants.{Open, Read, NextRow, Bump, Claim, PutPoint, AppendPoint, PutMerged, DropCells}
use Rattle.cell_model.specs.Deeds.{Made, before_first}
use Rattle.cell_model.specs.History.{History, Had, base_of, first, store_after}
use Rattle.cell_model.specs.IdRows.{id_of, name_of}
use Rattle.cell_model.specs.Layout.{IsPoint, base_time}
use Rattle.cell_model.specs.Lawful.{IsLawful, Wrote}
use Rattle.cell_model.specs.Readings.{Reading, CellReads, IsNamed, IsStanding, Meets, point_row, reading_of}
use Rattle.cell_model.specs.Seen.{Seen, Fits}
use Rattle.cell_model.specs.Store.{Store, no_cells, value_at}
use Rattle.metric_scan.specs.Parts.{AreQuerySteps, FirstConflict, HasConflict, NameOf, Part, PartStands}
use Rattle.qual_codec.specs.Merge as row
use Rattle.qual_codec.specs.Merge.{AreDots, values_at}
use Rattle.row_scan.specs.RowReadings.{RowReads}
use Rattle.batch_job.specs.Conflicts.{Conflict, are_conflict, conflict_cmp, conflict_of, conflicts, first_conflict, ids_of_tag, pairs_of}
use Rattle.point_lines.specs.NameIds.{Names, id_in}
use Rattle.batch_job.specs.JobAnswers.{names_after}
use Rattle.batch_job.specs.Storing.{IsOtherWrite, IsStored, Puts, WasPut}
use Rattle.batch_job.proofs.Asking.{after_old, base_is, base_of_first, before_now, ids_are, last_of_wanted, last_point_put, last_put, put_is_last, only_puts_after, wanted_points, wanted_reading}
use Rattle.cell_laws.proofs.CallerLemmas.{nothing}
use Rattle.batch_job.proofs.FoundCells.{cell_of_dot, cells_row, cells_stand, differ, found_table, not_true, same_store}
use Rattle.batch_job.proofs.LastPoints.{last_hold, same_bytes}
use Rattle.batch_job.proofs.Lower.{PutReads, StoodRow, cell_in, dot_offset, first_lawful, had_cell, here, hour_is, in_filter, in_map, items_once, keys_compare, map_in, dot_value, metric_id, pair_ids, put_dot, split, to_filter, not_in, one_dots, one_key, one_row, row_stood, same_Some, tags_once, there, value_dot}
use Rattle.batch_job.proofs.FirstConflicts.{AtOnce, both_equal, first_found, pair_exact}
use Rattle.batch_job.proofs.PairsOfTags.{pairs_are}
use Rattle.batch_job.proofs.OneValue.{among_conflicts, are_two, one_place}
use Rattle.batch_job.proofs.PutsStand.{had_reads, no_column_there, put_stays_there}
use Rattle.batch_job.proofs.RowCells.{Rise, cells_rise, first_coarse, only}

-- ---- lists
none_of : {X : Type 0} (xs : List X) → ((x : X) → Contains xs x → ⊥) → xs ≡ []
none_of [] never = refl
none_of (x ∷ xs) never = absurd (never x (here x xs))

out_flat : {X Y : Type 0} (f : X → List Y) (xs : List X) (y : Y) → Contains (flat_map f xs) y → (x : X) × Contains xs x × Contains (f x) y
out_flat f [] y has = absurd (not_in y has)
out_flat f (x ∷ xs) y has = elim (Contains-append_cases (f x) (flat_map f xs) y has) [
  | inl first_ ↦ (x, here x xs, first_)
  | inr later ↦ (let o = out_flat f xs y later in (o.0, there x o.0 xs o.1, o.2))
]

-- ---- what two conflicting points share
pub record Conflicting (p q : DataPoint) : Type 0 where
  pub coarse : p.fine ≡ false
  pub fine : q.fine ≡ true
  pub metric : p.metric ≡ q.metric
  pub tags : p.tags ≡ q.tags
  pub time : p.time ≡ q.time
  pub apart : int_eq p.value q.value ≡ false

pub conflicting_of : (p q : DataPoint) → are_conflict p q ≡ true → Conflicting p q
conflicting_of p q e =
    let a = and_parts _ _ e in
    let b = and_parts _ _ a.1 in
    let c = and_parts _ _ b.1 in
    let d = and_parts _ _ c.1 in
    let f = and_parts _ _ d.1 in
    record { coarse = not_true p.fine a.0; fine = b.0; metric = same_bytes p.metric q.metric c.0; tags = tags_same p.tags q.tags d.0; time = eqb-true p.time q.time f.0; apart = not_true (int_eq p.value q.value) f.1 }

-- the two points of a conflict
pub record TwoPoints (names : Names) (ps : List DataPoint) (c : Conflict) : Type 0 where
  pub p : DataPoint
  pub q : DataPoint
  pub p_in : Contains ps p
  pub q_in : Contains ps q
  pub conflict : are_conflict p q ≡ true
  pub is : conflict_of names p q ≡ c

pub two_points : (names : Names) (ps : List DataPoint) (c : Conflict) → Contains (conflicts names ps) c → TwoPoints names ps c
two_points names ps c has =
    let o = out_flat (λ r. map (conflict_of names r) (filter (are_conflict r) ps)) ps c has in
    let m = map_in (conflict_of names o.0) (filter (are_conflict o.0) ps) c o.2 in
    let f = in_filter (are_conflict o.0) ps m.0 m.1 in
    record { p = o.0; q = m.0; p_in = o.1; q_in = f.0; conflict = f.1; is = m.2 }

-- ---- the place of a put
record PutStep (s : Step) (p : DataPoint) : Type 0 where
  pub row : Row
  pub qual : List ℕ
  pub value : List ℕ
  pub is : s ≡ PutPoint p row qual value

put_step : (s : Step) (p : DataPoint) → Puts s p → PutStep s p
put_step Open p is = absurd is
put_step (Read row) p is = absurd is
put_step (NextRow table from to) p is = absurd is
put_step (Bump kind) p is = absurd is
put_step (Claim row qual value) p is = absurd is
put_step (PutPoint point row qual value) p is = record { row = row; qual = qual; value = value; is = ap (λ (x : DataPoint). PutPoint x row qual value) is }
put_step (AppendPoint point row piece) p is = absurd is
put_step (PutMerged row qual value) p is = absurd is
put_step (DropCells row which) p is = absurd is

first_is : (vs : List ℤ) (a b : ℤ) → row.first_conflict vs ≡ Some (a, b) → (rest : List ℤ) × (vs ≡ a ∷ rest)
first_is [] a b e = absurd cc
first_is (v ∷ vs) a b e = at (find (λ x. not (int_eq v x)) vs) e
  where
    at : (o : Option ℤ) → option_map {U = ℤ × ℤ} (λ x. (v, x)) o ≡ Some (a, b) → (rest : List ℤ) × (v ∷ vs ≡ a ∷ rest)
    at None e = absurd cc
    at (Some x) e = let pair : ◌≡◌ {A = ℤ × ℤ} (v, x) (a, b) = cc in (vs, ap (λ (p : ℤ × ℤ). p.0 ∷ vs) pair)

by_three : (o p r : Ordering) → (ordering_then o p ≡ Greater → ⊥) → (ordering_then o p ≡ Equal → is_le r ≡ true) → is_le (ordering_then o (ordering_then p r)) ≡ true
by_three Less p r never last = refl
by_three Equal Less r never last = refl
by_three Equal Equal r never last = last refl
by_three Equal Greater r never last = absurd (never refl)
by_three Greater p r never last = absurd (never refl)

is_le-from_le : (m n : ℕ) → m ≤ n → is_le (nat_cmp m n) ≡ true
is_le-from_le m n le = grind (arith, nat_tests, le)

-- a data point of a cell is one of all
dot_in : (cells : List Cell) (all : List Dot) (c : Cell) (ds : List Dot) (x : Dot) → AreDots cells all → Contains cells c → HoldsDots c.qual c.value ds → Contains ds x → Contains all x
dot_in [] all c ds x are has reads among = absurd (not_in c has)
dot_in (y ∷ cells) all c ds x (dots, rest, first_reads, are, is) has reads among =
    subst (λ (es : List Dot). Contains es x) (sym is) (⊎_elim
    (λ (same : y ≡ c). Contains-append_left dots rest x (subst (λ (es : List Dot). Contains es x) (one_dots c.qual c.value ds dots reads (subst (λ (z : Cell). HoldsDots z.qual z.value dots) same first_reads)) among))
    (λ (later : Contains cells c). Contains-append_right dots rest x (dot_in cells rest c ds x are later reads among))
    (split y c cells has))

-- two values that differ are a conflict
all_equal : (v : ℤ) (vs : List ℤ) → find (λ x. not (int_eq v x)) vs ≡ None → (w : ℤ) → Contains vs w → v ≡ w
all_equal v [] e w has = absurd (not_in w has)
all_equal v (x ∷ vs) e w has = at (λ told later. all_equal v vs told w later) (int_eq v x) refl e
  where
    at : (find (λ y. not (int_eq v y)) vs ≡ None → Contains vs w → v ≡ w) → (b : Bool) → int_eq v x ≡ b → (if not b then Some x else find (λ y. not (int_eq v y)) vs) ≡ None → v ≡ w
    at go true t is = ⊎_elim (λ (same : x ≡ w). (Decides-int_eq v x).0 t ∙ same) (λ (later : Contains vs w). go is later) (split x w vs has)
    at go false t is = absurd cc

two_differ : (vs : List ℤ) (v w : ℤ) → Contains vs v → Contains vs w → int_eq v w ≡ false → (both : ℤ × ℤ) × (row.first_conflict vs ≡ Some both)
two_differ [] v w x y e = absurd (not_in v x)
two_differ (z ∷ vs) v w x y e = at (find (λ u. not (int_eq z u)) vs) refl
  where
    at : (o : Option ℤ) → find (λ u. not (int_eq z u)) vs ≡ o → (both : ℤ × ℤ) × (row.first_conflict (z ∷ vs) ≡ Some both)
    at (Some u) is = ((z, u), ap (option_map {U = ℤ × ℤ} (λ b. (z, b))) is)
    at None is =
        let zv : z ≡ v = ⊎_elim (λ (same : z ≡ v). same) (λ (later : Contains vs v). all_equal z vs is v later) (split z v vs x) in
        let zw : z ≡ w = ⊎_elim (λ (same : z ≡ w). same) (λ (later : Contains vs w). all_equal z vs is w later) (split z w vs y) in
        absurd (true≢false (sym ((Decides-int_eq v w).1 (sym zv ∙ zw)) ∙ e))

record SamePlace (p q : DataPoint) : Type 0 where
  pub metric : p.metric ≡ q.metric
  pub tags : p.tags ≡ q.tags
  pub time : p.time ≡ q.time
  pub fine : p.fine ≡ q.fine

abbrev item_or : Item → List Item → Item
item_or i [] = i
item_or i (x ∷ xs) = x

-- points whose cells have one row and qualifier are of one series, time and form
same_place : (g : History) (p q : DataPoint) (row : Row) (qual v w : List ℕ) → PutReads g p row qual v → PutReads g q row qual w → SamePlace p q
same_place g p q row qual v w x y =
    let d = put_dot p x.len in
    let e = put_dot q y.len in
    let item : d.item ≡ e.item = ap (item_or d.item) (items_once qual (d.item ∷ []) (e.item ∷ []) x.reads.items y.reads.items) in
    let a = x.dot_reads in
    let b = y.dot_reads in
    let key : a.key ≡ b.key = one_key (store_after g).widths a.key b.key a.is_key b.is_key (sym a.row_is ∙ b.row_is) in
    record {
      metric = same_Some _ _ (sym a.metric_is ∙ ap (λ (k : RowKey). name_of g Metric k.metric) key ∙ b.metric_is);
      tags = tags_once (name_of g) a.key.pairs.items b.key.pairs.items p.tags q.tags (ap (λ (k : RowKey). k.pairs.items) key) a.tags_are b.tags_are;
      time = a.time_is ∙ (λ i. (key i).base * 1000 + (item i).offset) ∙ sym b.time_is;
      fine = ap (λ (i : Item). i.fine) item;
    }

-- a cell's reading, at other bytes that are the same
moved_reads : (widths : Widths) (names : Kind → ℕ → Option (List ℕ)) (row qual value row' qual' value' : List ℕ) (r : Reading) → row ≡ row' → qual ≡ qual' → value ≡ value' → CellReads widths names row qual value r → CellReads widths names row' qual' value' r
moved_reads widths names row qual value row' qual' value' r a b c reads = subst (λ (x : List ℕ). CellReads widths names x qual' value' r) a (subst (λ (x : List ℕ). CellReads widths names row x value' r) b (subst (λ (x : List ℕ). CellReads widths names row qual x r) c reads))

module _ (points : List DataPoint) (old new : Seen) (list : List Placed) (stored : IsStored points old) (made : Made old list new) (steps : AreQuerySteps list) (h : History) (lawful : IsLawful h) (fits : Fits new h) where
  abbrev now : History
  now = first new.length h

  lawful_now : IsLawful now
  lawful_now = first_lawful h new.length lawful

  -- the cell of each of the points stands, with its value
  pub stands : (p : DataPoint) → Contains (last_points points) p → IsStanding now (reading_of p)
  stands p has =
      let put = last_point_put points old new list stored made steps h lawful fits new.length p (made.since.extends.length) has in
      let st = put_step put.0.step p put.2 in
      let reads = had_reads now put.0 p st.row st.qual st.value lawful_now put.1 st.is in
      let stay = put_stays_there now put.0 p st.row st.qual st.value lawful_now (only_puts_after points old new list stored made steps h lawful fits) reads.in_points put.1 st.is in
      let other = had_reads now stay.entry stay.point st.row st.qual stay.value lawful_now stay.had stay.step_is in
      let among : Contains (last_points points) stay.point = put_is_last points old new list stored made steps h lawful fits stay.point (stay.entry, stay.had, subst (λ s. Puts s stay.point) (sym stay.step_is) refl) in
      let place = same_place now stay.point p st.row st.qual stay.value st.value other reads in
      let value = one_place points stay.point p among has (λ i. ((place.metric i, place.tags i), place.fine i)) place.time in
      let same : reading_of stay.point ≡ reading_of p = λ i. record { metric = place.metric i; tags = place.tags i; time = place.time i; value = value i } in
      let row : st.row ≡ point_row st.row.bytes = λ i. record { table = reads.in_points i; bytes = st.row.bytes } in
      record {
        row = st.row.bytes;
        qual = st.qual;
        value = stay.value;
        stands = ap (λ (x : Row). value_at (store_after now) x st.qual) (sym row) ∙ stay.there;
        reads = subst (CellReads (store_after now).widths (name_of now) st.row.bytes st.qual stay.value) same (record { dots = put_dot stay.point other.len ∷ []; reads = inl other.reads; dot = put_dot stay.point other.len; among = here (put_dot stay.point other.len) []; dot_reads = other.dot_reads });
      }

  base_now : base_of now ≡ no_cells three
  base_now = base_of_first h new.length ∙ base_is points old new list stored made steps h lawful fits

  -- no row has a column
  no_column : (row : Row) (v : List ℕ) → row.table ≡ Points → value_at (store_after now) row column_qual ≡ Some v → ⊥
  no_column row v in_points is = no_column_there now row v lawful_now base_now (only_puts_after points old new list stored made steps h lawful fits) in_points is

  -- a cell of a point row is that of one of the points
  record CellPoint (c : Cell) (row : Row) : Type 0 where
    pub point : DataPoint
    pub among : Contains (last_points points) point
    pub reads : PutReads now point row c.qual c.value

  wrote_point : (c : Cell) (row : Row) (e : Entry) (step : Step) → e.step ≡ step → Had now e → Wrote row c.qual c.value step → CellPoint c row
  wrote_point c row e Open is had w = absurd w
  wrote_point c row e (Read r) is had w = absurd w
  wrote_point c row e (NextRow table from to) is had w = absurd w
  wrote_point c row e (Bump kind) is had w = absurd w
  wrote_point c row e (Claim r q v) is had w = absurd w
  wrote_point c row e (PutPoint p r q v) is had w =
      let put : WasPut now p = (e, had, subst (λ (s : Step). Puts s p) (sym is) refl) in
      let reads = had_reads now e p r q v lawful_now had is in
      record {
        point = p;
        among = put_is_last points old new list stored made steps h lawful fits p put;
        reads = subst (λ (x : Row). PutReads now p x c.qual c.value) w.0 (subst (λ (x : List ℕ). PutReads now p r x c.value) w.1 (subst (λ (x : List ℕ). PutReads now p r q x) w.2 reads));
      }
  wrote_point c row e (AppendPoint p r piece) is had w = absurd w
  wrote_point c row e (PutMerged r q v) is had w = absurd (only_puts_after points old new list stored made steps h lawful fits e had (subst IsOtherWrite (sym is) tt))
  wrote_point c row e (DropCells r which) is had w = absurd w

  module _ (at : Placed) (among : Contains list at) (found : Found) (reply : at.entry.reply ≡ Next (Some found)) where
    -- a row that reads is that of each of the points of the series and time
    same_row : (r : Reading) (reads : RowReads (store_after now).widths (name_of now) found r) (p : DataPoint) (has : Contains (last_points points) p) → Meets r (reading_of p) → found.row ≡ point_row (stands p has).row
    same_row r reads p has meets =
        let s = stands p has in
        let table = found_table points old new list stored made steps h lawful fits at among found reply r reads in
        let cell = cells_stand points old new list stored made steps h lawful fits at among found reply reads.cell reads.among in
        let row : found.row ≡ point_row found.row.bytes = λ i. record { table = table i; bytes = found.row.bytes } in
        let shown = row_stood h new.length new.length found.row.bytes reads.cell.qual reads.cell.value lawful (omega arith) (ap (λ (x : Row). value_at (store_after now) x reads.cell.qual) (sym row) ∙ cell) in
        let put = row_stood h new.length new.length s.row s.qual s.value lawful (omega arith) s.stands in
        let same : found.row.bytes ≡ s.row =
        one_row now found.row.bytes s.row reads.reads.dot s.reads.dot r (reading_of p) shown put
        (dot_offset reads.cell.qual reads.cell.value reads.reads.dots reads.reads.dot reads.reads.reads reads.reads.among) (dot_offset s.qual s.value s.reads.dots s.reads.dot s.reads.reads s.reads.among)
        reads.reads.dot_reads s.reads.dot_reads meets in
        row ∙ ap point_row same

    -- its cells have the point's reading
    row_has : (p : DataPoint) (has : Contains (last_points points) p) → found.row ≡ point_row (stands p has).row → RowReads (store_after now).widths (name_of now) found (reading_of p)
    row_has p has same =
        let s = stands p has in
        let is : value_at (store_after now) found.row s.qual ≡ Some s.value = ap (λ (x : Row). value_at (store_after now) x s.qual) same ∙ s.stands in
        let c = cell_in (store_after now) found.row s.qual s.value is in
        record {
          cell = c.cell;
          among = subst (λ (cs : List Cell). Contains cs c.cell) (sym (cells_row points old new list stored made steps h lawful fits at among found reply)) c.among;
          reads = moved_reads (store_after now).widths (name_of now) s.row s.qual s.value found.row.bytes c.cell.qual c.cell.value (reading_of p) (sym (ap (λ (x : Row). x.bytes) same)) (sym c.qual_is) (sym c.value_is) s.reads;
        }

    in_row : (r : Reading) (reads : RowReads (store_after now).widths (name_of now) found r) (p : DataPoint) → Contains (last_points points) p → Meets r (reading_of p) → RowReads (store_after now).widths (name_of now) found (reading_of p)
    in_row r reads p has meets = row_has p has (same_row r reads p has meets)

    cell_point : (c : Cell) → Contains found.cells c → found.row.table ≡ Points → CellPoint c found.row
    cell_point c has table = ⊎_elim
        (λ (based : value_at (base_of now) found.row c.qual ≡ Some c.value). absurd (nothing three found.row c.qual c.value (subst (λ (s : Store). value_at s found.row c.qual ≡ Some c.value) base_now based)))
        (λ (w : (e : Entry) × Had now e × Wrote found.row c.qual c.value e.step). wrote_point c found.row w.0 w.0.step refl w.1 w.2)
        (had_cell now found.row c.qual c.value lawful_now table
        (λ same. no_column found.row c.value table (ap (value_at (store_after now) found.row) (sym same) ∙ cells_stand points old new list stored made steps h lawful fits at among found reply c has))
        (cells_stand points old new list stored made steps h lawful fits at among found reply c has))

    -- the two points of a conflict that is told: its first value is that of the one in seconds
    module _ (wanted : Reading → Bool) (time : ℕ) (a b : ℤ) (conflict : HasConflict (store_after now).widths (name_of now) wanted found time a b) where
      table : found.row.table ≡ Points
      table = ap (λ (r : Row). r.table) conflict.row_is

      record DotPoint (d : Dot) : Type 0 where
        pub point : DataPoint
        pub last : Contains (last_points points) point
        pub metric_is : point.metric ≡ conflict.reading.metric
        pub tags_are : point.tags ≡ conflict.reading.tags
        pub time_is : point.time ≡ time
        pub form : point.fine ≡ d.item.fine
        pub value_is : point.value ≡ d.value

      dot_point : (d : Dot) → Contains conflict.dots d → d.item.offset ≡ conflict.offset → DotPoint d
      dot_point d has at_offset =
          let w = cell_of_dot found.cells conflict.dots d conflict.are_dots has in
          let p = cell_point w.cell w.among table in
          let e = put_dot p.point p.reads.len in
          let same : e ≡ d = only e d (subst (λ (ds : List Dot). Contains ds d) (one_dots w.cell.qual w.cell.value w.dots (e ∷ []) w.reads (inl p.reads.reads)) w.has) in
          let told = conflict.reads.reads.dot_reads in
          let x = p.reads.dot_reads in
          let key : x.key ≡ told.key = one_key (store_after now).widths x.key told.key x.is_key told.is_key (sym x.row_is ∙ told.row_is) in
          let base : x.key ≡ conflict.key = one_key (store_after now).widths x.key conflict.key x.is_key conflict.is_key (sym x.row_is ∙ ap (λ (r : Row). r.bytes) conflict.row_is) in
          record {
            point = p.point;
            last = p.among;
            metric_is = same_Some _ _ (sym x.metric_is ∙ ap (λ (k : RowKey). name_of now Metric k.metric) key ∙ told.metric_is);
            tags_are = tags_once (name_of now) x.key.pairs.items told.key.pairs.items (p.point).tags conflict.reading.tags (ap (λ (k : RowKey). k.pairs.items) key) x.tags_are told.tags_are;
            time_is = x.time_is ∙ (λ i. (base i).base * 1000 + (same i).item.offset) ∙ ap (λ n. conflict.key.base * 1000 + n) at_offset ∙ sym conflict.time_is;
            form = ap (λ (z : Dot). z.item.fine) same;
            value_is = ap (λ (z : Dot). z.value) same;
          }

      same_value : (c d : Dot) (x : DotPoint c) (y : DotPoint d) → c.item.fine ≡ d.item.fine → c.value ≡ d.value
      same_value c d x y form =
          let tags = x.tags_are ∙ sym y.tags_are in
          let metric = x.metric_is ∙ sym y.metric_is in
          let fine = x.form ∙ form ∙ sym y.form in
          sym x.value_is ∙ one_place points x.point y.point x.last y.last (λ i. ((metric i, tags i), fine i)) (x.time_is ∙ sym y.time_is) ∙ y.value_is

      pub record ToldPoints : Type 0 where
        pub p : DataPoint
        pub q : DataPoint
        pub p_last : Contains (last_points points) p
        pub q_last : Contains (last_points points) q
        pub metric_is : p.metric ≡ conflict.reading.metric
        pub tags_are : p.tags ≡ conflict.reading.tags
        pub time_is : p.time ≡ time
        pub conflict_is : are_conflict p q ≡ true
        pub p_value : p.value ≡ a
        pub q_value : q.value ≡ b

      pub told_points : ToldPoints
      told_points =
          let d = differ (values_at conflict.offset conflict.dots) a b conflict.values in
          let x = value_dot conflict.dots conflict.offset a d.first_ in
          let y = value_dot conflict.dots conflict.offset b d.second in
          by_forms x.dot y.dot (dot_point x.dot x.among x.offset_is) (dot_point y.dot y.among y.offset_is) x.value_is y.value_is d.apart (λ form. no_later y.dot y.among y.offset_is form d.apart y.value_is) x.dot.item.fine y.dot.item.fine refl refl
        where
          apart : a ≡ b → int_eq a b ≡ false → ⊥
          apart same e = true≢false (sym ((Decides-int_eq a b).1 same) ∙ e)

          -- the second value isn't that of a point in seconds
          no_later : (d : Dot) → Contains conflict.dots d → d.item.offset ≡ conflict.offset → d.item.fine ≡ false → int_eq a b ≡ false → d.value ≡ b → ⊥
          no_later d has at_offset form e value =
              let values = first_is (values_at conflict.offset conflict.dots) a b conflict.values in
              let f = first_coarse found.cells conflict.dots conflict.offset a values.0
              (subst Rise (sym (cells_row points old new list stored made steps h lawful fits at among found reply)) (cells_rise (store_after now) found.row))
              (λ c i. let p = cell_point c i table in record { dot = put_dot p.point p.reads.len; reads = p.reads.reads })
              conflict.are_dots values.1 d has at_offset form in
              let same = same_value f.dot d (dot_point f.dot f.among f.offset_is) (dot_point d has at_offset) (f.coarse_is ∙ sym form) in
              apart (sym f.value_is ∙ same ∙ value) e

          by_forms : (c d : Dot) (x : DotPoint c) (y : DotPoint d) → c.value ≡ a → d.value ≡ b → int_eq a b ≡ false → (d.item.fine ≡ false → ⊥) → (f g : Bool) → c.item.fine ≡ f → d.item.fine ≡ g → ToldPoints
          by_forms c d x y va vb e never f false cf df = absurd (never df)
          by_forms c d x y va vb e never true true cf df = absurd (apart (sym va ∙ same_value c d x y (cf ∙ sym df) ∙ vb) e)
          by_forms c d x y va vb e never false true cf df =
              let pv = x.value_is ∙ va in
              let qv = y.value_is ∙ vb in
              record {
                p = x.point;
                q = y.point;
                p_last = x.last;
                q_last = y.last;
                metric_is = x.metric_is;
                tags_are = x.tags_are;
                time_is = x.time_is;
                conflict_is = are_two x.point y.point (x.metric_is ∙ sym y.metric_is) (x.tags_are ∙ sym y.tags_are) (x.time_is ∙ sym y.time_is) (x.form ∙ cf) (y.form ∙ df) ((λ i. int_eq (pv i) (qv i)) ∙ e);
                p_value = pv;
                q_value = qv;
              }

  module _ (want : Reading → Bool) (by_series : (r t : Reading) → Meets r t → want r ≡ want t) (metric : List ℕ) (of_metric : (r : Reading) → IsTrue (want r) → r.metric ≡ metric) where
    abbrev names : Names
    names = names_after points

    abbrev points_wanted : List DataPoint
    points_wanted = wanted_points want points

    -- what is read to its end, and shows no conflict
    pub free_conflicts : (names_asked : List NameOf) (part : Part) → part.own ≡ list → PartStands want names_asked part new.length h → conflicts names points_wanted ≡ []
    free_conflicts names_asked part own_is part_stands = none_of (conflicts names points_wanted) never
      where
        wanted_of : (p : DataPoint) → Contains points_wanted p → Contains (map reading_of (last_points points)) (reading_of p) × IsTrue (want (reading_of p))
        wanted_of p has = wanted_reading want points (reading_of p) (in_map reading_of points_wanted p has)

        last_of : (p : DataPoint) → Contains points_wanted p → Contains (last_points points) p
        last_of p has = last_of_wanted want points p has

        never : (c : Conflict) → Contains (conflicts names points_wanted) c → ⊥
        never c has =
            let t = two_points names points_wanted c has in
            let k = conflicting_of t.p t.q t.conflict in
            let wp = wanted_of t.p t.p_in in
            let wq = wanted_of t.q t.q_in in
            let before = before_first part.own new.length in
            let covered = part_stands.covers.each (reading_of t.p) (inr (last_put points old new list stored made steps h lawful fits before (reading_of t.p) (after_old points old new list stored made steps h lawful fits part.own own_is) wp.0), wp.1) in
            let r = covered.0 in
            let meets = covered.2 in
            let shown = ((part_stands.shown r).0 covered.1).0 in
            let at = shown.1.placed in
            let among : Contains list at = subst (λ (xs : List Placed). Contains xs at) own_is shown.1.among in
            let mp : Meets r (reading_of t.p) = record { metric = sym meets.metric; tags = sym meets.tags; time = sym meets.time } in
            let mq : Meets r (reading_of t.q) = record { metric = mp.metric ∙ k.metric; tags = mp.tags ∙ k.tags; time = mp.time ∙ k.time } in
            let rp = in_row at among shown.0 shown.1.reply r shown.2 t.p (last_of t.p t.p_in) mp in
            let rq = in_row at among shown.0 shown.1.reply r shown.2 t.q (last_of t.q t.q_in) mq in
            let same : (t.p).value ≡ (t.q).value = part_stands.conflict_free shown.0 shown.1 (reading_of t.p) (reading_of t.q) (rp, wp.1) (rq, wq.1) (record { metric = k.metric; tags = k.tags; time = k.time }) in
            true≢false (sym ((Decides-int_eq (t.p).value (t.q).value).1 same) ∙ k.apart)

    -- ---- where the points stand
    point_is : (p : DataPoint) → Contains (last_points points) p → IsPoint p
    point_is p has = All-contains IsPoint (last_points points) p (All-from_recursion IsPoint (last_points points) (last_hold IsPoint points stored.are_points)) has

    names_are : names ≡ stored.names
    names_are = rw stored.noted refl

    abbrev key_of : (p : DataPoint) → Contains (last_points points) p → RowKey
    key_of p has = (stands p has).reads.dot_reads.key

    hour_of : (p : DataPoint) (has : Contains (last_points points) p) → base_time p.time ≡ (key_of p has).base
    hour_of p has =
        let s = stands p has in
        let d = s.reads.dot_reads in
        hour_is p.time d.key.base s.reads.dot.item.offset d.is_key.hour (dot_offset s.qual s.value s.reads.dots s.reads.dot s.reads.reads s.reads.among) d.time_is

    stood_of : (p : DataPoint) (has : Contains (last_points points) p) → StoodRow now (stands p has).row
    stood_of p has = let s = stands p has in row_stood h new.length new.length s.row s.qual s.value lawful (omega arith) s.stands

    ids_same : (i : ℕ × ℕ) (t : Pair) → IsName t.0 → IsName t.1 → (id_of now TagKey t.0 ≡ Some i.0) × (id_of now TagValue t.1 ≡ Some i.1) → ids_of_tag stored.names t ≡ i
    ids_same i t key_name value_name e =
        let key : unwrap_or (id_in stored.names.keys t.0) 0 ≡ i.0 = ap (λ (o : Option ℕ). unwrap_or o 0) (sym (ids_are points old new list stored made steps h lawful fits TagKey t.0 key_name) ∙ e.0) in
        let value : unwrap_or (id_in stored.names.values t.1) 0 ≡ i.1 = ap (λ (o : Option ℕ). unwrap_or o 0) (sym (ids_are points old new list stored made steps h lawful fits TagValue t.1 value_name) ∙ e.1) in
        λ k. (key k, value k)

    pairs_are_ids : (p : DataPoint) (has : Contains (last_points points) p) → pairs_of names p.tags ≡ (key_of p has).pairs.items
    pairs_are_ids p has =
        let s = stands p has in
        let d = s.reads.dot_reads in
        let named : (t : Pair) → Contains p.tags t → IsPair t = λ t c. All-contains IsPair p.tags t (All-from_recursion IsPair p.tags (point_is p has).tags.names) c in
        let ids : (i : ℕ × ℕ) → Contains d.key.pairs.items i → (t : Pair) → Contains p.tags t → IsNamed (name_of now) i t → ids_of_tag stored.names t ≡ i =
        λ i c t u n. ids_same i t (named t u).0 (named t u).1 (pair_ids now s.row s.reads.dot (reading_of p) (stood_of p has) d i c t n) in
        ap (λ (ns : Names). pairs_of ns p.tags) names_are
        ∙ pairs_are stored.names p.tags d.key.pairs.items d.is_key.rising
        (λ t c. let w = d.tags_are.back t c in subst (Contains d.key.pairs.items) (sym (ids w.0 w.1 t c w.2)) w.1)
        (λ i c. let w = d.tags_are.each i c in (w.0, w.1, ids i c w.0 w.1 w.2))

    metric_of : (p : DataPoint) → Contains points_wanted p → p.metric ≡ metric
    metric_of p has = of_metric (reading_of p) (wanted_reading want points (reading_of p) (in_map reading_of points_wanted p has)).1

    -- ---- the conflict that is told
    abbrev began : Store
    began = store_after (first (before_first list new.length) h)

    module _ (time : ℕ) (a b : ℤ) (f : FirstConflict began (store_after now).widths (name_of now) want list time a b) where
      at_in : Contains list f.at
      at_in = subst (λ (xs : List Placed). Contains xs f.at) (sym f.cut) (Contains-append_right f.earlier (f.at ∷ f.later) f.at (here f.at f.later))

      abbrev told : ToldPoints f.at at_in f.found f.reply want time a b f.conflict
      told = told_points f.at at_in f.found f.reply want time a b f.conflict

      two : Conflicting told.p told.q
      two = conflicting_of told.p told.q told.conflict_is

      -- a last point of the conflict's series and time is wanted
      point_wanted : (x : DataPoint) → Contains (last_points points) x → Meets (reading_of x) f.conflict.reading → Contains points_wanted x
      point_wanted x last meets = to_filter (λ p. want (reading_of p)) (last_points points) x last (by_series (reading_of x) f.conflict.reading meets ∙ f.conflict.asked)

      p_in : Contains points_wanted told.p
      p_in = point_wanted told.p told.p_last (record { metric = told.metric_is; tags = told.tags_are; time = told.time_is ∙ sym f.conflict.at_time })

      q_in : Contains points_wanted told.q
      q_in = point_wanted told.q told.q_last (record { metric = sym two.metric ∙ told.metric_is; tags = sym two.tags ∙ told.tags_are; time = sym two.time ∙ told.time_is ∙ sym f.conflict.at_time })

      abbrev c0 : Conflict
      c0 = conflict_of names told.p told.q

      row_is : f.found.row ≡ point_row (stands told.p told.p_last).row
      row_is = same_row f.at at_in f.found f.reply f.conflict.reading f.conflict.reads told.p told.p_last (record { metric = sym told.metric_is; tags = sym told.tags_are; time = f.conflict.at_time ∙ sym told.time_is })

      module _ (d : Conflict) (t : TwoPoints names points_wanted d) where
        p_last : Contains (last_points points) t.p
        p_last = last_of_wanted want points t.p t.p_in

        q_last : Contains (last_points points) t.q
        q_last = last_of_wanted want points t.q t.q_in

        abbrev k0 : RowKey
        k0 = key_of told.p told.p_last

        abbrev k : RowKey
        k = key_of t.p p_last

        metrics : k0.metric ≡ k.metric
        metrics =
            let x = stands told.p told.p_last in
            let y = stands t.p p_last in
            same_Some _ _ (sym (metric_id now x.row x.reads.dot (reading_of told.p) (stood_of told.p told.p_last) x.reads.dot_reads)
            ∙ ap (id_of now Metric) (metric_of told.p p_in ∙ sym (metric_of t.p t.p_in)) ∙ metric_id now y.row y.reads.dot (reading_of t.p) (stood_of t.p p_last) y.reads.dot_reads)

        -- the order of the rows is that of hours and ids
        rows_are : row_bytes_cmp (stands told.p told.p_last).row (stands t.p p_last).row ≡ ordering_then (nat_cmp k0.base k.base) (slice_cmp pair_cmp k0.pairs.items k.pairs.items)
        rows_are =
            let x = (stands told.p told.p_last).reads.dot_reads in
            let y = (stands t.p p_last).reads.dot_reads in
            (λ i. row_bytes_cmp (x.row_is i) (y.row_is i)) ∙ keys_compare (store_after now).widths k0 k x.is_key y.is_key
            ∙ ap (λ n. ordering_then (nat_cmp n k.metric) (ordering_then (nat_cmp k0.base k.base) (slice_cmp pair_cmp k0.pairs.items k.pairs.items))) metrics
            ∙ ap (λ o. ordering_then o (ordering_then (nat_cmp k0.base k.base) (slice_cmp pair_cmp k0.pairs.items k.pairs.items))) (tied_itself nat_cmp_total k.metric)

        conflict_order : conflict_cmp c0 (conflict_of names t.p t.q) ≡ ordering_then (nat_cmp k0.base k.base) (ordering_then (slice_cmp pair_cmp k0.pairs.items k.pairs.items) (nat_cmp told.p.time t.p.time))
        conflict_order = λ i. ordering_then (nat_cmp (hour_of told.p told.p_last i) (hour_of t.p p_last i)) (ordering_then (slice_cmp pair_cmp (pairs_are_ids told.p told.p_last i) (pairs_are_ids t.p p_last i)) (nat_cmp told.p.time t.p.time))

        both_told : Conflicting t.p t.q
        both_told = conflicting_of t.p t.q t.conflict

        wanted_p : IsTrue (want (reading_of t.p))
        wanted_p = (wanted_reading want points (reading_of t.p) (in_map reading_of points_wanted t.p t.p_in)).1

        wanted_q : IsTrue (want (reading_of t.q))
        wanted_q = (wanted_reading want points (reading_of t.q) (in_map reading_of points_wanted t.q t.q_in)).1

        meet : Meets (reading_of t.p) (reading_of t.q)
        meet = record { metric = both_told.metric; tags = both_told.tags; time = both_told.time }

        differs : t.p.value ≡ t.q.value → ⊥
        differs same = true≢false (sym ((Decides-int_eq t.p.value t.q.value).1 same) ∙ both_told.apart)

        -- no such row stands before the one that is told
        not_before : row_bytes_cmp (stands told.p told.p_last).row (stands t.p p_last).row ≡ Greater → ⊥
        not_before greater =
            let s = stands t.p p_last in
            let less : row_bytes_cmp s.row f.found.row.bytes ≡ Less = ap (λ (x : Row). row_bytes_cmp s.row x.bytes) row_is ∙ nat_list_cmp_total.antisymm s.row (stands told.p told.p_last).row ∙ ap ordering_reverse greater in
            let same = same_store points old new list stored made steps h lawful fits (before_first list new.length) (after_old points old new list stored made steps h lawful fits list refl) (before_now points old new list stored made steps h lawful fits list refl)
            ∙ sym (same_store points old new list stored made steps h lawful fits new.length made.since.extends.length (omega arith)) in
            let w = f.passed s.row s.qual s.value (reading_of t.p) (ap (λ (x : Store). value_at x (point_row s.row) s.qual) same ∙ s.stands) s.reads wanted_p less in
            let among : Contains list w.1.placed = subst (λ (xs : List Placed). Contains xs w.1.placed) (sym f.cut) (Contains-append_left f.earlier (f.at ∷ f.later) w.1.placed w.1.among) in
            let rp = row_has w.1.placed among w.0 w.1.reply t.p p_last w.2 in
            let rq = in_row w.1.placed among w.0 w.1.reply (reading_of t.p) rp t.q q_last meet in
            differs (f.conflict_free w.0 w.1 (reading_of t.p) (reading_of t.q) (rp, wanted_p) (rq, wanted_q) meet)

        -- and in that row none has an earlier time
        not_earlier : ordering_then (nat_cmp k0.base k.base) (slice_cmp pair_cmp k0.pairs.items k.pairs.items) ≡ Equal → is_le (nat_cmp told.p.time t.p.time) ≡ true
        not_earlier equal =
            let e = both_equal (nat_cmp k0.base k.base) (slice_cmp pair_cmp k0.pairs.items k.pairs.items) equal in
            let base : k0.base ≡ k.base = nat_cmp-IsAntisymmetric k0.base k.base e.0 in
            let pairs : k0.pairs.items ≡ k.pairs.items = slice_cmp-IsAntisymmetric pair_exact k0.pairs.items k.pairs.items e.1 in
            let x = (stands told.p told.p_last).reads.dot_reads in
            let y = (stands t.p p_last).reads.dot_reads in
            let same : (stands told.p told.p_last).row ≡ (stands t.p p_last).row = x.row_is ∙ (λ i. hour_bytes (store_after now).widths (metrics i) (base i) ++ flat_map (pair_bytes (store_after now).widths) (pairs i)) ∙ sym y.row_is in
            let rp = row_has f.at at_in f.found f.reply t.p p_last (row_is ∙ ap point_row same) in
            let rq = in_row f.at at_in f.found f.reply (reading_of t.p) rp t.q q_last meet in
            let dp = rp.reads.dot in
            let dq = rq.reads.dot in
            let key_p : rp.reads.dot_reads.key ≡ f.conflict.key = one_key (store_after now).widths rp.reads.dot_reads.key f.conflict.key rp.reads.dot_reads.is_key f.conflict.is_key (sym rp.reads.dot_reads.row_is ∙ ap (λ (r : Row). r.bytes) f.conflict.row_is) in
            let key_q : rq.reads.dot_reads.key ≡ f.conflict.key = one_key (store_after now).widths rq.reads.dot_reads.key f.conflict.key rq.reads.dot_reads.is_key f.conflict.is_key (sym rq.reads.dot_reads.row_is ∙ ap (λ (r : Row). r.bytes) f.conflict.row_is) in
            let time_p : t.p.time ≡ f.conflict.key.base * 1000 + dp.item.offset = rp.reads.dot_reads.time_is ∙ ap (λ (z : RowKey). z.base * 1000 + dp.item.offset) key_p in
            let time_q : t.q.time ≡ f.conflict.key.base * 1000 + dq.item.offset = rq.reads.dot_reads.time_is ∙ ap (λ (z : RowKey). z.base * 1000 + dq.item.offset) key_q in
            let times : t.p.time ≡ t.q.time = both_told.time in
            let offsets : dq.item.offset ≡ dp.item.offset = omega (arith, time_p, time_q, times) in
            let in_p = dot_in f.found.cells f.conflict.dots rp.cell rp.reads.dots dp f.conflict.are_dots rp.among rp.reads.reads rp.reads.among in
            let in_q = dot_in f.found.cells f.conflict.dots rq.cell rq.reads.dots dq f.conflict.are_dots rq.among rq.reads.reads rq.reads.among in
            let has_p : Contains (values_at dp.item.offset f.conflict.dots) t.p.value = subst (Contains (values_at dp.item.offset f.conflict.dots)) (sym rp.reads.dot_reads.value_is) (dot_value f.conflict.dots dp dp.item.offset in_p refl) in
            let has_q : Contains (values_at dp.item.offset f.conflict.dots) t.q.value = subst (Contains (values_at dp.item.offset f.conflict.dots)) (sym rq.reads.dot_reads.value_is) (dot_value f.conflict.dots dq dp.item.offset in_q offsets) in
            let w = two_differ (values_at dp.item.offset f.conflict.dots) t.p.value t.q.value has_p has_q both_told.apart in
            let lower : time ≤ t.p.time = f.least t.p.time w.0.0 w.0.1
            (record {
              key = f.conflict.key;
              is_key = f.conflict.is_key;
              row_is = f.conflict.row_is;
              offset = dp.item.offset;
              time_is = time_p;
              dots = f.conflict.dots;
              are_dots = f.conflict.are_dots;
              values = w.1;
              reading = reading_of t.p;
              reads = rp;
              at_time = refl;
              asked = wanted_p;
            }) in
            ap (λ n. is_le (nat_cmp n t.p.time)) told.time_is ∙ is_le-from_le time t.p.time lower

        least : is_le (conflict_cmp c0 d) ≡ true
        least =
            ap (λ (x : Conflict). is_le (conflict_cmp c0 x)) (sym t.is) ∙ ap is_le conflict_order
            ∙ by_three (nat_cmp k0.base k.base) (slice_cmp pair_cmp k0.pairs.items k.pairs.items) (nat_cmp told.p.time t.p.time) (λ e. not_before (rows_are ∙ e)) not_earlier

        -- one of the same row and time has the same values
        same_values : AtOnce c0 d → (t.p.value ≡ told.p.value) × (t.q.value ≡ told.q.value)
        same_values once =
            let pairs : k0.pairs.items ≡ k.pairs.items = sym (pairs_are_ids told.p told.p_last) ∙ once.pairs ∙ ap (λ (x : Conflict). x.pairs) (sym t.is) ∙ pairs_are_ids t.p p_last in
            let x = (stands told.p told.p_last).reads.dot_reads in
            let y = (stands t.p p_last).reads.dot_reads in
            let tags : told.p.tags ≡ t.p.tags = tags_once (name_of now) k0.pairs.items k.pairs.items told.p.tags t.p.tags pairs x.tags_are y.tags_are in
            let named : told.p.metric ≡ t.p.metric = metric_of told.p p_in ∙ sym (metric_of t.p t.p_in) in
            let timed : told.p.time ≡ t.p.time = once.time ∙ ap (λ (x : Conflict). x.time) (sym t.is) in (
              one_place points t.p told.p p_last told.p_last (λ i. ((sym named i, sym tags i), (both_told.coarse ∙ sym two.coarse) i)) (sym timed),
              one_place points t.q told.q q_last told.q_last (λ i. (((sym both_told.metric ∙ sym named ∙ two.metric) i, (sym both_told.tags ∙ sym tags ∙ two.tags) i), (both_told.fine ∙ sym two.fine) i)) (sym both_told.time ∙ sym timed ∙ two.time),
            )

      -- the conflict that is told is the first one
      pub conflict_is_first : first_conflict names points_wanted ≡ Some (time, a, b)
      conflict_is_first =
          let ff = first_found (conflicts names points_wanted) c0 (among_conflicts names points_wanted told.p told.q p_in q_in told.conflict_is) (λ d has. least d (two_points names points_wanted d has)) in
          let t = two_points names points_wanted ff.conflict ff.among in
          let values = same_values ff.conflict t ff.same in
          let at_time : (ff.conflict).time ≡ time = sym ff.same.time ∙ told.time_is in
          let first_ : (ff.conflict).a ≡ a = ap (λ (x : Conflict). x.a) (sym t.is) ∙ values.0 ∙ told.p_value in
          let second : (ff.conflict).b ≡ b = ap (λ (x : Conflict). x.b) (sym t.is) ∙ values.1 ∙ told.q_value in
          ap (option_map {U = ℕ × ℤ × ℤ} (λ (c : Conflict). (c.time, c.a, c.b))) ff.is ∙ (λ i. Some (at_time i, first_ i, second i))

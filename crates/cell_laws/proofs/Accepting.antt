-- What stands was accepted, and what was accepted stands.
use Rattle.std.proofs.Common.{◌≡◌, ◌⊎◌, inl, inr, ℕ, ◌+◌, ◌*◌, List, [], ◌∷◌, ◌++◌, refl, sym, ap, subst, ◌∙◌, arith}
use Rattle.std.specs.Prelude.{◌%◌, Option, None, Some, Contains}
use Rattle.std.specs.declared.cmp.Ordering.TheVariants.{Less, Greater}
use Rattle.std.specs.Ordering.{ordering_reverse}
use Rattle.std.specs.Cmp.Lexicographic.{nat_list_cmp_total}
use Rattle.tsd_base.specs.declared.kinds.Kind.{Kind}
use Rattle.tsd_base.specs.declared.kinds.Kind.TheVariants.{Metric, TagKey, TagValue}
use Rattle.tsd_base.specs.Alphabet.{IsName}
use Rattle.tsd_base.specs.TagList.{Pair}
use Rattle.tsd_base.specs.Points.{DataPoint}
use Rattle.row_key.specs.declared.tables.Table.TheVariants.{Points}
use Rattle.row_hours.specs.declared.hours.TheConstants.{HOUR_MILLIS}
use Rattle.row_key.specs.declared.keys.RowKey.{RowKey}
use Rattle.list_lemmas.specs.BytesOrder.{bytes_cmp}
use Rattle.qual_codec.specs.declared.cells.Dot.{Dot}
use Rattle.qual_codec.specs.CellDots.{ArePieces, HoldsDots, IsColumn, IsDots, column_qual}
use Rattle.qual_codec.specs.Spelling.{dot_of}
use Rattle.cell_model.specs.declared.row.Row.{Row}
use Rattle.cell_model.specs.declared.events.Step.{Step}
use Rattle.cell_model.specs.declared.events.Step.TheVariants.{Open, Read, NextRow, Bump, Claim, PutPoint, AppendPoint, PutMerged, DropCells}
use Rattle.cell_model.specs.declared.events.Entry.{Entry}
use Rattle.cell_model.specs.Store.{value_at, or_nothing}
use Rattle.cell_model.specs.Machine.{after, kind_qual}
use Rattle.cell_model.specs.History.{History, base_of, len, store_after, Had}
use Rattle.cell_model.specs.Layout.{base_time}
use Rattle.cell_laws.proofs.Beginnings.{Begins}
use Rattle.cell_model.specs.History.History.{Base, Then}
use Rattle.cell_laws.proofs.Beginnings.Begins.{whole, longer}
use Rattle.row_key.specs.Key.{IsKey, key_bytes}
use Rattle.cell_model.specs.KindWidths.{Widths, kind_bytes}
use Rattle.cell_model.specs.IdRows.{id_row, id_of, name_of}
use Rattle.cell_laws.proofs.SameWidths.{carry, carry_back}
use Rattle.cell_model.specs.Lawful.{IsLawful, MayStep, HadCell, Wrote}
use Rattle.cell_laws.specs.Laws.{IsPutInRow, AcceptedInRow, StandingWasAccepted, StandingWasAcceptedInRow, AcceptedTimesStand, StandingIsAccepted}
use Rattle.cell_model.specs.Readings.{Reading, reading_of, Meets, point_row, IsNamed, Named, DotReads, CellReads, IsStanding, IsPut, AcceptedBy, Accepted}
use Rattle.list_lemmas.proofs.ListMembers.{here, split, not_in}
use Rattle.list_lemmas.proofs.SameLists.{same_rising}
use Rattle.qual_codec.proofs.CallerLemmas.{one_dots, piece_of_cell, pieces_more}
use Rattle.std.proofs.lemmas.List.Elements.{Contains-append_cases, Contains-append_right}
use Rattle.row_key.proofs.CallerLemmas.{one_key}
use Rattle.list_lemmas.proofs.BoolTests.{not_Some, same_Some}
use Rattle.cell_laws.proofs.Keeps.{stood, lawful_begins}
use Rattle.cell_laws.proofs.Entries.{entry_at-more, entry_at-last}
use Rattle.cell_laws.proofs.Ids.{base_begins, value_keeps, reverse_uid, trans_begins}
use Rattle.cell_laws.proofs.LawsHold.{names_back}
use Rattle.cell_laws.proofs.Known.{had_cell, value-written}
use Rattle.cell_laws.proofs.Keep.{cell_split}
use Rattle.cell_laws.proofs.KeptLater.{offset_stands}
use Rattle.cell_laws.proofs.Columns.{Changes, column_changes, column_or_not}
use Rattle.cell_laws.proofs.Columns.Changes.{stays, grows}
use Rattle.cell_laws.proofs.Written.{moved, Appending, append_reads, column_reads, Basis, metric_resolves, key_resolves, value_resolves}

pub name_keeps : {h0 h : History} (kind : Kind) (id : ℕ) (name : List ℕ) → Begins h0 h → IsLawful h → name_of h0 kind id ≡ Some name → name_of h kind id ≡ Some name
name_keeps {h0} {h} kind id name b l is =
    carry b (λ (w : Widths). value_at (store_after h) (id_row w kind id) (kind_qual kind) ≡ Some name) (value_keeps (id_row (store_after h0).widths kind id) (kind_qual kind) name b l (reverse_uid (kind_bytes (store_after h0).widths kind id) (kind_qual kind)) is)

-- names that are found by the one function are found by the other
abbrev pub Finds : (Kind → ℕ → Option (List ℕ)) → (Kind → ℕ → Option (List ℕ)) → Type 0
Finds names more = (kind : Kind) (id : ℕ) (name : List ℕ) → names kind id ≡ Some name → more kind id ≡ Some name

named_by : {names more : Kind → ℕ → Option (List ℕ)} (p : ℕ × ℕ) (t : Pair) → Finds names more → IsNamed names p t → IsNamed more p t
named_by p t f n = (f TagKey p.0 t.0 n.0, f TagValue p.1 t.1 n.1)

-- a reading is one by the other names too
pub cell_by : {w : Widths} {names more : Kind → ℕ → Option (List ℕ)} (row qual value : List ℕ) (r : Reading) → Finds names more → CellReads w names row qual value r → CellReads w more row qual value r
cell_by row qual value r f c =
    let d = c.dot_reads in
    let t = d.tags_are in
    record {
      dots = c.dots;
      reads = c.reads;
      dot = c.dot;
      among = c.among;
      dot_reads = record {
        key = d.key;
        is_key = d.is_key;
        row_is = d.row_is;
        metric_is = f Metric d.key.metric r.metric d.metric_is;
        time_is = d.time_is;
        value_is = d.value_is;
        tags_are = record {
          rising = t.rising;
          each = λ p x. let w = t.each p x in (w.0, w.1, named_by p w.0 f w.2);
          back = λ y x. let w = t.back y x in (w.0, w.1, named_by w.0 y f w.2);
        };
      };
    }

-- the data point of a point whose value has so many bytes
abbrev pub put_dot : DataPoint → ℕ → Dot
put_dot point len = dot_of (point.time % HOUR_MILLIS) point.fine point.value len

-- what a point's cell says: it is one data point, which reads as the point, with the names that ids have after the history
pub record PutReads (h : History) (point : DataPoint) (row : Row) (qual value : List ℕ) : Type 0 where
  pub len : ℕ
  pub in_points : row.table ≡ Points
  pub reads : IsDots qual value (put_dot point len ∷ [])
  pub dot_reads : DotReads (store_after h).widths (name_of h) row.bytes (put_dot point len) (reading_of point)
  pub base : dot_reads.key.base ≡ base_time point.time

pub put_reads : (before h : History) (point : DataPoint) (row : Row) (qual value : List ℕ) → Begins before h → IsLawful h → Basis before point row qual value → PutReads h point row qual value
put_reads before h point row qual value b l k =
    let lay = k.layout in
    let has = lay.has in
    let l0 = lawful_begins b l in
    let m = metric_resolves before point row qual value k in
    let back : (kind : Kind) (name : List ℕ) (id n : ℕ) → IsName name → id_of before kind name ≡ Some id → id ≡ n → name_of h kind n ≡ Some name =
    λ kind name id n ok is same. name_keeps kind n name b l (ap (name_of before kind) (sym same) ∙ names_back before kind name id l0 ok is) in
    let named : (p : ℕ × ℕ) (t : Pair) → Contains point.tags t → k.ids TagKey t.0 ≡ p.0 → k.ids TagValue t.1 ≡ p.1 → IsNamed (name_of h) p t =
    λ p t c x y.
    let w = key_resolves before point row qual value k t c in
    let v = value_resolves before point row qual value k t c in
    (back TagKey t.0 _ p.0 w.is_name w.id_is x, back TagValue t.1 _ p.1 v.is_name v.id_is y) in
    let base = has.base in
    record {
      len = _;
      in_points = k.in_points;
      reads = lay.dot;
      base = base;
      dot_reads = record {
        key = lay.key;
        is_key = carry b (λ (w : Widths). IsKey w lay.key) has.is_key;
        row_is = carry b (λ (w : Widths). row.bytes ≡ key_bytes w lay.key) lay.row_is;
        metric_is = back Metric point.metric _ _ m.is_name m.id_is (sym has.metric);
        tags_are = record {
          rising = k.is_point.tags.rising;
          each = λ p c. let w = has.each_pair p c in (w.0, w.1, named p w.0 w.1 (ap (λ (x : ℕ × ℕ). x.0) w.2) (ap (λ (x : ℕ × ℕ). x.1) w.2));
          back = λ t c. ((k.ids TagKey t.0, k.ids TagValue t.1), has.each_tag t c, named (k.ids TagKey t.0, k.ids TagValue t.1) t c refl refl);
        };
        time_is = omega (arith, base);
        value_is = refl;
      };
    }

points_row : (row : Row) → row.table ≡ Points → row ≡ point_row row.bytes
points_row row e i = record { table = e i; bytes = row.bytes }

tag_same : (names : Kind → ℕ → Option (List ℕ)) (p : ℕ × ℕ) (s t : Pair) → IsNamed names p s → IsNamed names p t → s ≡ t
tag_same names p s t x y = let k = same_Some s.0 t.0 (sym x.0 ∙ y.0) in let v = same_Some s.1 t.1 (sym x.1 ∙ y.1) in λ i. (k i, v i)

below_asym : (s t : Pair) → bytes_cmp s.0 t.0 ≡ Less → bytes_cmp t.0 s.0 ≡ Less → ⊥
below_asym s t x y = let z : Less ≡ Greater = sym x ∙ nat_list_cmp_total.antisymm s.0 t.0 ∙ ap ordering_reverse y in cc

-- ids are those of one list of tags
pub tags_once : (names : Kind → ℕ → Option (List ℕ)) (ps qs : List (ℕ × ℕ)) (a b : List Pair) → ps ≡ qs → Named names ps a → Named names qs b → a ≡ b
tags_once names ps qs a b same x y = same_rising (λ s t. bytes_cmp s.0 t.0 ≡ Less) below_asym a b x.rising y.rising
    (λ t c. let p = x.back t c in let w = y.each p.0 (subst (λ (l : List (ℕ × ℕ)). Contains l p.0) same p.1) in subst (Contains b) (tag_same names p.0 w.0 t w.2 p.2) w.1)
    (λ t c. let p = y.back t c in let w = x.each p.0 (subst (λ (l : List (ℕ × ℕ)). Contains l p.0) (sym same) p.1) in subst (Contains a) (tag_same names p.0 w.0 t w.2 p.2) w.1)

-- a data point of a row has one reading
reading_once : (w : Widths) (names : Kind → ℕ → Option (List ℕ)) (row : List ℕ) (d : Dot) (r s : Reading) → DotReads w names row d r → DotReads w names row d s → r ≡ s
reading_once w names row d r s x y =
    let k : x.key ≡ y.key = one_key w x.key y.key x.is_key y.is_key (sym x.row_is ∙ y.row_is) in
    let metric = same_Some r.metric s.metric (sym x.metric_is ∙ ap (λ (z : RowKey). names Metric z.metric) k ∙ y.metric_is) in
    let tags = tags_once names x.key.pairs.items y.key.pairs.items r.tags s.tags (ap (λ (z : RowKey). z.pairs.items) k) x.tags_are y.tags_are in
    let time = x.time_is ∙ ap (λ (z : RowKey). z.base * 1000 + d.item.offset) k ∙ sym y.time_is in
    let value = x.value_is ∙ sym y.value_is in
    λ i. record { metric = metric i; tags = tags i; time = time i; value = value i }

accepted_more : (names : Kind → ℕ → Option (List ℕ)) (h : History) (e : Entry) (row : List ℕ) (r : Reading) → AcceptedInRow names h row r → AcceptedInRow names (Then h e) row r
accepted_more names h e row r (inl based) = inl based
accepted_more names h e row r (inr w) = inr (w.0, (w.1.0, entry_at-more h e w.0 w.1.0 w.1.1), w.2)

only_dot : (x d : Dot) → Contains (x ∷ []) d → x ≡ d
only_dot x d c = at (split x d [] c)
  where
    at : (x ≡ d) ⊎ Contains [] d → x ≡ d
    at (inl same) = same
    at (inr none) = absurd (not_in d none)

wrote_in_row : (h0 h : History) (e : Entry) (step : Step) → Begins h0 h → IsLawful h → (row : Row) (q v : List ℕ) (r : Reading) → ((a b : List ℕ) → HadCell h0 row a b → CellReads (store_after h).widths (name_of h) row.bytes a b r → AcceptedInRow (name_of h) h0 row.bytes r)
    → (IsPutInRow row.bytes step r → IsPutInRow row.bytes e.step r) → Wrote row q v step → MayStep h0 e.caller step → CellReads (store_after h).widths (name_of h) row.bytes q v r → AcceptedInRow (name_of h) (Then h0 e) row.bytes r
wrote_in_row h0 h e (PutPoint point p qual value) b l row q v r go put w may c =
    let x = put_reads h0 h point p qual value b l may in
    let dot = put_dot point x.len in
    let reads : IsDots q v (dot ∷ []) = moved qual value q v (dot ∷ []) w.1 w.2 x.reads in
    let same : dot ≡ c.dot = only_dot dot c.dot (subst (λ (ds : List Dot). Contains ds c.dot) (one_dots q v c.dots (dot ∷ []) c.reads (inl reads)) c.among) in
    let here : DotReads (store_after h).widths (name_of h) row.bytes c.dot (reading_of point) = subst (λ (y : Row). DotReads (store_after h).widths (name_of h) y.bytes c.dot (reading_of point)) w.0 (subst (λ (d : Dot). DotReads (store_after h).widths (name_of h) p.bytes d (reading_of point)) same x.dot_reads) in
    inr (e, (len h0 + 1, entry_at-last h0 e), put (points_row p x.in_points ∙ ap (λ (y : Row). point_row y.bytes) w.0, reading_once (store_after h).widths (name_of h) row.bytes c.dot (reading_of point) r here c.dot_reads))
wrote_in_row h0 h e (PutMerged p qual value) b l row q v r go put w may c =
    let reads : IsDots q v may.dots = moved qual value q v may.dots w.1 w.2 may.reads in
    let had = may.each c.dot (subst (λ (ds : List Dot). Contains ds c.dot) (one_dots q v c.dots may.dots c.reads (inl reads)) c.among) in
    accepted_more (name_of h) h0 e row.bytes r (go had.0 had.1 (subst (λ (x : Row). HadCell h0 x had.0 had.1) w.0 had.3) (record { dots = had.2; reads = inl had.4; dot = c.dot; among = had.5; dot_reads = c.dot_reads }))
wrote_in_row h0 h e (AppendPoint point p piece) b l row q v r go put w may c = absurd w
wrote_in_row h0 h e Open b l row q v r go put w may c = absurd w
wrote_in_row h0 h e (Read p) b l row q v r go put w may c = absurd w
wrote_in_row h0 h e (NextRow t x y) b l row q v r go put w may c = absurd w
wrote_in_row h0 h e (Bump k) b l row q v r go put w may c = absurd w
wrote_in_row h0 h e (Claim p x y) b l row q v r go put w may c = absurd w
wrote_in_row h0 h e (DropCells p which) b l row q v r go put w may c = absurd w

-- what a cell that was there reads was accepted
had_in_row : (h0 h : History) → Begins h0 h → IsLawful h → (row : Row) (q v : List ℕ) (r : Reading) → row.table ≡ Points → HadCell h0 row q v → CellReads (store_after h).widths (name_of h) row.bytes q v r → AcceptedInRow (name_of h) h0 row.bytes r
had_in_row (Base base) h b l row q v r t (inl based) c =
    inl (record { qual = q; value = v; stands = ap (λ (x : Row). value_at base x q) (sym (points_row row t)) ∙ based; reads = carry_back b (λ (w : Widths). CellReads w (name_of h) row.bytes q v r) c })
had_in_row (Base base) h b l row q v r t (inr w) c = absurd (not_Some w.0 (sym w.1.1))
had_in_row (Then h0 e) h b l row q v r t had c =
    let before = trans_begins (longer whole) b in
    elim (cell_split h0 e row q v had) [
      | inl earlier ↦ accepted_more (name_of h) h0 e row.bytes r (had_in_row h0 h before l row q v r t earlier c)
      | inr w ↦ wrote_in_row h0 h e e.step before l row q v r (λ a d x y. had_in_row h0 h before l row a d r t x y) (λ x. x) w (lawful_begins b l).1.may c
    ]

-- ---- the column

-- the data point of a point that is appended
pub record AppendReads (h : History) (point : DataPoint) (row : Row) (piece : List ℕ) : Type 0 where
  pub dot : Dot
  pub reads : ArePieces piece (dot ∷ [])
  pub dot_reads : DotReads (store_after h).widths (name_of h) row.bytes dot (reading_of point)

pub appended_reads : (before h : History) (point : DataPoint) (row : Row) (piece : List ℕ) → Begins before h → IsLawful h → Appending before point row piece → AppendReads h point row piece
appended_reads before h point row piece b l may =
    let x = put_reads before h point row may.qual may.value b l may.put in
    record { dot = put_dot point x.len; reads = subst (λ (y : List ℕ). ArePieces y (put_dot point x.len ∷ [])) (sym may.piece_is) (piece_of_cell may.qual may.value (put_dot point x.len) x.reads); dot_reads = x.dot_reads }

-- the pieces of a column are a column's dots
as_column : (v : List ℕ) (ds : List Dot) → ArePieces v ds → HoldsDots column_qual v ds
as_column v ds are = inr (record { qual_is = refl; pieces = are })

-- what the column reads was accepted
column_in_row : (h0 h : History) → Begins h0 h → IsLawful h → (row : Row) (v : List ℕ) (r : Reading) → row.table ≡ Points → value_at (store_after h0) row column_qual ≡ Some v → CellReads (store_after h).widths (name_of h) row.bytes column_qual v r → AcceptedInRow (name_of h) h0 row.bytes r
column_in_row (Base base) h b l row v r t is c =
    inl (record { qual = column_qual; value = v; stands = ap (λ (x : Row). value_at base x column_qual) (sym (points_row row t)) ∙ is; reads = carry_back b (λ (w : Widths). CellReads w (name_of h) row.bytes column_qual v r) c })
column_in_row (Then h0 e) h b l row v r t is c =
    at (column_changes h0 e.caller e.step (store_after h0) (len h0 + 1) row t lb.1.may) (λ w was d. column_in_row h0 h before l row w r t was d)
  where
    names : Kind → ℕ → Option (List ℕ)
    names = name_of h

    before : Begins h0 h
    before = trans_begins (longer whole) b

    lb : IsLawful (Then h0 e)
    lb = lawful_begins b l

    at : Changes (store_after h0) (store_after (Then h0 e)) row e.step → ((w : List ℕ) → value_at (store_after h0) row column_qual ≡ Some w → CellReads (store_after h).widths (name_of h) row.bytes column_qual w r → AcceptedInRow (name_of h) h0 row.bytes r) → AcceptedInRow (name_of h) (Then h0 e) row.bytes r
    at (stays same) go = accepted_more (name_of h) h0 e row.bytes r (go v (sym same ∙ is) c)
    at (grows point piece step now) go = behind (value_at (store_after h0) row column_qual) refl value_is
      where
        value_is : v ≡ or_nothing (value_at (store_after h0) row column_qual) ++ piece
        value_is = same_Some _ _ (sym is ∙ now)

        may : Appending h0 point row piece
        may = subst (MayStep h0 e.caller) step lb.1.may

        x : AppendReads h point row piece
        x = appended_reads h0 h point row piece before l may

        last : x.dot ≡ c.dot → AcceptedInRow (name_of h) (Then h0 e) row.bytes r
        last same =
            let here : DotReads (store_after h).widths (name_of h) row.bytes c.dot (reading_of point) = subst (λ (d : Dot). DotReads (store_after h).widths (name_of h) row.bytes d (reading_of point)) same x.dot_reads in
            inr (e, (len h0 + 1, entry_at-last h0 e), subst (λ (s : Step). IsPutInRow row.bytes s r) (sym step) (points_row row t, reading_once (store_after h).widths (name_of h) row.bytes c.dot (reading_of point) r here c.dot_reads))

        behind : (o : Option (List ℕ)) → value_at (store_after h0) row column_qual ≡ o → v ≡ or_nothing o ++ piece → AcceptedInRow (name_of h) (Then h0 e) row.bytes r
        behind None was parts =
            let reads = subst (λ (y : List ℕ). HoldsDots column_qual y c.dots) parts c.reads in
            last (only_dot x.dot c.dot (subst (λ (ds : List Dot). Contains ds c.dot) (one_dots column_qual piece c.dots (x.dot ∷ []) reads (as_column piece (x.dot ∷ []) x.reads)) c.among))
        behind (Some w) was parts =
            let old = column_reads h0 row w lb.0 t was in
            let reads = subst (λ (y : List ℕ). HoldsDots column_qual y c.dots) parts c.reads in
            let same = one_dots column_qual (w ++ piece) c.dots (old.0 ++ x.dot ∷ []) reads (as_column (w ++ piece) (old.0 ++ x.dot ∷ []) (pieces_more w piece old.0 (x.dot ∷ []) old.1 x.reads)) in
            elim (Contains-append_cases old.0 (x.dot ∷ []) c.dot (subst (λ (ds : List Dot). Contains ds c.dot) same c.among)) [
              | inl early ↦ accepted_more (name_of h) h0 e row.bytes r (go w was (record { dots = old.0; reads = as_column w old.0 old.1; dot = c.dot; among = early; dot_reads = c.dot_reads }))
              | inr late ↦ last (only_dot x.dot c.dot late)
            ]

-- what a cell that stood reads was accepted
stood_in_row : (h0 h : History) → Begins h0 h → IsLawful h → (row : Row) (q v : List ℕ) (r : Reading) → row.table ≡ Points → value_at (store_after h0) row q ≡ Some v → CellReads (store_after h).widths (name_of h) row.bytes q v r → AcceptedInRow (name_of h) h0 row.bytes r
stood_in_row h0 h b l row q v r t is c = at (column_or_not q)
  where
    at : (q ≡ column_qual) ⊎ (q ≡ column_qual → ⊥) → AcceptedInRow (name_of h) h0 row.bytes r
    at (inl same) = column_in_row h0 h b l row v r t (ap (value_at (store_after h0) row) (sym same) ∙ is) (subst (λ (x : List ℕ). CellReads (store_after h).widths (name_of h) row.bytes x v r) same c)
    at (inr other) = had_in_row h0 h b l row q v r t (had_cell h0 row q v (lawful_begins b l) t other is) c

-- what was accepted in a row was accepted
put_somewhere : (row : List ℕ) (step : Step) (r : Reading) → IsPutInRow row step r → IsPut step r
put_somewhere row (PutPoint point p qual value) r put = put.1
put_somewhere row (AppendPoint point p piece) r put = put.1
put_somewhere row Open r put = absurd put
put_somewhere row (Read p) r put = absurd put
put_somewhere row (NextRow t x y) r put = absurd put
put_somewhere row (Bump k) r put = absurd put
put_somewhere row (Claim p x y) r put = absurd put
put_somewhere row (PutMerged p x y) r put = absurd put
put_somewhere row (DropCells p which) r put = absurd put

somewhere : (names : Kind → ℕ → Option (List ℕ)) (h : History) (row : List ℕ) (r : Reading) → AcceptedInRow names h row r → AcceptedBy names h r
somewhere names h row r (inl f) = inl (record { row = row; qual = f.qual; value = f.value; stands = f.stands; reads = f.reads })
somewhere names h row r (inr w) = inr (w.0, w.1, put_somewhere row w.0.step r w.2)

pub had_accepted : (h0 h : History) → Begins h0 h → IsLawful h → (row : Row) (q v : List ℕ) (r : Reading) → row.table ≡ Points → HadCell h0 row q v → CellReads (store_after h).widths (name_of h) row.bytes q v r → AcceptedBy (name_of h) h0 r
had_accepted h0 h b l row q v r t had c = somewhere (name_of h) h0 row.bytes r (had_in_row h0 h b l row q v r t had c)

pub stood_accepted : (h0 h : History) → Begins h0 h → IsLawful h → (row : Row) (q v : List ℕ) (r : Reading) → row.table ≡ Points → value_at (store_after h0) row q ≡ Some v → CellReads (store_after h).widths (name_of h) row.bytes q v r → AcceptedBy (name_of h) h0 r
stood_accepted h0 h b l row q v r t is c = somewhere (name_of h) h0 row.bytes r (stood_in_row h0 h b l row q v r t is c)

pub standing_was_accepted_in_row : StandingWasAcceptedInRow
standing_was_accepted_in_row h row r l f = stood_in_row h h whole l (point_row row) f.qual f.value r refl f.stands f.reads

pub standing_was_accepted : StandingWasAccepted
standing_was_accepted h r l f = stood_accepted h h whole l (point_row f.row) f.qual f.value r refl f.stands f.reads

-- ---- what was accepted stands

-- the cell in which an accepted reading first stood, behind some beginning
record Source (h : History) (r : Reading) : Type 0 where
  row : List ℕ
  qual : List ℕ
  value : List ℕ
  before : History
  begins : Begins before h
  stands : value_at (store_after before) (point_row row) qual ≡ Some value
  reads : CellReads (store_after h).widths (name_of h) row qual value r

-- what a step left in a row's cell, where the row is a point row
step_left : (before : History) (e : Entry) (step : Step) (row : Row) (qual value : List ℕ) → e.step ≡ step → row.table ≡ Points → value_at (after (store_after before) (len before + 1) step) row qual ≡ Some value
    → value_at (store_after (Then before e)) (point_row row.bytes) qual ≡ Some value
step_left before e step row qual value is points left =
    ap (λ (y : Row). value_at (store_after (Then before e)) y qual) (sym (points_row row points)) ∙ ap (λ (s : Step). value_at (after (store_after before) (len before + 1) s) row qual) is ∙ left

put_source : (h : History) (r : Reading) (e : Entry) (step : Step) → e.step ≡ step → IsLawful h → IsPut step r → (before : History) → Begins (Then before e) h → MayStep before e.caller step → Source h r
put_source h r e (PutPoint point row qual value) is l put before b may =
    let x = put_reads before h point row qual value (trans_begins (longer whole) b) l may in
    record {
      row = row.bytes;
      qual = qual;
      value = value;
      before = Then before e;
      begins = b;
      stands = step_left before e (PutPoint point row qual value) row qual value is may.in_points (value-written (store_after before) row qual value _);
      reads = record { dots = put_dot point x.len ∷ []; reads = inl x.reads; dot = put_dot point x.len; among = here (put_dot point x.len) []; dot_reads = subst (DotReads (store_after h).widths (name_of h) row.bytes (put_dot point x.len)) put x.dot_reads };
    }
put_source h r e (AppendPoint point row piece) is l put before b may =
    let lb = lawful_begins b l in
    let x = appended_reads before h point row piece (trans_begins (longer whole) b) l may in
    let points = may.put.in_points in
    let old = value_at (store_after before) row column_qual in
    let all = append_reads old piece x.dot (λ w was. column_reads before row w lb.0 points was) x.reads in
    record {
      row = row.bytes;
      qual = column_qual;
      value = or_nothing old ++ piece;
      before = Then before e;
      begins = b;
      stands = step_left before e (AppendPoint point row piece) row column_qual (or_nothing old ++ piece) is points (value-written (store_after before) row column_qual (or_nothing old ++ piece) _);
      reads = record {
        dots = all.front ++ x.dot ∷ [];
        reads = as_column (or_nothing old ++ piece) (all.front ++ x.dot ∷ []) all.pieces;
        dot = x.dot;
        among = Contains-append_right all.front (x.dot ∷ []) x.dot (here x.dot []);
        dot_reads = subst (DotReads (store_after h).widths (name_of h) row.bytes x.dot) put x.dot_reads;
      };
    }
put_source h r e Open is l put before b may = absurd put
put_source h r e (Read row) is l put before b may = absurd put
put_source h r e (NextRow t x y) is l put before b may = absurd put
put_source h r e (Bump k) is l put before b may = absurd put
put_source h r e (Claim p x y) is l put before b may = absurd put
put_source h r e (PutMerged p x y) is l put before b may = absurd put
put_source h r e (DropCells p which) is l put before b may = absurd put

source : (h : History) (r : Reading) → IsLawful h → Accepted h r → Source h r
source h r l (inl f) = record { row = f.row; qual = f.qual; value = f.value; before = Base (base_of h); begins = base_begins h; stands = f.stands; reads = carry (base_begins h) (λ (w : Widths). CellReads w (name_of h) f.row f.qual f.value r) f.reads }
source h r l (inr w) =
    let st = stood h w.1.0 w.0 w.1.1 in
    put_source h r w.0 w.0.step refl l w.2 st.before st.begins (lawful_begins st.begins l).1.may

pub accepted_times_stand : AcceptedTimesStand
accepted_times_stand h r l acc =
    let f = source h r l acc in
    let c = f.reads in
    let d = c.dot_reads in
    let at = offset_stands f.before h (point_row f.row) f.qual f.value f.begins l refl f.stands c.dots c.reads c.dot c.among in
    let s : Reading = record { metric = r.metric; tags = r.tags; time = r.time; value = at.dot.value } in (
      s,
      record {
        row = f.row;
        qual = at.other;
        value = at.value;
        stands = at.stands;
        reads = record {
          dots = at.dots;
          reads = at.reads;
          dot = at.dot;
          among = at.among;
          dot_reads = record { key = d.key; is_key = d.is_key; row_is = d.row_is; metric_is = d.metric_is; tags_are = d.tags_are; time_is = d.time_is ∙ ap (λ n. d.key.base * 1000 + n) (sym at.offset_is); value_is = refl };
        };
      },
      record { metric = refl; tags = refl; time = refl },
    )

-- a reading that meets another and has its value is that one
pub same_reading : (a b : Reading) → Meets a b → a.value ≡ b.value → b ≡ a
same_reading a b m v = λ i. record { metric = sym m.metric i; tags = sym m.tags i; time = sym m.time i; value = sym v i }

pub standing_is_accepted : StandingIsAccepted
standing_is_accepted h r l one = (λ acc. there acc (accepted_times_stand h r l acc), standing_was_accepted h r l)
  where
    there : Accepted h r → (s : Reading) × IsStanding h s × Meets r s → IsStanding h r
    there acc (s, stands, m) =
        let value = one r s acc (standing_was_accepted h s l stands) m in
        subst (IsStanding h) (same_reading r s m value) stands

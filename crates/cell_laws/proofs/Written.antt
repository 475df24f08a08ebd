-- Each cell that was ever written to a point row reads, and its row's ids are those of names.
use Rattle.std.proofs.Common.{◌≡◌, ◌⊎◌, inl, inr, ℕ, ◌+◌, ◌≤◌, List, [], ◌∷◌, ◌++◌, refl, sym, ap, subst, ◌∙◌, length, arith}
use Rattle.std.specs.Prelude.{◌%◌, Option, None, Some, Contains}
use Rattle.tsd_base.specs.declared.kinds.Kind.{Kind}
use Rattle.tsd_base.specs.declared.kinds.Kind.TheVariants.{Metric, TagKey, TagValue}
use Rattle.tsd_base.specs.Alphabet.{IsName}
use Rattle.tsd_base.specs.TagList.{Pair}
use Rattle.tsd_base.specs.Points.{DataPoint}
use Rattle.row_hours.specs.declared.hours.TheConstants.{HOUR_MILLIS}
use Rattle.row_key.specs.declared.tables.Table.TheVariants.{Points}
use Rattle.qual_codec.specs.declared.cells.Dot.{Dot}
use Rattle.qual_codec.specs.CellDots.{ArePieces, HoldsDots, IsDots, Reads, column_qual, items_of}
use Rattle.qual_codec.specs.Spelling.{dot_of}
use Rattle.qual_codec.proofs.CallerLemmas.{items_no_column, piece_of_cell, pieces_more}
use Rattle.cell_model.specs.declared.row.Row.{Row}
use Rattle.cell_model.specs.declared.events.Step.{Step}
use Rattle.cell_model.specs.declared.events.Step.TheVariants.{Open, Read, NextRow, Bump, Claim, PutPoint, AppendPoint, PutMerged, DropCells}
use Rattle.cell_model.specs.Store.{value_at, or_nothing}
use Rattle.cell_model.specs.History.{History, len, store_after}
use Rattle.cell_laws.proofs.Beginnings.{Begins}
use Rattle.cell_model.specs.History.History.{Base, Then}
use Rattle.cell_laws.proofs.Beginnings.Begins.{whole, longer}
use Rattle.cell_model.specs.IdRows.{id_of}
use Rattle.row_key.specs.Key.{IsKey, key_bytes}
use Rattle.cell_model.specs.KindWidths.{Widths}
use Rattle.cell_model.specs.Layout.{RowResolved, names_of, tag_names}
use Rattle.cell_laws.proofs.SameWidths.{carry}
use Rattle.cell_model.specs.Lawful.{IsLawful, MayStep, PointBasis, AppendBasis, HadCell, Wrote}
use Rattle.cell_laws.specs.Laws.{EachReads}
use Rattle.list_lemmas.proofs.ListMembers.{here, there}
use Rattle.cell_laws.proofs.Points.{point_name, tag_in}
use Rattle.list_lemmas.proofs.BoolTests.{not_Some, same_Some}
use Rattle.cell_laws.proofs.LawsHold.{id_keeps}
use Rattle.cell_laws.proofs.Known.{had_cell}
use Rattle.cell_laws.proofs.Keep.{cell_split}
use Rattle.cell_laws.proofs.Columns.{Changes, column_changes, column_or_not}
use Rattle.cell_laws.proofs.Columns.Changes.{stays, grows}

pub moved : (qual value q v : List ℕ) (dots : List Dot) → qual ≡ q → value ≡ v → IsDots qual value dots → IsDots q v dots
moved qual value q v dots e f r = subst (λ x. IsDots x v dots) e (subst (λ x. IsDots qual x dots) f r)

wrote_reads : (h : History) (caller : ℕ) (row : Row) (q v : List ℕ) (step : Step) → MayStep h caller step → Wrote row q v step → Reads q v
wrote_reads h caller row q v Open may w = absurd w
wrote_reads h caller row q v (Read r) may w = absurd w
wrote_reads h caller row q v (NextRow table from to) may w = absurd w
wrote_reads h caller row q v (Bump kind) may w = absurd w
wrote_reads h caller row q v (Claim r qual value) may w = absurd w
wrote_reads h caller row q v (PutPoint point r qual value) may w = (_, inl (moved qual value q v _ w.1 w.2 may.layout.dot))
wrote_reads h caller row q v (AppendPoint point r piece) may w = absurd w
wrote_reads h caller row q v (PutMerged r qual value) may w = (_, inl (moved qual value q v _ w.1 w.2 may.reads))
wrote_reads h caller row q v (DropCells r which) may w = absurd w

pub had_reads : (h : History) (row : Row) (q v : List ℕ) → IsLawful h → row.table ≡ Points → HadCell h row q v → Reads q v
had_reads (Base base) row q v l p (inl is) = l.sound.cells row q v p is
had_reads (Base base) row q v l p (inr w) = absurd (not_Some w.0 (sym w.1.1))
had_reads (Then h last) row q v l p c = at (cell_split h last row q v c) (λ c. had_reads h row q v l.0 p c)
  where
    at : HadCell h row q v ⊎ Wrote row q v last.step → (HadCell h row q v → Reads q v) → Reads q v
    at (inl before) go = go before
    at (inr w) go = wrote_reads h last.caller row q v last.step l.1.may w

-- ---- the column

-- the bytes are pieces
abbrev pub ReadsPieces : List ℕ → Type 0
ReadsPieces v = (ds : List Dot) × ArePieces v ds

pub column_dots : (v : List ℕ) (ds : List Dot) → HoldsDots column_qual v ds → ArePieces v ds
column_dots v ds (inl d) = absurd (items_no_column column_qual (items_of ds) d.items refl)
column_dots v ds (inr c) = c.pieces

abbrev pub Appending : History → DataPoint → Row → List ℕ → Type 0
Appending h point row piece = AppendBasis (store_after h).widths (λ kind name id. id_of h kind name ≡ Some id) point row piece

-- what is appended is its point's piece
pub piece_reads : (h : History) (p : DataPoint) (row : Row) (piece : List ℕ) → (b : Appending h p row piece) → ArePieces piece (dot_of (p.time % HOUR_MILLIS) p.fine p.value (length b.value) ∷ [])
piece_reads h p row piece b =
    let d : Dot = dot_of (p.time % HOUR_MILLIS) p.fine p.value (length b.value) in
    subst (λ (x : List ℕ). ArePieces x (d ∷ [])) (sym b.piece_is) (piece_of_cell b.qual b.value d b.put.layout.dot)

-- behind what stood there it is the last one
pub record ReadsLast (v : List ℕ) (d : Dot) : Type 0 where
  pub front : List Dot
  pub pieces : ArePieces v (front ++ d ∷ [])

pub append_reads : (o : Option (List ℕ)) (piece : List ℕ) (d : Dot) → ((w : List ℕ) → o ≡ Some w → ReadsPieces w) → ArePieces piece (d ∷ []) → ReadsLast (or_nothing o ++ piece) d
append_reads None piece d old is = record { front = []; pieces = is }
append_reads (Some w) piece d old is = let a = old w refl in record { front = a.0; pieces = pieces_more w piece a.0 (d ∷ []) a.1 is }

pub column_reads : (h : History) (row : Row) (v : List ℕ) → IsLawful h → row.table ≡ Points → value_at (store_after h) row column_qual ≡ Some v → ReadsPieces v
column_reads (Base base) row v l p is = let r = l.sound.cells row column_qual v p is in (r.0, column_dots v r.0 r.1)
column_reads (Then h e) row v l p is = at (column_changes h e.caller e.step (store_after h) (len h + 1) row p l.1.may) (λ w was. column_reads h row w l.0 p was)
  where
    at : Changes (store_after h) (store_after (Then h e)) row e.step → ((w : List ℕ) → value_at (store_after h) row column_qual ≡ Some w → ReadsPieces w) → ReadsPieces v
    at (stays same) go = go v (sym same ∙ is)
    at (grows point piece step now) go =
        let may : Appending h point row piece = subst (MayStep h e.caller) step l.1.may in
        let r = append_reads (value_at (store_after h) row column_qual) piece _ go (piece_reads h point row piece may) in
        subst ReadsPieces (same_Some _ _ (sym now ∙ is)) (_, r.pieces)

pub each_reads : EachReads
each_reads h row q v l p is = at (column_or_not q)
  where
    at : (q ≡ column_qual) ⊎ (q ≡ column_qual → ⊥) → Reads q v
    at (inl same) = let r = column_reads h row v l p (ap (value_at (store_after h) row) (sym same) ∙ is) in (r.0, inr (record { qual_is = same; pieces = r.1 }))
    at (inr other) = had_reads h row q v l p (had_cell h row q v l p other is)

-- a row keeps its names
pub resolved_keeps : {h0 h : History} (row : List ℕ) → Begins h0 h → IsLawful h → RowResolved (store_after h0).widths (id_of h0) row → RowResolved (store_after h).widths (id_of h) row
resolved_keeps row b l r = record {
  key = r.key;
  is_key = carry b (λ (w : Widths). IsKey w r.key) r.is_key;
  row_is = carry b (λ (w : Widths). row ≡ key_bytes w r.key) r.row_is;
  name = r.name;
  is_name = r.is_name;
  metric_is = id_keeps Metric r.name r.key.metric b l r.is_name r.metric_is;
  each = λ i c. let w = r.each i c in (w.0, w.1, w.2, id_keeps TagKey w.0.0 i.0 b l w.1 w.3, id_keeps TagValue w.0.1 i.1 b l w.2 w.4);
}

-- each name of a point has its id
pub record Resolves (h : History) (kind : Kind) (name : List ℕ) (id : ℕ) : Type 0 where
  pub is_name : IsName name
  pub id_is : id_of h kind name ≡ Some id

abbrev pub Basis : History → DataPoint → Row → List ℕ → List ℕ → Type 0
Basis h point row q v = PointBasis (store_after h).widths (λ kind name id. id_of h kind name ≡ Some id) point row q v

pub point_resolves : (h : History) (p : DataPoint) (row : Row) (q v : List ℕ) → (b : Basis h p row q v) → (kind : Kind) (name : List ℕ) → Contains (names_of p) (kind, name) → Resolves h kind name (b.ids kind name)
point_resolves h p row q v b kind name c = record { is_name = point_name p kind name b.is_point c; id_is = b.resolved kind name c }

pub metric_resolves : (h : History) (p : DataPoint) (row : Row) (q v : List ℕ) → (b : Basis h p row q v) → Resolves h Metric p.metric (b.ids Metric p.metric)
metric_resolves h p row q v b = point_resolves h p row q v b Metric p.metric (here _ _)

pub key_resolves : (h : History) (p : DataPoint) (row : Row) (q v : List ℕ) → (b : Basis h p row q v) → (t : Pair) → Contains p.tags t → Resolves h TagKey t.0 (b.ids TagKey t.0)
key_resolves h p row q v b t c = point_resolves h p row q v b TagKey t.0 (there _ _ (tag_names p.tags) (tag_in p.tags t c).0)

pub value_resolves : (h : History) (p : DataPoint) (row : Row) (q v : List ℕ) → (b : Basis h p row q v) → (t : Pair) → Contains p.tags t → Resolves h TagValue t.1 (b.ids TagValue t.1)
value_resolves h p row q v b t c = point_resolves h p row q v b TagValue t.1 (there _ _ (tag_names p.tags) (tag_in p.tags t c).1)

-- the row of a point that may be put has its names
pub put_resolved : (h : History) (p : DataPoint) (row : Row) (q v : List ℕ) → Basis h p row q v → RowResolved (store_after h).widths (id_of h) row.bytes
put_resolved h p row q v b =
    let has = b.layout.has in
    let m = metric_resolves h p row q v b in
    record {
      key = b.layout.key;
      is_key = has.is_key;
      row_is = b.layout.row_is;
      name = p.metric;
      is_name = m.is_name;
      metric_is = m.id_is ∙ ap Some (sym has.metric);
      each = λ i c.
          let t = has.each_pair i c in
          let k = key_resolves h p row q v b t.0 t.1 in
          let w = value_resolves h p row q v b t.0 t.1 in
          (t.0, k.is_name, w.is_name, k.id_is ∙ ap (λ (x : ℕ × ℕ). Some x.0) t.2, w.id_is ∙ ap (λ (x : ℕ × ℕ). Some x.1) t.2);
    }

some_dot : (ds : List Dot) → 1 ≤ length (items_of ds) → (d : Dot) × Contains ds d
some_dot [] h = absurd (omega (arith, h))
some_dot (d ∷ ds) h = (d, here d ds)

abbrev Before : History → Row → Type 0
Before h row = (q v : List ℕ) → HadCell h row q v → RowResolved (store_after h).widths (id_of h) row.bytes

wrote_resolved : (h : History) (caller : ℕ) (row : Row) (q v : List ℕ) (step : Step) → MayStep h caller step → Wrote row q v step → Before h row → RowResolved (store_after h).widths (id_of h) row.bytes
wrote_resolved h caller row q v Open may w go = absurd w
wrote_resolved h caller row q v (Read r) may w go = absurd w
wrote_resolved h caller row q v (NextRow table from to) may w go = absurd w
wrote_resolved h caller row q v (Bump kind) may w go = absurd w
wrote_resolved h caller row q v (Claim r qual value) may w go = absurd w
wrote_resolved h caller row q v (PutPoint point r qual value) may w go = subst (λ (x : Row). RowResolved (store_after h).widths (id_of h) x.bytes) w.0 (put_resolved h point r qual value may)
wrote_resolved h caller row q v (AppendPoint point r piece) may w go = absurd w
wrote_resolved h caller row q v (PutMerged r qual value) may w go =
    let d = some_dot may.dots may.reads.items.some in
    let from = may.each d.0 d.1 in
    go from.0 from.1 (subst (λ (x : Row). HadCell h x from.0 from.1) w.0 from.3)
wrote_resolved h caller row q v (DropCells r which) may w go = absurd w

-- the row of each cell that was ever written has its names
pub had_resolved : (h : History) (row : Row) (q v : List ℕ) → IsLawful h → row.table ≡ Points → HadCell h row q v → RowResolved (store_after h).widths (id_of h) row.bytes
had_resolved (Base base) row q v l p (inl is) = l.sound.rows row q v p is
had_resolved (Base base) row q v l p (inr w) = absurd (not_Some w.0 (sym w.1.1))
had_resolved (Then h last) row q v l p c = resolved_keeps row.bytes (longer whole) l (at (cell_split h last row q v c) (λ a b x. had_resolved h row a b l.0 p x))
  where
    at : HadCell h row q v ⊎ Wrote row q v last.step → Before h row → RowResolved (store_after h).widths (id_of h) row.bytes
    at (inl before) go = go q v before
    at (inr w) go = wrote_resolved h last.caller row q v last.step l.1.may w go

-- and so has that of the column
column_resolved : (h : History) (row : Row) (v : List ℕ) → IsLawful h → row.table ≡ Points → value_at (store_after h) row column_qual ≡ Some v → RowResolved (store_after h).widths (id_of h) row.bytes
column_resolved (Base base) row v l p is = l.sound.rows row column_qual v p is
column_resolved (Then h e) row v l p is =
    resolved_keeps row.bytes (longer whole) l (at (column_changes h e.caller e.step (store_after h) (len h + 1) row p l.1.may) (λ was. column_resolved h row v l.0 p was))
  where
    at : Changes (store_after h) (store_after (Then h e)) row e.step → (value_at (store_after h) row column_qual ≡ Some v → RowResolved (store_after h).widths (id_of h) row.bytes) → RowResolved (store_after h).widths (id_of h) row.bytes
    at (stays same) go = go (sym same ∙ is)
    at (grows point piece step now) go = let may : Appending h point row piece = subst (MayStep h e.caller) step l.1.may in put_resolved h point row may.qual may.value may.put

-- the row of each cell that stands has its names
pub row_resolved : (h : History) (row : Row) (q v : List ℕ) → IsLawful h → row.table ≡ Points → value_at (store_after h) row q ≡ Some v → RowResolved (store_after h).widths (id_of h) row.bytes
row_resolved h row q v l p is = at (column_or_not q)
  where
    at : (q ≡ column_qual) ⊎ (q ≡ column_qual → ⊥) → RowResolved (store_after h).widths (id_of h) row.bytes
    at (inl same) = column_resolved h row v l p (ap (value_at (store_after h) row) (sym same) ∙ is)
    at (inr other) = had_resolved h row q v l p (had_cell h row q v l p other is)

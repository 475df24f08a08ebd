-- A row that is read shows a reading of each series and time that was accepted before.
use Rattle.std.proofs.Common.{◌≡◌, ℕ, ◌+◌, ◌*◌, ◌≤◌, List, refl, sym, ap, subst, ◌∙◌}
use Rattle.std.specs.Prelude.{Option, Some, Contains}
use Rattle.tsd_base.specs.declared.kinds.Kind.{Kind}
use Rattle.qual_codec.specs.declared.cells.Cell.{Cell}
use Rattle.row_key.specs.declared.widths.Widths.{Widths}
use Rattle.cell_model.specs.declared.row.Row.{Row}
use Rattle.cell_model.specs.declared.row.Found.{Found}
use Rattle.cell_model.specs.Store.{value_at, cells_of}
use Rattle.cell_model.specs.History.{History, first, store_after}
use Rattle.cell_model.specs.IdRows.{name_of}
use Rattle.cell_model.specs.Lawful.{IsLawful}
use Rattle.cell_model.specs.Readings.{Reading, Meets, point_row, CellReads, Accepted}
use Rattle.cell_laws.proofs.CallerLemmas.{Begins, begins_first, first_first, carry, first_lawful, name_keeps, cell_by, offset_stands, accepted_times_stand}
use Rattle.row_scan.specs.RowReadings.{RowReads}
use Rattle.row_scan.proofs.CallerLemmas.{cell_in}

pub begins_firsts : (n m : ℕ) (h : History) → n ≤ m → Begins (first n h) (first m h)
begins_firsts n m h le = subst (λ x. Begins x (first m h)) (first_first n m h le) (begins_first n (first m h))

-- a reading that stood at a length, by the names of a later one
pub record StoodReading (h : History) (start end : ℕ) (r : Reading) : Type 0 where
  pub row : List ℕ
  pub qual : List ℕ
  pub value : List ℕ
  pub stands : value_at (store_after (first start h)) (point_row row) qual ≡ Some value
  pub reads : CellReads (store_after (first end h)).widths (name_of (first end h)) row qual value r

-- at the series and time of what was accepted a reading stood
pub stood : (h : History) (start end : ℕ) (r : Reading) → IsLawful h → start ≤ end → Accepted (first start h) r → (s : Reading) × StoodReading h start end s × Meets r s
stood h start end r l le accepted =
    let w = accepted_times_stand (first start h) r (first_lawful h start l) accepted in
    let c = w.1 in
    let b = begins_firsts start end h le in (
      w.0,
      record {
        row = c.row;
        qual = c.qual;
        value = c.value;
        stands = c.stands;
        reads = carry b (λ (x : Widths). CellReads x (name_of (first end h)) c.row c.qual c.value w.0) (cell_by c.row c.qual c.value w.0 (λ kind id name is. name_keeps kind id name b (first_lawful h end l) is) c.reads);
      },
      w.2,
    )

reads_at : (width : Widths) (names : Kind → ℕ → Option (List ℕ)) (r : Reading) (a b q w v u : List ℕ) → a ≡ b → q ≡ w → v ≡ u → CellReads width names a q v r → CellReads width names b w u r
reads_at width names r a b q w v u same qual value x =
    subst (λ y. CellReads width names b w y r) value (subst (λ y. CellReads width names b y v r) qual (subst (λ y. CellReads width names y q v r) same x))

-- a row that is found later shows a reading of this series and time
pub shown_reading : (h : History) (start end when : ℕ) (s : Reading) (f : Found) → IsLawful h → (x : StoodReading h start end s) → start ≤ when → f.row ≡ point_row x.row → f.cells ≡ cells_of (store_after (first when h)) f.row
    → (q : Reading) × RowReads (store_after (first end h)).widths (name_of (first end h)) f q × Meets s q
shown_reading h start end when s f l x le row_is cells =
    let store = store_after (first when h) in
    let c = x.reads in
    let d = c.dot_reads in
    let k = offset_stands (first start h) (first when h) (point_row x.row) x.qual x.value (begins_firsts start when h le) (first_lawful h when l) refl x.stands c.dots c.reads c.dot c.among in
    let q : Reading = record { metric = s.metric; tags = s.tags; time = s.time; value = k.dot.value } in
    let reads : CellReads (store_after (first end h)).widths (name_of (first end h)) x.row k.other k.value q = record {
      dots = k.dots;
      reads = k.reads;
      dot = k.dot;
      among = k.among;
      dot_reads = record { key = d.key; is_key = d.is_key; row_is = d.row_is; metric_is = d.metric_is; tags_are = d.tags_are; time_is = d.time_is ∙ ap (λ n. d.key.base * 1000 + n) (sym k.offset_is); value_is = refl };
    } in
    let such = cell_in store f.row k.other k.value (ap (λ (r : Row). value_at store r k.other) row_is ∙ k.stands) in (
      q,
      record {
        cell = such.cell;
        among = subst (λ (cs : List Cell). Contains cs such.cell) (sym cells) such.among;
        reads = reads_at (store_after (first end h)).widths (name_of (first end h)) q x.row f.row.bytes k.other such.cell.qual k.value such.cell.value (sym (ap (λ (r : Row). r.bytes) row_is)) (sym such.qual_is) (sym such.value_is) reads;
      },
      record { metric = refl; tags = refl; time = refl },
    )

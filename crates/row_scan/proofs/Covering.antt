-- A scan shows a reading of each series and time that was accepted when it began.
use Rattle.std.proofs.Common.{◌≡◌, ℕ, ◌+◌, ◌*◌, ◌≤◌, List, refl, sym, ap, subst, ◌∙◌}
use Rattle.std.specs.Prelude.{Bool, Option, Some, Contains, IsTrue}
use Rattle.tsd_base.specs.declared.kinds.Kind.{Kind}
use Rattle.qual_codec.specs.declared.cells.Cell.{Cell}
use Rattle.row_key.specs.declared.widths.Widths.{Widths}
use Rattle.cell_model.specs.declared.row.Row.{Row}
use Rattle.cell_model.specs.declared.row.Found.{Found}
use Rattle.cell_model.specs.Store.{value_at, cells_of}
use Rattle.cell_model.specs.History.{History, first, store_after}
use Rattle.cell_model.specs.IdRows.{name_of}
use Rattle.cell_model.specs.Lawful.{IsLawful}
use Rattle.cell_model.specs.Readings.{Reading, Meets, point_row, CellReads, Accepted}
use Rattle.row_scan.specs.Scans.{IsRowOf, Wanting, IsWanted, HasCell}
use Rattle.row_scan.specs.RowReadings.{RowReads, AsksWithin, AsksOfWanted}
use Rattle.row_scan.specs.Laws.{ScanGives}
use Rattle.row_scan.proofs.CellsOf.{cell_in}
use Rattle.list_lemmas.proofs.BoolTests.{same_Some}
use Rattle.row_scan.proofs.Names.{metric_id, row_stood}
use Rattle.row_scan.proofs.Offsets.{dot_offset, hour_is}
use Rattle.row_scan.proofs.Whole.{begins_firsts, row_stays}
use Rattle.row_scan.proofs.Lower.{begins_first, carry, first_lawful, name_keeps, cell_by, offset_stands, accepted_times_stand}

-- a reading that stood at a length, by the names of a later one
pub record StoodReading (h : History) (start end : ℕ) (r : Reading) : Type 0 where
  pub row : List ℕ
  pub qual : List ℕ
  pub value : List ℕ
  pub stands : value_at (store_after (first start h)) (point_row row) qual ≡ Some value
  pub reads : CellReads (store_after (first end h)).widths (name_of (first end h)) row qual value r

-- at the series and time of what was accepted a reading stood
pub stood : (h : History) (start end : ℕ) (r : Reading) → IsLawful h → start ≤ end → Accepted (first start h) r → (s : Reading) × StoodReading h start end s × Meets r s
stood h start end r l le accepted =
    let w = accepted_times_stand (first start h) r (first_lawful h start l) accepted in
    let c = w.1 in
    let b = begins_firsts start end h le in (
      w.0,
      record {
        row = c.row;
        qual = c.qual;
        value = c.value;
        stands = c.stands;
        reads = carry b (λ (x : Widths). CellReads x (name_of (first end h)) c.row c.qual c.value w.0) (cell_by c.row c.qual c.value w.0 (λ kind id name is. name_keeps kind id name b (first_lawful h end l) is) c.reads);
      },
      w.2,
    )

-- the row of a reading that is asked for is one of the scan's, and wanted
asked_row : (wants : Wanting) (h : History) (start end metric first_base last_base : ℕ) (asked : Reading → Bool) (s : Reading) → IsLawful h → start ≤ end → AsksWithin asked (first end h) metric first_base last_base → AsksOfWanted wants asked (first end h)
    → IsTrue (asked s) → (x : StoodReading h start end s)
    → IsRowOf (store_after (first end h)).widths metric first_base last_base (point_row x.row) × IsWanted (store_after (first end h)).widths wants (point_row x.row)
asked_row wants h start end metric first_base last_base asked s l le within only asks x =
    let c = x.reads in
    let d = c.dot_reads in
    let w = within s asks in
    let hour = hour_is s.time d.key.base c.dot.item.offset d.is_key.hour (dot_offset x.qual x.value c.dots c.dot c.reads c.among) d.time_is in
    let still = row_stays h start end (point_row x.row) l refl le (x.qual, x.value, x.stands) in
    let there = subst (λ (b : List ℕ). HasCell (store_after (first end h)) (point_row b)) d.row_is still in (
      record {
        key = d.key;
        is_key = d.is_key;
        row_is = ap point_row d.row_is;
        metric_is = same_Some _ _ (sym (metric_id (first end h) x.row c.dot s (row_stood h start end x.row x.qual x.value l le x.stands) d) ∙ w.0);
        from_on = subst (λ n. first_base ≤ n) hour w.1;
        up_to = subst (λ n. n ≤ last_base) hour w.2;
      },
      record { key = d.key; is_key = d.is_key; row_is = ap point_row d.row_is; wanted = only d.key s d.is_key there (record { metric_is = d.metric_is; tags_are = d.tags_are; hour_is = hour }) asks },
    )

reads_at : (width : Widths) (names : Kind → ℕ → Option (List ℕ)) (r : Reading) (a b q w v u : List ℕ) → a ≡ b → q ≡ w → v ≡ u → CellReads width names a q v r → CellReads width names b w u r
reads_at width names r a b q w v u same qual value x =
    subst (λ y. CellReads width names b w y r) value (subst (λ y. CellReads width names b y v r) qual (subst (λ y. CellReads width names y q v r) same x))

-- a row that is found later shows a reading of this series and time
shown_reading : (h : History) (start end when : ℕ) (s : Reading) (f : Found) → IsLawful h → (x : StoodReading h start end s) → start ≤ when → f.row ≡ point_row x.row → f.cells ≡ cells_of (store_after (first when h)) f.row
    → (q : Reading) × RowReads (store_after (first end h)).widths (name_of (first end h)) f q × Meets s q
shown_reading h start end when s f l x le row_is cells =
    let store = store_after (first when h) in
    let c = x.reads in
    let d = c.dot_reads in
    let k = offset_stands (first start h) (first when h) (point_row x.row) x.qual x.value (begins_firsts start when h le) (first_lawful h when l) refl x.stands c.dots c.reads c.dot c.among in
    let q : Reading = record { metric = s.metric; tags = s.tags; time = s.time; value = k.dot.value } in
    let reads : CellReads (store_after (first end h)).widths (name_of (first end h)) x.row k.other k.value q = record {
      dots = k.dots;
      reads = k.reads;
      dot = k.dot;
      among = k.among;
      dot_reads = record { key = d.key; is_key = d.is_key; row_is = d.row_is; metric_is = d.metric_is; tags_are = d.tags_are; time_is = d.time_is ∙ ap (λ n. d.key.base * 1000 + n) (sym k.offset_is); value_is = refl };
    } in
    let such = cell_in store f.row k.other k.value (ap (λ (r : Row). value_at store r k.other) row_is ∙ k.stands) in (
      q,
      record {
        cell = such.cell;
        among = subst (λ (cs : List Cell). Contains cs such.cell) (sym cells) such.among;
        reads = reads_at (store_after (first end h)).widths (name_of (first end h)) q x.row f.row.bytes k.other such.cell.qual k.value such.cell.value (sym (ap (λ (r : Row). r.bytes) row_is)) (sym such.qual_is) (sym such.value_is) reads;
      },
      record { metric = refl; tags = refl; time = refl },
    )

-- a row that was found shows a reading of this series and time
pub record Shows (h : History) (end : ℕ) (founds : List Found) (r : Reading) : Type 0 where
  pub found : Found
  pub given : Contains founds found
  pub reading : Reading
  pub reads : RowReads (store_after (first end h)).widths (name_of (first end h)) found reading
  pub meets : Meets r reading

pub asked_shown : (wants : Wanting) (h : History) (start end metric first_base last_base : ℕ) (founds : List Found) (asked : Reading → Bool) (s : Reading) → IsLawful h → start ≤ end → ScanGives wants h start end metric first_base last_base founds
    → AsksWithin asked (first end h) metric first_base last_base → AsksOfWanted wants asked (first end h) → IsTrue (asked s) → StoodReading h start end s → Shows h end founds s
asked_shown wants h start end metric first_base last_base founds asked s l le gives within only asks x =
    let row = carry (begins_first end h) (λ (w : Widths). IsRowOf w metric first_base last_base (point_row x.row) × IsWanted w wants (point_row x.row))
    (asked_row wants h start end metric first_base last_base asked s l le within only asks x) in
    let given = gives.all (point_row x.row) row.0 row.1 (x.qual, x.value, x.stands) in
    let found = (gives.only given.0 given.1).1 in
    let w = shown_reading h start end found.when s given.0 l x found.from_on given.2 found.cells in
    record { found = given.0; given = given.1; reading = w.0; reads = w.1; meets = w.2 }

-- A change of one row's cells as a change of the store.
use Rattle.std.proofs.Common.{◌≡◌, ◌≢◌, ◌⊎◌, inl, inr, ℕ, ◌+◌, Bool, true, false, cond, List, [], ◌∷◌, refl, sym, ap, subst, ◌∙◌, arith}
use Rattle.std.specs.Prelude.{Option, None, Some, option_map, slice_set, length, ◌<◌}
use Rattle.std.specs.Ordering.{eq_by_cmp, is_eq, ordering_then}
use Rattle.std.specs.Cmp.Lexicographic.{nat_list_cmp_total}
use Rattle.std.specs.FinMap.{get, insert, remove, get-insert, get-remove, empty}
use Rattle.std.proofs.lemmas.List.{get_or-set_same, get_or-set_other}
use Rattle.row_key.specs.declared.tables.Table.{Table}
use Rattle.row_key.specs.declared.tables.Table.TheVariants.{Ids, Names, Points}
use Rattle.cell_model.specs.declared.row.Row.{Row}
use Rattle.cell_model.specs.declared.events.Place.{Place}
use Rattle.cell_model.specs.declared.events.Content.{Content}
use Rattle.cell_model.specs.KindWidths.{Widths}
use Rattle.cell_model.specs.Store.{Store, place_cmp, place_of, table_number, content_at, value_at, written, stamped, stamped_over, is_dropped, dropped, drop_count, remove as remove_at, with_cells}
use Rattle.list_lemmas.specs.BytesOrder.{bytes_cmp}
use Rattle.cell_model.specs.Machine.{counter_row}
use Rattle.packed_cells.specs.Keyed.{CellMap, goes, without}
use Rattle.packed_cells.specs.Keyed as cells
use Rattle.map_body.specs.TableRows.{row_in, ChangesRow, left, gone}
use Rattle.row_pages.specs.RowMaps.{Rows}
use Rattle.map_body.specs.Whole.{rows_at, content_of, store_in, NoCounterRow}
use Rattle.cell_model.proofs.CallerLemmas.{rows_total, places_total, exact_rows, exact_places, same_store}
use Rattle.map_body.proofs.Orders.{same_row, parts, one_or_other}
use Rattle.map_body.proofs.Tables.{row_of, look, row_of_counters, row_of_other}

-- the row has these cells in the store
abbrev pub HasRow : Store → Row → CellMap → Type 0
HasRow s row m = (qual : List ℕ) → content_at s row qual ≡ option_map content_of (get m qual)

-- the stores differ in this row alone
abbrev pub SameElsewhere : Store → Row → Store → Type 0
SameElsewhere s row t = (p : Place) → p.row ≢ row → get t.cells p ≡ get s.cells p

by_row : (s t : Store) (row : Row) (m : CellMap) → t.widths ≡ s.widths → HasRow s row m → HasRow t row m → SameElsewhere s row t → t ≡ s
by_row s t row m w a b same = same_store t s w (λ p. at p (one_or_other rows_total exact_rows p.row row))
  where
    at : (p : Place) → (p.row ≡ row) ⊎ (p.row ≢ row) → get t.cells p ≡ get s.cells p
    at p (inl is) = subst (λ (r : Row). get t.cells (place_of r p.qual) ≡ get s.cells (place_of r p.qual)) (sym is) (b p.qual ∙ sym (a p.qual))
    at p (inr ne) = same p ne

-- places of one row are told apart by the qualifier
one_row : (row : Row) (q k : List ℕ) → eq_by_cmp place_cmp (place_of row q) (place_of row k) ≡ eq_by_cmp bytes_cmp q k
one_row row q k = ap (λ r. is_eq (ordering_then r (bytes_cmp q k))) (same_row row)

other_place : (p : Place) (row : Row) (k : List ℕ) → p.row ≢ row → eq_by_cmp place_cmp p (place_of row k) ≡ false
other_place p row k ne = parts places_total exact_places p (place_of row k) (λ (e : p ≡ place_of row k). ne (ap (λ (x : Place). x.row) e))

mapped : (b : Bool) (c : List ℕ × ℕ) (o : Option (List ℕ × ℕ)) → cond b (Some (content_of c)) (option_map content_of o) ≡ option_map content_of (cond b (Some c) o)
mapped true c o = refl
mapped false c o = refl

mapped_none : (b : Bool) (o : Option (List ℕ × ℕ)) → cond b None (option_map content_of o) ≡ option_map content_of (cond b None o)
mapped_none true o = refl
mapped_none false o = refl

-- a write
written_row : (s : Store) (row : Row) (m : CellMap) (qual value : List ℕ) (version : ℕ) → HasRow s row m → HasRow (written s row qual value version) row (insert m qual (value, version))
written_row s row m qual value version has q =
    get-insert places_total s.cells (place_of row qual) (content_of (value, version)) (place_of row q)
    ∙ (λ i. cond (one_row row q qual i) (Some (content_of (value, version))) (has q i))
    ∙ mapped (eq_by_cmp bytes_cmp q qual) (value, version) (get m q)
    ∙ ap (option_map content_of) (sym (get-insert nat_list_cmp_total m qual (value, version) q))

written_elsewhere : (s : Store) (row : Row) (qual value : List ℕ) (version : ℕ) → SameElsewhere s row (written s row qual value version)
written_elsewhere s row qual value version p ne =
    get-insert places_total s.cells (place_of row qual) (content_of (value, version)) p ∙ ap (λ b. cond b (Some (content_of (value, version))) (get s.cells p)) (other_place p row qual ne)

removed_row : (s : Store) (row : Row) (m : CellMap) (qual : List ℕ) → HasRow s row m → HasRow (remove_at s (place_of row qual)) row (remove m qual)
removed_row s row m qual has q =
    get-remove places_total s.cells (place_of row qual) (place_of row q)
    ∙ (λ i. cond (one_row row q qual i) None (has q i))
    ∙ mapped_none (eq_by_cmp bytes_cmp q qual) (get m q)
    ∙ ap (option_map content_of) (sym (get-remove nat_list_cmp_total m qual q))

removed_elsewhere : (s : Store) (row : Row) (qual : List ℕ) → SameElsewhere s row (remove_at s (place_of row qual))
removed_elsewhere s row qual p ne = get-remove places_total s.cells (place_of row qual) p ∙ ap (λ b. cond b None (get s.cells p)) (other_place p row qual ne)

-- a store that has a row's new cells and is the same elsewhere
module _ (s t : Store) (row : Row) (m : CellMap) (w : t.widths ≡ s.widths) (has : HasRow s row m) (same : SameElsewhere s row t) where
  elsewhere : (u : Store) → SameElsewhere s row u → SameElsewhere u row t
  elsewhere u other p ne = same p ne ∙ sym (other p ne)

  pub row_written : (qual value : List ℕ) (version : ℕ) → HasRow t row (insert m qual (value, version)) → t ≡ written s row qual value version
  row_written qual value version new =
      by_row (written s row qual value version) t row (insert m qual (value, version)) w (written_row s row m qual value version has) new
      (elsewhere (written s row qual value version) (written_elsewhere s row qual value version))

  pub row_same : HasRow t row m → t ≡ s
  row_same new = by_row s t row m w has new same

  pub row_stamped : (qual : List ℕ) (version : ℕ) → HasRow t row (cells.stamped m qual version) → t ≡ stamped s row qual version
  row_stamped qual version new = at (get m qual) refl
    where
      at : (o : Option (List ℕ × ℕ)) → get m qual ≡ o → t ≡ stamped s row qual version
      at None e =
          row_same (subst (HasRow t row) (ap (λ o. cells.stamped_over o m qual version) e) new)
          ∙ ap (λ o. stamped_over o s row qual version) (sym (has qual ∙ ap (option_map content_of) e))
      at (Some c) e =
          row_written qual c.0 version (subst (HasRow t row) (ap (λ o. cells.stamped_over o m qual version) e) new)
          ∙ ap (λ o. stamped_over o s row qual version) (sym (has qual ∙ ap (option_map content_of) e))

-- a drop
goes_as : (o : Option (List ℕ × ℕ)) (version : ℕ) → is_dropped (option_map content_of o) version ≡ goes o version
goes_as None version = refl
goes_as (Some c) version = refl

pub record Drops (s : Store) (row : Row) (m : CellMap) (list : List (List ℕ × ℕ)) : Type 0 where
  pub row_left : HasRow (dropped s row list) row (left m list)
  pub elsewhere : SameElsewhere s row (dropped s row list)
  pub count : drop_count s row list ≡ gone m list

pub drops : (s : Store) (row : Row) (m : CellMap) (list : List (List ℕ × ℕ)) → HasRow s row m → Drops s row m list
drops s row m [] has = record { row_left = has; elsewhere = λ p ne. refl; count = refl }
drops s row m (d ∷ list) has = at (goes (get m d.0) d.1) refl (drops (remove_at s (place_of row d.0)) row (remove m d.0) list (removed_row s row m d.0 has)) (drops s row m list has)
  where
    test : is_dropped (content_at s row d.0) d.1 ≡ goes (get m d.0) d.1
    test = ap (λ o. is_dropped o d.1) (has d.0) ∙ goes_as (get m d.0) d.1

    at : (b : Bool) → goes (get m d.0) d.1 ≡ b → Drops (remove_at s (place_of row d.0)) row (remove m d.0) list → Drops s row m list → Drops s row m (d ∷ list)
    at true e one other =
        let was : is_dropped (content_at s row d.0) d.1 ≡ true = test ∙ e in
        let store : dropped s row (d ∷ list) ≡ dropped (remove_at s (place_of row d.0)) row list = ap (λ b. dropped (cond b (remove_at s (place_of row d.0)) s) row list) was in
        let rest : left m (d ∷ list) ≡ left (remove m d.0) list = ap (λ b. left (cond b (remove m d.0) m) list) e in
        record {
          row_left = λ q. ap (λ (x : Store). content_at x row q) store ∙ one.row_left q ∙ ap (λ (x : CellMap). option_map content_of (get x q)) (sym rest);
          elsewhere = λ p ne. ap (λ (x : Store). get x.cells p) store ∙ one.elsewhere p ne ∙ removed_elsewhere s row d.0 p ne;
          count = ap (λ b. cond b (drop_count (remove_at s (place_of row d.0)) row list + 1) (drop_count s row list)) was ∙ ap (λ n. n + 1) one.count
              ∙ ap (λ b. cond b (gone (cond b (remove m d.0) m) list + 1) (gone (cond b (remove m d.0) m) list)) (sym e);
        }
    at false e one other =
        let was : is_dropped (content_at s row d.0) d.1 ≡ false = test ∙ e in
        let store : dropped s row (d ∷ list) ≡ dropped s row list = ap (λ b. dropped (cond b (remove_at s (place_of row d.0)) s) row list) was in
        let rest : left m (d ∷ list) ≡ left m list = ap (λ b. left (cond b (remove m d.0) m) list) e in
        record {
          row_left = λ q. ap (λ (x : Store). content_at x row q) store ∙ other.row_left q ∙ ap (λ (x : CellMap). option_map content_of (get x q)) (sym rest);
          elsewhere = λ p ne. ap (λ (x : Store). get x.cells p) store ∙ other.elsewhere p ne;
          count = ap (λ b. cond b (drop_count (remove_at s (place_of row d.0)) row list + 1) (drop_count s row list)) was ∙ other.count
              ∙ ap (λ b. cond b (gone (cond b (remove m d.0) m) list + 1) (gone (cond b (remove m d.0) m) list)) (sym e);
        }

pub row_dropped : (s t : Store) (row : Row) (m : CellMap) → t.widths ≡ s.widths → HasRow s row m → SameElsewhere s row t → (list : List (List ℕ × ℕ)) → HasRow t row (left m list) → t ≡ with_cells s (dropped s row list)
row_dropped s t row m w has same list new =
    let d = drops s row m list has in
    by_row (with_cells s (dropped s row list)) t row (left m list) w d.row_left new (λ p ne. same p ne ∙ sym (d.elsewhere p ne))

-- tables of which one is another
same_table_or_not : (s t : Table) → (s ≡ t) ⊎ (table_number s ≢ table_number t)
same_table_or_not Ids Ids = inl refl
same_table_or_not Names Names = inl refl
same_table_or_not Points Points = inl refl
same_table_or_not Ids Names = inr (λ e. absurd (omega (arith, e)))
same_table_or_not Ids Points = inr (λ e. absurd (omega (arith, e)))
same_table_or_not Names Ids = inr (λ e. absurd (omega (arith, e)))
same_table_or_not Names Points = inr (λ e. absurd (omega (arith, e)))
same_table_or_not Points Ids = inr (λ e. absurd (omega (arith, e)))
same_table_or_not Points Names = inr (λ e. absurd (omega (arith, e)))

below_three : (t : Table) → table_number t < 3
below_three Ids = omega arith
below_three Names = omega arith
below_three Points = omega arith

table_set : (tables : List Rows) (t : Table) (new : Rows) → length tables ≡ 3 → rows_at (slice_set tables (table_number t) new) t ≡ new
table_set tables t new three = get_or-set_same tables (table_number t) new empty (let b = below_three t in omega (arith, b, three))

table_kept : (tables : List Rows) (t s : Table) (new : Rows) → table_number s ≢ table_number t → rows_at (slice_set tables (table_number t) new) s ≡ rows_at tables s
table_kept tables t s new ne = get_or-set_other tables (table_number t) (table_number s) new empty ne

-- tables in which one row has other cells
module _ (w : Widths) (tables : List Rows) (counters : CellMap) (none : NoCounterRow tables) (three : length tables ≡ 3) (t : Table) (bytes : List ℕ) (apart : (record { table = t; bytes = bytes }) ≢ counter_row)
    (new : Rows) (changed : CellMap) (is : ChangesRow (rows_at tables t) new bytes changed) where
  kept_row : (r : Row) → r ≢ record { table = t; bytes = bytes } → row_in (rows_at (slice_set tables (table_number t) new) r.table) r.bytes ≡ row_in (rows_at tables r.table) r.bytes
  kept_row r ne = at (same_table_or_not r.table t)
    where
      at : (r.table ≡ t) ⊎ (table_number r.table ≢ table_number t) → row_in (rows_at (slice_set tables (table_number t) new) r.table) r.bytes ≡ row_in (rows_at tables r.table) r.bytes
      at (inl same) =
          ap (λ s. row_in (rows_at (slice_set tables (table_number t) new) s) r.bytes) same ∙ ap (λ (rows : Rows). row_in rows r.bytes) (table_set tables t new three)
          ∙ is.others r.bytes (λ e. ne (λ i. record { table = same i; bytes = e i })) ∙ ap (λ s. row_in (rows_at tables s) r.bytes) (sym same)
      at (inr other) = ap (λ (rows : Rows). row_in rows r.bytes) (table_kept tables t r.table new other)

  pub still_no_counters : NoCounterRow (slice_set tables (table_number t) new)
  still_no_counters = kept_row counter_row (λ e. apart (sym e)) ∙ none

  row_before : row_of tables counters (record { table = t; bytes = bytes }) ≡ row_in (rows_at tables t) bytes
  row_before = row_of_other tables counters (record { table = t; bytes = bytes }) apart

  row_after : row_of (slice_set tables (table_number t) new) counters (record { table = t; bytes = bytes }) ≡ changed
  row_after = row_of_other (slice_set tables (table_number t) new) counters (record { table = t; bytes = bytes }) apart ∙ ap (λ (rows : Rows). row_in rows bytes) (table_set tables t new three) ∙ is.here

  others_of : (r : Row) → r ≢ record { table = t; bytes = bytes } → row_of (slice_set tables (table_number t) new) counters r ≡ row_of tables counters r
  others_of r ne = at (one_or_other rows_total exact_rows r counter_row)
    where
      at : (r ≡ counter_row) ⊎ (r ≢ counter_row) → row_of (slice_set tables (table_number t) new) counters r ≡ row_of tables counters r
      at (inl same) = ap (row_of (slice_set tables (table_number t) new) counters) same ∙ row_of_counters (slice_set tables (table_number t) new) counters still_no_counters
          ∙ sym (row_of_counters tables counters none) ∙ ap (row_of tables counters) (sym same)
      at (inr other) = row_of_other (slice_set tables (table_number t) new) counters r other ∙ kept_row r ne ∙ sym (row_of_other tables counters r other)

  has_before : HasRow (store_in w tables counters) (record { table = t; bytes = bytes }) (row_in (rows_at tables t) bytes)
  has_before q = look w tables counters (record { table = t; bytes = bytes }) q ∙ ap (λ (m : CellMap). option_map content_of (get m q)) row_before

  has_after : HasRow (store_in w (slice_set tables (table_number t) new) counters) (record { table = t; bytes = bytes }) changed
  has_after q = look w (slice_set tables (table_number t) new) counters (record { table = t; bytes = bytes }) q ∙ ap (λ (m : CellMap). option_map content_of (get m q)) row_after

  same_elsewhere : SameElsewhere (store_in w tables counters) (record { table = t; bytes = bytes }) (store_in w (slice_set tables (table_number t) new) counters)
  same_elsewhere p ne =
      look w (slice_set tables (table_number t) new) counters p.row p.qual ∙ ap (λ (m : CellMap). option_map content_of (get m p.qual)) (others_of p.row ne) ∙ sym (look w tables counters p.row p.qual)

  pub table_written : (qual value : List ℕ) (version : ℕ) → changed ≡ insert (row_in (rows_at tables t) bytes) qual (value, version)
      → store_in w (slice_set tables (table_number t) new) counters ≡ written (store_in w tables counters) (record { table = t; bytes = bytes }) qual value version
  table_written qual value version e =
      row_written (store_in w tables counters) (store_in w (slice_set tables (table_number t) new) counters) (record { table = t; bytes = bytes }) (row_in (rows_at tables t) bytes) refl has_before same_elsewhere qual value version
      (subst (HasRow (store_in w (slice_set tables (table_number t) new) counters) (record { table = t; bytes = bytes })) e has_after)

  pub table_stamped : (qual : List ℕ) (version : ℕ) → changed ≡ cells.stamped (row_in (rows_at tables t) bytes) qual version
      → store_in w (slice_set tables (table_number t) new) counters ≡ stamped (store_in w tables counters) (record { table = t; bytes = bytes }) qual version
  table_stamped qual version e =
      row_stamped (store_in w tables counters) (store_in w (slice_set tables (table_number t) new) counters) (record { table = t; bytes = bytes }) (row_in (rows_at tables t) bytes) refl has_before same_elsewhere qual version
      (subst (HasRow (store_in w (slice_set tables (table_number t) new) counters) (record { table = t; bytes = bytes })) e has_after)

  pub table_dropped : (list : List (List ℕ × ℕ)) → changed ≡ left (row_in (rows_at tables t) bytes) list
      → store_in w (slice_set tables (table_number t) new) counters ≡ with_cells (store_in w tables counters) (dropped (store_in w tables counters) (record { table = t; bytes = bytes }) list)
  table_dropped list e =
      row_dropped (store_in w tables counters) (store_in w (slice_set tables (table_number t) new) counters) (record { table = t; bytes = bytes }) (row_in (rows_at tables t) bytes) refl has_before same_elsewhere list
      (subst (HasRow (store_in w (slice_set tables (table_number t) new) counters) (record { table = t; bytes = bytes })) e has_after)

-- what a row has, and how many of its cells a drop takes
module _ (w : Widths) (tables : List Rows) (counters : CellMap) (row : Row) (apart : row ≢ counter_row) where
  pub has_row : HasRow (store_in w tables counters) row (row_in (rows_at tables row.table) row.bytes)
  has_row q = look w tables counters row q ∙ ap (λ (m : CellMap). option_map content_of (get m q)) (row_of_other tables counters row apart)

  pub value_is : (qual : List ℕ) → value_at (store_in w tables counters) row qual ≡ option_map (λ (c : List ℕ × ℕ). c.0) (get (row_in (rows_at tables row.table) row.bytes) qual)
  value_is qual = ap (option_map (λ (c : Content). c.value)) (has_row qual) ∙ both_maps (get (row_in (rows_at tables row.table) row.bytes) qual)
    where
      both_maps : (o : Option (List ℕ × ℕ)) → option_map (λ (c : Content). c.value) (option_map content_of o) ≡ option_map (λ (c : List ℕ × ℕ). c.0) o
      both_maps None = refl
      both_maps (Some c) = refl

  pub drop_counted : (list : List (List ℕ × ℕ)) → gone (row_in (rows_at tables row.table) row.bytes) list ≡ drop_count (store_in w tables counters) row list
  drop_counted list = sym (drops (store_in w tables counters) row (row_in (rows_at tables row.table) row.bytes) list has_row).count

-- a change of the counters
module _ (w : Widths) (tables : List Rows) (old new : CellMap) (none : NoCounterRow tables) where
  has_counters : (counters : CellMap) → HasRow (store_in w tables counters) counter_row counters
  has_counters counters q = look w tables counters counter_row q ∙ ap (λ (m : CellMap). option_map content_of (get m q)) (row_of_counters tables counters none)

  counters_elsewhere : SameElsewhere (store_in w tables old) counter_row (store_in w tables new)
  counters_elsewhere p ne =
      look w tables new p.row p.qual ∙ ap (λ (m : CellMap). option_map content_of (get m p.qual)) (row_of_other tables new p.row ne ∙ sym (row_of_other tables old p.row ne)) ∙ sym (look w tables old p.row p.qual)

  pub counter_written : (qual value : List ℕ) (version : ℕ) → new ≡ insert old qual (value, version) → store_in w tables new ≡ written (store_in w tables old) counter_row qual value version
  counter_written qual value version e =
      row_written (store_in w tables old) (store_in w tables new) counter_row old refl (has_counters old) counters_elsewhere qual value version (subst (HasRow (store_in w tables new) counter_row) e (has_counters new))

  pub counter_stamped : (qual : List ℕ) (version : ℕ) → new ≡ cells.stamped old qual version → store_in w tables new ≡ stamped (store_in w tables old) counter_row qual version
  counter_stamped qual version e =
      row_stamped (store_in w tables old) (store_in w tables new) counter_row old refl (has_counters old) counters_elsewhere qual version (subst (HasRow (store_in w tables new) counter_row) e (has_counters new))

pub counter_value : (w : Widths) (tables : List Rows) (counters : CellMap) → NoCounterRow tables → (qual : List ℕ) → value_at (store_in w tables counters) counter_row qual ≡ option_map (λ (c : List ℕ × ℕ). c.0) (get counters qual)
counter_value w tables counters none qual = ap (option_map (λ (c : Content). c.value)) (has_counters w tables counters counters none counters qual) ∙ both_maps (get counters qual)
  where
    both_maps : (o : Option (List ℕ × ℕ)) → option_map (λ (c : Content). c.value) (option_map content_of o) ≡ option_map (λ (c : List ℕ × ℕ). c.0) o
    both_maps None = refl
    both_maps (Some c) = refl

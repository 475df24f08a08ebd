-- What a body answers, and what it becomes.
use Rattle.std.proofs.Common.{◌≡◌, ◌≢◌, ◌⊎◌, inl, inr, ℕ, zero, suc, ◌+◌, ◌≤◌, ◌<◌, Bool, true, false, cond, T, List, [], ◌∷◌, ◌++◌, length, refl, sym, ap, subst, ◌∙◌, arith, nat_eq}
use Rattle.std.specs.Prelude.{Option, None, Some, unwrap_or, option_map, map, filter, sum_by, ◌&&◌, not, nat_lt, slice_index_or, slice_set}
use Rattle.std.specs.Prelude as std
use Rattle.std.specs.Option.{option_map_or}
use Rattle.std.specs.Int.{w64, to_be_bytes, from_be_bytes}
use Rattle.std.specs.Ordering.{nat_cmp, eq_by_cmp, is_lt, ordering_then}
use Rattle.std.specs.declared.cmp.Ordering.TheVariants.{Less}
use Rattle.std.specs.Cmp.{nat_cmp_is}
use Rattle.std.specs.FinMap.{find, is_sorted, entries, from_entries, empty, get, get-empty, get-entries, entries_sorted, insert, len, len-empty, len-entries, keys}
use Rattle.std.proofs.lemmas.Bool.Decides.{nat_tests}
use Rattle.std.proofs.lemmas.List.{get_or_default, length-set}
use Rattle.std.proofs.lemmas.List.Sums.{sum_by-cons}
use Rattle.list_lemmas.proofs.ListCuts.{filter_alike}
use Rattle.list_lemmas.proofs.BoolTests.{T_left, T_right}
use Rattle.row_key.specs.declared.tables.Table.{Table}
use Rattle.row_key.specs.declared.tables.Table.TheVariants.{Ids, Names, Points}
use Rattle.tsd_base.specs.declared.kinds.Kind.{Kind}
use Rattle.qual_codec.specs.declared.cells.Cell.{Cell}
use Rattle.qual_codec.specs.CellDots.{column_qual}
use Rattle.cell_model.specs.declared.row.Row.{Row}
use Rattle.cell_model.specs.declared.row.Found.{Found}
use Rattle.cell_model.specs.declared.events.Place.{Place}
use Rattle.cell_model.specs.declared.events.Content.{Content}
use Rattle.cell_model.specs.declared.answers.Bumped.TheVariants.{Given, Full}
use Rattle.cell_model.specs.KindWidths.{Widths, greatest}
use Rattle.cell_model.specs.Store.{Store, row_cmp, place_cmp, table_number, no_cells, with_cells, or_nothing, value_at, written, appended, stamped, dropped, cells_of, next_row_of, is_between, cell_of}
use Rattle.list_lemmas.specs.BytesOrder.{bytes_cmp}
use Rattle.cell_model.specs.Machine.{counter_row, counter_of, kind_qual, bump_reply}
use Rattle.cell_model.specs.Counts.{point_entries, point_rows}
use Rattle.cell_model.specs.Sound.{CountersRead, IsCounter}
use Rattle.cell_model.specs.Ranges.{InOneRange}
use Rattle.packed_cells.specs.Keyed.{CellMap, cells_in}
use Rattle.packed_cells.specs.Keyed as cells
use Rattle.map_body.specs.TableRows.{row_in, ChangesRow, NoneEmpty, left, is_within, cells_among}
use Rattle.row_pages.specs.RowMaps.{Rows}
use Rattle.map_body.specs.Counting.{number_in, AllCounters}
use Rattle.cell_model.proofs.CallerLemmas.{rows_total, exact_rows, same_store}
use Rattle.map_body.proofs.Orders.{one_or_other}
use Rattle.map_body.specs.Whole.{rows_at, content_of, tagged, all_rows, flat, store_in, NoCounterRow}
use Rattle.map_body.proofs.Counted.{counters_set}
use Rattle.map_body.proofs.Maps.{tied, untied, same_or_not, no_some}
use Rattle.map_body.proofs.Flat.{AllSome, flat_entries, filter_flat, cells_of_flat, head_of, find_head, head_flat, length_flat, keys_flat, find_none}
use Rattle.map_body.proofs.Tables.{sheet, row_of, all_sorted, cells_all, of_table, filter_all, filter_sheet, entries_some, row_of_counters, row_of_other, look}
use Rattle.map_body.proofs.Changes.{still_no_counters, table_written, table_stamped, table_dropped, counter_written, counter_value, value_is}

below_three : (t : Table) → table_number t < 3
below_three Ids = omega arith
below_three Names = omega arith
below_three Points = omega arith

-- the rows at the number of a table
pub at_table : (tables : List Rows) (t : Table) (n : ℕ) (r : Rows) → length tables ≡ 3 → n ≡ table_number t → r ≡ slice_index_or tables n r → r ≡ rows_at tables t
at_table tables t n r three number is =
    is ∙ ap (λ (k : ℕ). slice_index_or tables k r) number ∙ get_or_default tables (table_number t) r empty (let b = below_three t in omega (arith, b, three))

-- a change of one row
module _ (w : Widths) (tables : List Rows) (counters : CellMap) (inv : NoCounterRow tables × (length tables ≡ 3) × AllCounters w counters) (t : Table) (bytes : List ℕ) (apart : (record { table = t; bytes = bytes }) ≢ counter_row)
    (n : ℕ) (old new : Rows) (changed : CellMap) (number : n ≡ table_number t) (was : old ≡ slice_index_or tables n old) (is : ChangesRow old new bytes changed) where
  there : old ≡ rows_at tables t
  there = at_table tables t n old inv.1 number was

  at_t : ChangesRow (rows_at tables t) new bytes changed
  at_t = subst (λ (r : Rows). ChangesRow r new bytes changed) there is

  set_at : slice_set tables n new ≡ slice_set tables (table_number t) new
  set_at = ap (λ (k : ℕ). slice_set tables k new) number

  pub kept_whole : NoCounterRow (slice_set tables n new) × (length (slice_set tables n new) ≡ 3) × AllCounters w counters
  kept_whole = (subst NoCounterRow (sym set_at) (still_no_counters w tables counters inv.0 inv.1 t bytes apart new changed at_t), length-set tables n new ∙ inv.1, inv.2)

  pub written_whole : (qual value : List ℕ) (version : ℕ) → changed ≡ insert (row_in old bytes) qual (value, version) → store_in w (slice_set tables n new) counters ≡ written (store_in w tables counters) (record { table = t; bytes = bytes }) qual value version
  written_whole qual value version e =
      ap (λ (l : List Rows). store_in w l counters) set_at
      ∙ table_written w tables counters inv.0 inv.1 t bytes apart new changed at_t qual value version (e ∙ ap (λ (r : Rows). insert (row_in r bytes) qual (value, version)) there)

  pub appended_whole : (piece : List ℕ) → changed ≡ cells.appended (row_in old bytes) piece 0 → store_in w (slice_set tables n new) counters ≡ appended (store_in w tables counters) (record { table = t; bytes = bytes }) piece 0
  appended_whole piece e = written_whole column_qual (or_nothing (value_at (store_in w tables counters) (record { table = t; bytes = bytes }) column_qual) ++ piece) 0
      (e ∙ ap (λ (v : List ℕ). insert (row_in old bytes) column_qual (v ++ piece, 0)) stood)
    where
      either : (o : Option (List ℕ × ℕ)) → cells.bytes_there o ≡ or_nothing (option_map (λ (c : List ℕ × ℕ). c.0) o)
      either None = refl
      either (Some c) = refl

      stood : cells.bytes_there (get (row_in old bytes) column_qual) ≡ or_nothing (value_at (store_in w tables counters) (record { table = t; bytes = bytes }) column_qual)
      stood = either (get (row_in old bytes) column_qual)
          ∙ ap (λ (r : Rows). or_nothing (option_map (λ (c : List ℕ × ℕ). c.0) (get (row_in r bytes) column_qual))) there
          ∙ sym (ap or_nothing (value_is w tables counters (record { table = t; bytes = bytes }) apart column_qual))

  pub stamped_whole : (qual : List ℕ) (version : ℕ) → changed ≡ cells.stamped (row_in old bytes) qual version → store_in w (slice_set tables n new) counters ≡ stamped (store_in w tables counters) (record { table = t; bytes = bytes }) qual version
  stamped_whole qual version e =
      ap (λ (l : List Rows). store_in w l counters) set_at
      ∙ table_stamped w tables counters inv.0 inv.1 t bytes apart new changed at_t qual version (e ∙ ap (λ (r : Rows). cells.stamped (row_in r bytes) qual version) there)

  pub dropped_whole : (list : List (List ℕ × ℕ)) → changed ≡ left (row_in old bytes) list → store_in w (slice_set tables n new) counters ≡ with_cells (store_in w tables counters) (dropped (store_in w tables counters) (record { table = t; bytes = bytes }) list)
  dropped_whole list e =
      ap (λ (l : List Rows). store_in w l counters) set_at
      ∙ table_dropped w tables counters inv.0 inv.1 t bytes apart new changed at_t list (e ∙ ap (λ (r : Rows). left (row_in r bytes) list) there)

-- counters
pub number_read : (w : Widths) (tables : List Rows) (counters : CellMap) → NoCounterRow tables → (kind : Kind) → number_in counters kind ≡ counter_of (store_in w tables counters) kind
number_read w tables counters none kind = ap (λ o. option_map_or (from_be_bytes w64) o 0) (sym (counter_value w tables counters none (kind_qual kind)))

full : (n most : ℕ) → most ≤ n → nat_lt n most ≡ false
full n most le = grind (arith, nat_tests, le)

not_full : (n most : ℕ) → n < most → nat_lt n most ≡ true
not_full n most lt = grind (arith, nat_tests, lt)

-- a counter before and after a bump, where the greatest id of its kind is this one
module _ (w : Widths) (tables : List Rows) (counters new : CellMap) (none : NoCounterRow tables) (kind : Kind) (n most : ℕ) (is : n ≡ number_in counters kind) (greatest_is : most ≡ greatest w kind) where
  abbrev s : Store
  s = store_in w tables counters

  read : n ≡ counter_of s kind
  read = is ∙ number_read w tables counters none kind

  is_full : most ≤ n → nat_lt (counter_of s kind) (greatest w kind) ≡ false
  is_full le = sym (λ i. nat_lt (read i) (greatest_is i)) ∙ full n most le

  is_not_full : n < most → nat_lt (counter_of s kind) (greatest w kind) ≡ true
  is_not_full lt = sym (λ i. nat_lt (read i) (greatest_is i)) ∙ not_full n most lt

  pub full_reply : most ≤ n → Full ≡ bump_reply (store_in w tables counters) kind
  full_reply le = ap (λ b. cond b (Given (counter_of s kind + 1)) Full) (sym (is_full le))

  pub full_stays : most ≤ n → (other : Store) → store_in w tables counters ≡ with_cells (store_in w tables counters) (cond (nat_lt (counter_of (store_in w tables counters) kind) (greatest w kind)) other (store_in w tables counters))
  full_stays le other = ap (λ b. with_cells s (cond b other s)) (sym (is_full le))

  pub given_reply : n < most → Given (n + 1) ≡ bump_reply (store_in w tables counters) kind
  given_reply lt = ap (λ k. Given (k + 1)) read ∙ ap (λ b. cond b (Given (counter_of s kind + 1)) Full) (sym (is_not_full lt))

  pub given_written : n < most → new ≡ insert counters (kind_qual kind) (to_be_bytes w64 (n + 1), 0)
      → store_in w tables new
      ≡ with_cells (store_in w tables counters)
      (cond (nat_lt (counter_of (store_in w tables counters) kind) (greatest w kind)) (written (store_in w tables counters) counter_row (kind_qual kind) (to_be_bytes w64 (counter_of (store_in w tables counters) kind + 1)) 0) (store_in w tables counters))
  given_written lt e =
      counter_written w tables counters new none (kind_qual kind) (to_be_bytes w64 (n + 1)) 0 e
      ∙ ap (λ k. written s counter_row (kind_qual kind) (to_be_bytes w64 (k + 1)) 0) read
      ∙ ap (λ b. with_cells s (cond b (written s counter_row (kind_qual kind) (to_be_bytes w64 (counter_of s kind + 1)) 0) s)) (sym (is_not_full lt))

  pub given_counters : n < most → new ≡ insert counters (kind_qual kind) (to_be_bytes w64 (n + 1), 0) → AllCounters w counters → AllCounters w new
  given_counters lt e all =
      subst (AllCounters w) (sym e)
      (counters_set w counters (kind_qual kind) (to_be_bytes w64 (n + 1)) 0 all
      (record { kind = kind; number = n + 1; is_kind = refl; least = omega arith; most = subst (λ m. n + 1 ≤ m) greatest_is (omega (arith, lt)); value_is = refl }))

pub counters_read : (w : Widths) (tables : List Rows) (counters : CellMap) → NoCounterRow tables → AllCounters w counters → CountersRead (store_in w tables counters)
counters_read w tables counters none all qual value is = at (get counters qual) refl (sym (counter_value w tables counters none qual) ∙ is)
  where
    at : (o : Option (List ℕ × ℕ)) → get counters qual ≡ o → option_map (λ (c : List ℕ × ℕ). c.0) (get counters qual) ≡ Some value → IsCounter w qual value
    at None e h = absurd (no_some value (sym (ap (option_map (λ (c : List ℕ × ℕ). c.0)) e) ∙ h))
    at (Some c) e h = subst (IsCounter w qual) (ap (λ o. unwrap_or o value) (sym (ap (option_map (λ (x : List ℕ × ℕ). x.0)) e) ∙ h)) (all qual c.0 c.1 e)

-- the cells of a row
pub cells_of_row : (w : Widths) (tables : List Rows) (counters : CellMap) (row : Row) → cells_of (store_in w tables counters) row ≡ cells_in (row_of tables counters row)
cells_of_row w tables counters row =
    ap (λ (es : List (Place × Content)). map cell_of (filter (λ (e : Place × Content). eq_by_cmp row_cmp row e.0.row) es)) (flat_entries (all_rows tables counters) (all_sorted tables counters))
    ∙ ap (map cell_of) (filter_flat (eq_by_cmp row_cmp row) (all_rows tables counters))
    ∙ cells_of_flat (all_rows tables counters) row (all_sorted tables counters)
    ∙ ap cells_in (cells_all tables counters row)

pub counter_cells_read : (w : Widths) (tables : List Rows) (counters : CellMap) (row : Row) → NoCounterRow tables → row ≡ counter_row → cells_in counters ≡ cells_of (store_in w tables counters) row
counter_cells_read w tables counters row none is = sym (ap (cells_of (store_in w tables counters)) is ∙ cells_of_row w tables counters counter_row ∙ ap cells_in (row_of_counters tables counters none))

pub row_cells_read : (w : Widths) (tables : List Rows) (counters : CellMap) (row : Row) → row ≢ counter_row → cells_in (row_in (rows_at tables row.table) row.bytes) ≡ cells_of (store_in w tables counters) row
row_cells_read w tables counters row apart = sym (cells_of_row w tables counters row ∙ ap cells_in (row_of_other tables counters row apart))

filter_true : {A : Type 0} (xs : List A) → filter (λ (x : A). true) xs ≡ xs
filter_true [] = refl
filter_true {A = A} (x ∷ xs) = ap (λ (l : List A). x ∷ l) (filter_true xs)

-- point rows and their cells
is_points : (t : Table) → nat_eq (table_number t) 2 ≡ (eq_by_cmp nat_cmp 2 (table_number t) && true)
is_points Ids = refl
is_points Names = refl
is_points Points = refl

points_flat : (w : Widths) (tables : List Rows) (counters : CellMap) → point_entries (store_in w tables counters) ≡ flat (tagged Points (entries (rows_at tables Points)))
points_flat w tables counters =
    ap (filter (λ (e : Place × Content). nat_eq (table_number e.0.row.table) 2)) (flat_entries (all_rows tables counters) (all_sorted tables counters))
    ∙ filter_alike (λ (e : Place × Content). nat_eq (table_number e.0.row.table) 2) (λ (e : Place × Content). of_table Points (λ _. true) e.0.row) (λ e. is_points e.0.row.table) (flat (all_rows tables counters))
    ∙ filter_flat (of_table Points (λ _. true)) (all_rows tables counters)
    ∙ ap flat (filter_all tables counters Points (λ _. true))
    ∙ ap (λ (es : List (List ℕ × CellMap)). flat (tagged Points es)) (filter_true (entries (rows_at tables Points)))

sum_tagged : (t : Table) (es : List (List ℕ × CellMap)) → sum_by (λ (r : Row × CellMap). len r.1) (tagged t es) ≡ cells_among es
sum_tagged t [] = refl
sum_tagged t (e ∷ es) = sum_by-cons (λ (r : Row × CellMap). len r.1) (record { table = t; bytes = e.0 }, e.1) (tagged t es) ∙ ap (λ n. len e.1 + n) (sum_tagged t es) ∙ sym (sum_by-cons (λ (x : List ℕ × CellMap). len x.1) e es)

pub cells_counted : (w : Widths) (tables : List Rows) (counters : CellMap) → cells_among (entries (rows_at tables Points)) ≡ length (point_entries (store_in w tables counters))
cells_counted w tables counters = sym (ap length (points_flat w tables counters) ∙ length_flat (tagged Points (entries (rows_at tables Points))) ∙ sum_tagged Points (entries (rows_at tables Points)))

tagged_rows : (t : Table) (es : List (List ℕ × CellMap)) → length (map (λ (r : Row × CellMap). r.0) (tagged t es)) ≡ length es
tagged_rows t [] = refl
tagged_rows t (e ∷ es) = ap suc (tagged_rows t es)

tagged_sorted : (tables : List Rows) (counters : CellMap) → T (is_sorted row_cmp (tagged Points (entries (rows_at tables Points))))
tagged_sorted tables counters = Rattle.map_body.proofs.Tables.tagged_sorted Points (entries (rows_at tables Points)) (entries_sorted (rows_at tables Points))

pub rows_counted : (w : Widths) (tables : List Rows) (counters : CellMap) → NoneEmpty (rows_at tables Points) → length (entries (rows_at tables Points)) ≡ length (point_rows (store_in w tables counters))
rows_counted w tables counters none =
    sym (ap (λ (es : List (Place × Content)). length (keys (from_entries {R = row_cmp} (map (λ (e : Place × Content). (e.0.row, e.0.qual)) es)))) (points_flat w tables counters)
    ∙ ap length (keys_flat (tagged Points (entries (rows_at tables Points))) (tagged_sorted tables counters)
    (subst (λ (es : List (List ℕ × CellMap)). AllSome (tagged Points es)) (filter_true (entries (rows_at tables Points))) (entries_some (rows_at tables Points) none Points (λ _. true))))
    ∙ tagged_rows Points (entries (rows_at tables Points)))

-- what is found passes the test, and stands there
found_passes : {A : Type 0} (p : A → Bool) (xs : List A) (x : A) → std.find p xs ≡ Some x → p x ≡ true
found_passes p [] x is = absurd (no_some x is)
found_passes {A = A} p (y ∷ xs) x is = at (p y) refl is (found_passes p xs x)
  where
    at : (b : Bool) → p y ≡ b → cond b (Some y) (std.find p xs) ≡ Some x → (std.find p xs ≡ Some x → p x ≡ true) → p x ≡ true
    at true e h rest = ap p (sym (ap (λ o. unwrap_or o y) h)) ∙ e
    at false e h rest = rest h

found_stands : (p : List ℕ → Bool) (es : List (List ℕ × CellMap)) (e : List ℕ × CellMap) → T (is_sorted bytes_cmp es) → std.find (λ (x : List ℕ × CellMap). p x.0) es ≡ Some e → find bytes_cmp e.0 es ≡ Some e.1
found_stands p [] e up is = absurd (no_some e is)
found_stands p (y ∷ es) e up is = at (p y.0) is (found_stands p es e (T_right _ _ up))
  where
    later : find bytes_cmp e.0 es ≡ Some e.1 → find bytes_cmp e.0 (y ∷ es) ≡ Some e.1
    later h = one (same_or_not e.0 y.0)
      where
        one : (e.0 ≡ y.0) ⊎ (e.0 ≢ y.0) → find bytes_cmp e.0 (y ∷ es) ≡ Some e.1
        one (inl same) = absurd (no_some e.1 (sym (ap (λ (x : List ℕ). find bytes_cmp x es) same ∙ find_none bytes_cmp y.0 es (T_left _ _ up)) ∙ h))
        one (inr ne) = ap (λ b. cond b (Some y.1) (find bytes_cmp e.0 es)) (untied e.0 y.0 ne) ∙ h

    at : (b : Bool) → cond b (Some y) (std.find (λ (x : List ℕ × CellMap). p x.0) es) ≡ Some e → (std.find (λ (x : List ℕ × CellMap). p x.0) es ≡ Some e → find bytes_cmp e.0 es ≡ Some e.1) → find bytes_cmp e.0 (y ∷ es) ≡ Some e.1
    at true h rest =
        let same : y ≡ e = ap (λ o. unwrap_or o y) h in
        subst (λ (x : List ℕ × CellMap). find bytes_cmp x.0 (y ∷ es) ≡ Some x.1) same (ap (λ b. cond b (Some y.1) (find bytes_cmp y.0 es)) (tied y.0))
    at false h rest = later (rest h)

-- the least row of a range
together : (a b c : Bool) → ((a && b) && c) ≡ (a && (b && c))
together true b c = refl
together false b c = refl

head_tagged : (t : Table) (es : List (List ℕ × CellMap)) → option_map (λ (r : Row × CellMap). r.0) (head_of (tagged t es)) ≡ option_map (λ (e : List ℕ × CellMap). record { table = t; bytes = e.0 }) (head_of es)
head_tagged t [] = refl
head_tagged t (e ∷ es) = refl

mapped_twice : {A B C : Type 0} (f : A → B) (g : B → C) (o : Option A) → option_map (λ (x : A). g (f x)) o ≡ option_map g (option_map f o)
mapped_twice f g None = refl
mapped_twice f g (Some x) = refl

-- the row of the counters lies in no range of Ids
below_suc : (n : ℕ) → Less ≡ nat_cmp 0 (suc n)
below_suc n = nat_cmp_is 0 (suc n) Less (omega arith)

at_least : (low : ℕ) (from : List ℕ) → 1 ≤ low → is_lt (bytes_cmp from (low ∷ [])) ≡ false → is_lt (bytes_cmp (0 ∷ []) from) ≡ true
at_least low [] least e = let t : true ≡ false = e in cc
at_least low (zero ∷ from) least e = absurd (zero_first low least e)
  where
    zero_first : (low : ℕ) → 1 ≤ low → is_lt (bytes_cmp (zero ∷ from) (low ∷ [])) ≡ false → ⊥
    zero_first zero least e = omega (arith, least)
    zero_first (suc low) least e = let t : true ≡ false = ap (λ r. is_lt (ordering_then r (bytes_cmp from []))) (below_suc low) ∙ e in cc
at_least low (suc b ∷ from) least e = ap (λ r. is_lt (ordering_then r (bytes_cmp [] from))) (sym (below_suc b))

turned : (from : List ℕ) → is_lt (bytes_cmp (0 ∷ []) from) ≡ true → (to : List ℕ) → is_within from to (0 ∷ []) ≡ false
turned from e to = ap (λ b. not b && is_lt (bytes_cmp (0 ∷ []) to)) e

pub no_counters_within : (w : Widths) (t : Table) (from to : List ℕ) → InOneRange w t from to → t ≡ Ids → is_within from to (0 ∷ []) ≡ false
no_counters_within w Names from to range is = absurd range
no_counters_within w Points from to range is = absurd (differ is)
  where
    differ : Points ≡ Ids → ⊥
    differ e = cc
no_counters_within w Ids from to (inl r) is = turned from (at_least 1 from (omega arith) r.from_on) to
no_counters_within w Ids from to (inr (inl r)) is = turned from (at_least 65 from (omega arith) r.from_on) to
no_counters_within w Ids from to (inr (inr (inl r))) is = turned from (at_least 97 from (omega arith) r.from_on) to
no_counters_within w Ids from to (inr (inr (inr r))) is = turned from (at_least 110 from (omega arith) r.from_on) to

module _ (w : Widths) (tables : List Rows) (counters : CellMap) (t : Table) (from to : List ℕ) (range : InOneRange w t from to) (none : NoneEmpty (rows_at tables t)) where
  within : List (List ℕ × CellMap)
  within = filter (λ (e : List ℕ × CellMap). is_within from to e.0) (entries (rows_at tables t))

  rows_within : filter (λ (e : Place × Content). is_between t from to e.0.row) (entries (store_in w tables counters).cells) ≡ flat (tagged t (filter (λ (e : List ℕ × CellMap). is_within from to e.0) (entries (rows_at tables t))))
  rows_within =
      ap (filter (λ (e : Place × Content). is_between t from to e.0.row)) (flat_entries (all_rows tables counters) (all_sorted tables counters))
      ∙ filter_alike (λ (e : Place × Content). is_between t from to e.0.row) (λ (e : Place × Content). of_table t (is_within from to) e.0.row)
      (λ e. together (eq_by_cmp nat_cmp (table_number t) (table_number e.0.row.table)) (not (is_lt (bytes_cmp e.0.row.bytes from))) (is_lt (bytes_cmp e.0.row.bytes to))) (flat (all_rows tables counters))
      ∙ filter_flat (of_table t (is_within from to)) (all_rows tables counters)
      ∙ ap flat (filter_all tables counters t (is_within from to))
      ∙ ap (λ (es : List (List ℕ × CellMap)). flat (tagged t es)) (filter_sheet tables counters t (is_within from to) (no_counters_within w t from to range))

  found_of : Row → Found
  found_of row = record { row = row; cells = cells_of (store_in w tables counters) row }

  pub next_read : next_row_of (store_in w tables counters) t from to ≡ option_map (λ (e : List ℕ × CellMap). record { row = record { table = t; bytes = e.0 }; cells = cells_of (store_in w tables counters) (record { table = t; bytes = e.0 }) }) (std.find (λ (e : List ℕ × CellMap). is_within from to e.0) (entries (rows_at tables t)))
  next_read =
      ap (option_map (λ (e : Place × Content). record { row = e.0.row; cells = cells_of (store_in w tables counters) e.0.row }))
      (find_head (λ (e : Place × Content). is_between t from to e.0.row) (entries (store_in w tables counters).cells) ∙ ap head_of rows_within)
      ∙ mapped_twice (λ (e : Place × Content). e.0.row) (λ (r : Row). record { row = r; cells = cells_of (store_in w tables counters) r }) (head_of (flat (tagged t (filter (λ (e : List ℕ × CellMap). is_within from to e.0) (entries (rows_at tables t))))))
      ∙ ap (option_map (λ (r : Row). record { row = r; cells = cells_of (store_in w tables counters) r }))
      (head_flat (tagged t (filter (λ (e : List ℕ × CellMap). is_within from to e.0) (entries (rows_at tables t)))) (entries_some (rows_at tables t) none t (is_within from to))
      ∙ head_tagged t (filter (λ (e : List ℕ × CellMap). is_within from to e.0) (entries (rows_at tables t))))
      ∙ sym (mapped_twice (λ (e : List ℕ × CellMap). record { table = t; bytes = e.0 }) (λ (r : Row). record { row = r; cells = cells_of (store_in w tables counters) r }) (head_of (filter (λ (e : List ℕ × CellMap). is_within from to e.0) (entries (rows_at tables t)))))
      ∙ ap (option_map (λ (e : List ℕ × CellMap). record { row = record { table = t; bytes = e.0 }; cells = cells_of (store_in w tables counters) (record { table = t; bytes = e.0 }) })) (sym (find_head (λ (e : List ℕ × CellMap). is_within from to e.0) (entries (rows_at tables t))))

  pub some_next : (bytes : List ℕ) (cells : CellMap) → Some (bytes, cells) ≡ std.find (λ (e : List ℕ × CellMap). is_within from to e.0) (entries (rows_at tables t)) → Some (record { row = record { table = t; bytes = bytes }; cells = cells_in cells }) ≡ next_row_of (store_in w tables counters) t from to
  some_next bytes cells is =
      ap (λ (list : List Cell). Some (record { row = record { table = t; bytes = bytes }; cells = list })) (ap cells_in (sym here) ∙ row_cells_read w tables counters (record { table = t; bytes = bytes }) apart)
      ∙ ap (option_map (λ (e : List ℕ × CellMap). record { row = record { table = t; bytes = e.0 }; cells = cells_of (store_in w tables counters) (record { table = t; bytes = e.0 }) })) is
      ∙ sym next_read
    where
      here : row_in (rows_at tables t) bytes ≡ cells
      here = ap (λ o. unwrap_or o empty) (get-entries (rows_at tables t) bytes ∙ found_stands (is_within from to) (entries (rows_at tables t)) (bytes, cells) (entries_sorted (rows_at tables t)) (sym is))

      apart : (record { table = t; bytes = bytes }) ≢ counter_row
      apart e =
          let passes : is_within from to bytes ≡ true = found_passes (λ (x : List ℕ × CellMap). is_within from to x.0) (entries (rows_at tables t)) (bytes, cells) (sym is) in
          let not_there : is_within from to bytes ≡ false = ap (is_within from to) (ap (λ (r : Row). r.bytes) e) ∙ no_counters_within w t from to range (ap (λ (r : Row). r.table) e) in
          cc

  pub no_next : None ≡ std.find (λ (e : List ℕ × CellMap). is_within from to e.0) (entries (rows_at tables t)) → None ≡ next_row_of (store_in w tables counters) t from to
  no_next is = ap (option_map (λ (e : List ℕ × CellMap). record { row = record { table = t; bytes = e.0 }; cells = cells_of (store_in w tables counters) (record { table = t; bytes = e.0 }) })) is ∙ sym next_read

-- a body without a row
pub empty_whole : (w : Widths) (a b c : Rows) (counters : CellMap) → a ≡ empty → b ≡ empty → c ≡ empty → counters ≡ empty → store_in w (a ∷ b ∷ c ∷ []) counters ≡ no_cells w
empty_whole w a b c counters ea eb ec none = same_store (store_in w (a ∷ b ∷ c ∷ []) counters) (no_cells w) refl (λ p.
    look w (a ∷ b ∷ c ∷ []) counters p.row p.qual ∙ ap (λ (m : CellMap). option_map content_of (get m p.qual)) (no_row p.row)
    ∙ ap (option_map content_of) (get-empty {X = List ℕ × ℕ} bytes_cmp p.qual) ∙ sym (get-empty {X = Content} place_cmp p))
  where
    in_none : (r : Rows) (q : List ℕ) → r ≡ empty → row_in r q ≡ empty
    in_none r q e = ap (λ (x : Rows). row_in x q) e ∙ ap (λ o. unwrap_or o empty) (get-empty {X = CellMap} bytes_cmp q)

    each : (t : Table) (q : List ℕ) → row_in (rows_at (a ∷ b ∷ c ∷ []) t) q ≡ empty
    each Ids q = in_none a q ea
    each Names q = in_none b q eb
    each Points q = in_none c q ec

    no_row : (row : Row) → row_of (a ∷ b ∷ c ∷ []) counters row ≡ empty
    no_row row = at (one_or_other rows_total exact_rows row counter_row)
      where
        at : (row ≡ counter_row) ⊎ (row ≢ counter_row) → row_of (a ∷ b ∷ c ∷ []) counters row ≡ empty
        at (inl is) = ap (row_of (a ∷ b ∷ c ∷ []) counters) is ∙ row_of_counters (a ∷ b ∷ c ∷ []) counters (each Ids (0 ∷ [])) ∙ none
        at (inr ne) = row_of_other (a ∷ b ∷ c ∷ []) counters row ne ∙ each row.table row.bytes

pub empty_row : (r : Rows) (q : List ℕ) → r ≡ empty → row_in r q ≡ empty
empty_row r q e = ap (λ (x : Rows). row_in x q) e ∙ ap (λ o. unwrap_or o empty) (get-empty {X = CellMap} bytes_cmp q)

-- no cells of a row that isn't there
pub cells_none : cells_in empty ≡ []
cells_none = ap (map cells.cell_from) (nil (entries empty) (sym (len-entries {X = List ℕ × ℕ} {R = bytes_cmp} empty) ∙ len-empty bytes_cmp (List ℕ × ℕ)))
  where
    nil : (es : List (List ℕ × (List ℕ × ℕ))) → length es ≡ 0 → es ≡ []
    nil [] e = refl
    nil (x ∷ es) e = absurd (omega (arith, e))

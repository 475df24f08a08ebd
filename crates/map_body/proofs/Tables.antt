-- The rows of all tables.
use Rattle.std.proofs.Common.{◌≡◌, ◌≢◌, ◌⊎◌, inl, inr, ℕ, Bool, true, false, cond, T, List, [], ◌∷◌, ◌++◌, refl, sym, ap, subst, ◌∙◌, arith, nat_eq}
use Rattle.std.specs.Prelude.{Option, None, Some, unwrap_or, option_map, filter, ◌&&◌}
use Rattle.std.specs.declared.cmp.Ordering.{Ordering}
use Rattle.std.specs.declared.cmp.Ordering.TheVariants.{Less, Equal, Greater}
use Rattle.std.specs.Ordering.{nat_cmp, eq_by_cmp, is_eq, is_lt, ordering_then}
use Rattle.std.specs.Cmp.{nat_cmp_total, tied_itself}
use Rattle.std.specs.Cmp.Lexicographic.{nat_list_cmp_total}
use Rattle.std.specs.FinMap.{find, put, is_sorted, entries-insert, entries, empty, get, get-entries, get-insert, get-from_entries, entries_sorted, insert, len, empty_of_len}
use Rattle.std.specs.FinMap.Entries.{below_all, by_order}
use Rattle.std.proofs.lemmas.Bool.Decides.{nat_tests}
use Rattle.list_lemmas.proofs.BoolTests.{T_both, T_left, T_right}
use Rattle.row_key.specs.declared.tables.Table.{Table}
use Rattle.row_key.specs.declared.tables.Table.TheVariants.{Ids, Names, Points}
use Rattle.cell_model.specs.declared.row.Row.{Row}
use Rattle.list_lemmas.specs.BytesOrder.{bytes_cmp}
use Rattle.cell_model.specs.KindWidths.{Widths}
use Rattle.cell_model.specs.Store.{row_cmp, place_of, table_number, content_at}
use Rattle.cell_model.specs.Machine.{counter_row}
use Rattle.packed_cells.specs.Keyed.{CellMap}
use Rattle.map_body.specs.TableRows.{row_in, NoneEmpty}
use Rattle.row_pages.specs.RowMaps.{Rows}
use Rattle.map_body.specs.Whole.{rows_at, with_counters, tagged, all_rows, content_of, flat, store_in, NoCounterRow}
use Rattle.map_body.proofs.Maps.{exact, tied, untied, same_or_not, no_some}
use Rattle.cell_model.proofs.CallerLemmas.{places_total}
use Rattle.map_body.proofs.Flat.{AllBelow, AllSome, find_none, sorted_join, find_join, or_else, cells_at, find_flat}
use Rattle.list_lemmas.proofs.ListCuts.{nothing_behind as none_behind, filter_join}

one_table : (t : Table) → nat_cmp (table_number t) (table_number t) ≡ Equal
one_table t = tied_itself nat_cmp_total (table_number t)

-- the rows of one table are in order
tagged_below : (t : Table) (b : List ℕ) (es : List (List ℕ × CellMap)) → T (below_all bytes_cmp b es) → T (below_all row_cmp (record { table = t; bytes = b }) (tagged t es))
tagged_below t b [] h = tt
tagged_below t b (e ∷ es) h = T_both _ _ (subst (λ r. T (is_lt (ordering_then r (bytes_cmp b e.0)))) (sym (one_table t)) (T_left _ _ h)) (tagged_below t b es (T_right _ _ h))

pub tagged_sorted : (t : Table) (es : List (List ℕ × CellMap)) → T (is_sorted bytes_cmp es) → T (is_sorted row_cmp (tagged t es))
tagged_sorted t [] h = tt
tagged_sorted t (e ∷ es) h = T_both _ _ (tagged_below t e.0 es (T_left _ _ h)) (tagged_sorted t es (T_right _ _ h))

-- tables are in order
later_below : (row : Row) (t : Table) (es : List (List ℕ × CellMap)) → nat_cmp (table_number row.table) (table_number t) ≡ Less → T (below_all row_cmp row (tagged t es))
later_below row t [] h = tt
later_below row t (e ∷ es) h = T_both _ _ (subst (λ r. T (is_lt (ordering_then r (bytes_cmp row.bytes e.0)))) (sym h) tt) (later_below row t es h)

tagged_apart : (s t : Table) (es fs : List (List ℕ × CellMap)) → nat_cmp (table_number s) (table_number t) ≡ Less → AllBelow row_cmp (tagged s es) (tagged t fs)
tagged_apart s t [] fs h = tt
tagged_apart s t (e ∷ es) fs h = (later_below (record { table = s; bytes = e.0 }) t fs h, tagged_apart s t es fs h)

below_both : (row : Row) (xs ys : List (Row × CellMap)) → T (below_all row_cmp row xs) → T (below_all row_cmp row ys) → T (below_all row_cmp row (xs ++ ys))
below_both row [] ys p q = q
below_both row (x ∷ xs) ys p q = T_both _ _ (T_left _ _ p) (below_both row xs ys (T_right _ _ p) q)

apart_both : (xs ys zs : List (Row × CellMap)) → AllBelow row_cmp xs ys → AllBelow row_cmp xs zs → AllBelow row_cmp xs (ys ++ zs)
apart_both [] ys zs p q = tt
apart_both (x ∷ xs) ys zs p q = (below_both x.0 ys zs p.0 q.0, apart_both xs ys zs p.1 q.1)

-- the rows of a table with that of the counters
abbrev pub sheet : List Rows → CellMap → Table → Rows
sheet tables counters Ids = with_counters counters (rows_at tables Ids)
sheet tables counters Names = rows_at tables Names
sheet tables counters Points = rows_at tables Points

pub all_sorted : (tables : List Rows) (counters : CellMap) → T (is_sorted row_cmp (all_rows tables counters))
all_sorted tables counters =
    let i = entries (sheet tables counters Ids) in
    let n = entries (rows_at tables Names) in
    let p = entries (rows_at tables Points) in
    sorted_join row_cmp (tagged Ids i) (tagged Names n ++ tagged Points p) (tagged_sorted Ids i (entries_sorted (sheet tables counters Ids)))
    (sorted_join row_cmp (tagged Names n) (tagged Points p) (tagged_sorted Names n (entries_sorted (rows_at tables Names))) (tagged_sorted Points p (entries_sorted (rows_at tables Points))) (tagged_apart Names Points n p refl))
    (apart_both (tagged Ids i) (tagged Names n) (tagged Points p) (tagged_apart Ids Names i n refl) (tagged_apart Ids Points i p refl))

-- a row is found in its table
find_tagged : (t : Table) (b : List ℕ) (es : List (List ℕ × CellMap)) → find row_cmp (record { table = t; bytes = b }) (tagged t es) ≡ find bytes_cmp b es
find_tagged t b [] = refl
find_tagged t b (e ∷ es) =
    (λ i. cond (is_eq (ordering_then (one_table t i) (bytes_cmp b e.0))) (Some e.1) (find_tagged t b es i))

find_other : (row : Row) (t : Table) (es : List (List ℕ × CellMap)) → is_eq (nat_cmp (table_number row.table) (table_number t)) ≡ false → find row_cmp row (tagged t es) ≡ None
find_other row t [] h = refl
find_other row t (e ∷ es) h = ap (λ b. cond b (Some e.1) (find row_cmp row (tagged t es))) (untied_then (nat_cmp (table_number row.table) (table_number t)) (bytes_cmp row.bytes e.0) h) ∙ find_other row t es h
  where
    untied_then : (a b : Ordering) → is_eq a ≡ false → is_eq (ordering_then a b) ≡ false
    untied_then Less b h = refl
    untied_then Greater b h = refl
    untied_then Equal b h = cc

after_none : (o : Option CellMap) → or_else row_cmp o None ≡ o
after_none None = refl
after_none (Some x) = refl

pub find_all : (tables : List Rows) (counters : CellMap) (t : Table) (b : List ℕ) → find row_cmp (record { table = t; bytes = b }) (all_rows tables counters) ≡ get (sheet tables counters t) b
find_all tables counters t b =
    find_join row_cmp row (tagged Ids i) (tagged Names n ++ tagged Points p) ∙ ap (or_else row_cmp (find row_cmp row (tagged Ids i))) (find_join row_cmp row (tagged Names n) (tagged Points p)) ∙ at t
  where
    row : Row
    row = record { table = t; bytes = b }

    i : List (List ℕ × CellMap)
    i = entries (sheet tables counters Ids)

    n : List (List ℕ × CellMap)
    n = entries (rows_at tables Names)

    p : List (List ℕ × CellMap)
    p = entries (rows_at tables Points)

    at : (t : Table) → or_else row_cmp (find row_cmp (record { table = t; bytes = b }) (tagged Ids (entries (sheet tables counters Ids))))
        (or_else row_cmp (find row_cmp (record { table = t; bytes = b }) (tagged Names (entries (rows_at tables Names)))) (find row_cmp (record { table = t; bytes = b }) (tagged Points (entries (rows_at tables Points)))))
        ≡ get (sheet tables counters t) b
    at Ids =
        let none = find_other (record { table = Ids; bytes = b }) Names (entries (rows_at tables Names)) refl in
        let none_2 = find_other (record { table = Ids; bytes = b }) Points (entries (rows_at tables Points)) refl in
        (λ j. or_else row_cmp (find_tagged Ids b (entries (sheet tables counters Ids)) j) (or_else row_cmp (none j) (none_2 j)))
        ∙ after_none (find bytes_cmp b (entries (sheet tables counters Ids))) ∙ sym (get-entries (sheet tables counters Ids) b)
    at Names =
        let none = find_other (record { table = Names; bytes = b }) Ids (entries (sheet tables counters Ids)) refl in
        let none_2 = find_other (record { table = Names; bytes = b }) Points (entries (rows_at tables Points)) refl in
        (λ j. or_else row_cmp (none j) (or_else row_cmp (find_tagged Names b (entries (rows_at tables Names)) j) (none_2 j)))
        ∙ after_none (find bytes_cmp b (entries (rows_at tables Names))) ∙ sym (get-entries (rows_at tables Names) b)
    at Points =
        let none = find_other (record { table = Points; bytes = b }) Ids (entries (sheet tables counters Ids)) refl in
        let none_2 = find_other (record { table = Points; bytes = b }) Names (entries (rows_at tables Names)) refl in
        (λ j. or_else row_cmp (none j) (or_else row_cmp (none_2 j) (find_tagged Points b (entries (rows_at tables Points)) j)))
        ∙ sym (get-entries (rows_at tables Points) b)

-- the cells of a row
abbrev pub row_of : List Rows → CellMap → Row → CellMap
row_of tables counters row = row_in (sheet tables counters row.table) row.bytes

pub cells_all : (tables : List Rows) (counters : CellMap) (row : Row) → cells_at (all_rows tables counters) row ≡ row_of tables counters row
cells_all tables counters row = ap (λ o. unwrap_or o empty) (find_all tables counters row.table row.bytes)

-- what stands at a place
pub look : (w : Widths) (tables : List Rows) (counters : CellMap) (row : Row) (qual : List ℕ) → content_at (store_in w tables counters) row qual ≡ option_map content_of (get (row_of tables counters row) qual)
look w tables counters row qual =
    get-from_entries places_total (flat (all_rows tables counters)) (place_of row qual) ∙ find_flat (all_rows tables counters) row qual (all_sorted tables counters)
    ∙ ap (λ (m : CellMap). option_map content_of (get m qual)) (cells_all tables counters row)

-- the counters' row, and the others
pub row_of_counters : (tables : List Rows) (counters : CellMap) → NoCounterRow tables → row_of tables counters counter_row ≡ counters
row_of_counters tables counters none = at (nat_eq (len counters) 0) refl
  where
    at : (b : Bool) → nat_eq (len counters) 0 ≡ b → row_in (cond b (rows_at tables Ids) (insert (rows_at tables Ids) (0 ∷ []) counters)) (0 ∷ []) ≡ counters
    at true e = none ∙ sym (empty_of_len counters (grind (arith, nat_tests, e)))
    at false e = ap (λ o. unwrap_or o empty) (get-insert nat_list_cmp_total (rows_at tables Ids) (0 ∷ []) counters (0 ∷ []) ∙ ap (λ b. cond b (Some counters) (get (rows_at tables Ids) (0 ∷ []))) (tied (0 ∷ [])))

pub row_of_other : (tables : List Rows) (counters : CellMap) (row : Row) → row ≢ counter_row → row_of tables counters row ≡ row_in (rows_at tables row.table) row.bytes
row_of_other tables counters row ne = at row.table row.bytes ne
  where
    at : (t : Table) (b : List ℕ) → (record { table = t; bytes = b }) ≢ counter_row → row_in (sheet tables counters t) b ≡ row_in (rows_at tables t) b
    at Names b ne = refl
    at Points b ne = refl
    at Ids b ne = by_len (nat_eq (len counters) 0)
      where
        apart : b ≢ 0 ∷ []
        apart e = ne (λ i. record { table = Ids; bytes = e i })

        by_len : (c : Bool) → row_in (cond c (rows_at tables Ids) (insert (rows_at tables Ids) (0 ∷ []) counters)) b ≡ row_in (rows_at tables Ids) b
        by_len true = refl
        by_len false = ap (λ o. unwrap_or o empty) (get-insert nat_list_cmp_total (rows_at tables Ids) (0 ∷ []) counters b ∙ ap (λ c. cond c (Some counters) (get (rows_at tables Ids) b)) (untied b (0 ∷ []) apart))

-- rows of a table are with a cell
pub entries_some : (rows : Rows) → NoneEmpty rows → (t : Table) → (p : List ℕ → Bool) → AllSome (tagged t (filter (λ (e : List ℕ × CellMap). p e.0) (entries rows)))
entries_some rows none t p = each (entries rows) (entries_sorted rows) (λ q c is. none q c (get-entries rows q ∙ is))
  where
    each : (es : List (List ℕ × CellMap)) → T (is_sorted bytes_cmp es) → ((q : List ℕ) (c : CellMap) → find bytes_cmp q es ≡ Some c → c ≢ empty) → AllSome (tagged t (filter (λ (e : List ℕ × CellMap). p e.0) es))
    each [] up some = tt
    each (e ∷ es) up some = at (p e.0) (each es (T_right _ _ up) later)
      where
        later : (q : List ℕ) (c : CellMap) → find bytes_cmp q es ≡ Some c → c ≢ empty
        later q c is = one (same_or_not q e.0)
          where
            one : (q ≡ e.0) ⊎ (q ≢ e.0) → c ≢ empty
            one (inl same) = absurd (no_some c (sym (ap (λ (x : List ℕ). find bytes_cmp x es) same ∙ find_none bytes_cmp e.0 es (T_left _ _ up)) ∙ is))
            one (inr ne) = some q c (ap (λ b. cond b (Some e.1) (find bytes_cmp q es)) (untied q e.0 ne) ∙ is)

        here : e.1 ≢ empty
        here = some e.0 e.1 (ap (λ b. cond b (Some e.1) (find bytes_cmp e.0 es)) (tied e.0))

        at : (b : Bool) → AllSome (tagged t (filter (λ (x : List ℕ × CellMap). p x.0) es)) → AllSome (tagged t (cond b (e ∷ filter (λ (x : List ℕ × CellMap). p x.0) es) (filter (λ (x : List ℕ × CellMap). p x.0) es)))
        at true rest = (here, rest)
        at false rest = rest

-- the rows that pass a test
filter_tagged : (p : Row → Bool) (t : Table) (es : List (List ℕ × CellMap)) → filter (λ (r : Row × CellMap). p r.0) (tagged t es) ≡ tagged t (filter (λ (e : List ℕ × CellMap). p (record { table = t; bytes = e.0 })) es)
filter_tagged p t [] = refl
filter_tagged p t (e ∷ es) = at (p (record { table = t; bytes = e.0 })) (filter_tagged p t es)
  where
    at : (b : Bool) → filter (λ (r : Row × CellMap). p r.0) (tagged t es) ≡ tagged t (filter (λ (x : List ℕ × CellMap). p (record { table = t; bytes = x.0 })) es)
        → cond b ((record { table = t; bytes = e.0 }, e.1) ∷ filter (λ (r : Row × CellMap). p r.0) (tagged t es)) (filter (λ (r : Row × CellMap). p r.0) (tagged t es))
        ≡ tagged t (cond b (e ∷ filter (λ (x : List ℕ × CellMap). p (record { table = t; bytes = x.0 })) es) (filter (λ (x : List ℕ × CellMap). p (record { table = t; bytes = x.0 })) es))
    at true h = ap (λ (l : List (Row × CellMap)). (record { table = t; bytes = e.0 }, e.1) ∷ l) h
    at false h = h

-- a test that goes by the table too
abbrev pub of_table : Table → (List ℕ → Bool) → Row → Bool
of_table t p row = eq_by_cmp nat_cmp (table_number t) (table_number row.table) && p row.bytes

filter_out : (t other : Table) (p : List ℕ → Bool) → eq_by_cmp nat_cmp (table_number t) (table_number other) ≡ false → (es : List (List ℕ × CellMap)) → filter (λ (r : Row × CellMap). of_table t p r.0) (tagged other es) ≡ []
filter_out t other p apart [] = refl
filter_out t other p apart (e ∷ es) =
    ap (λ b. cond (b && p e.0) ((record { table = other; bytes = e.0 }, e.1) ∷ filter (λ (r : Row × CellMap). of_table t p r.0) (tagged other es)) (filter (λ (r : Row × CellMap). of_table t p r.0) (tagged other es))) apart
    ∙ filter_out t other p apart es

filter_in : (t : Table) (p : List ℕ → Bool) (es : List (List ℕ × CellMap)) → filter (λ (r : Row × CellMap). of_table t p r.0) (tagged t es) ≡ tagged t (filter (λ (e : List ℕ × CellMap). p e.0) es)
filter_in t p [] = refl
filter_in t p (e ∷ es) =
    ap (λ o. cond (is_eq o && p e.0) ((record { table = t; bytes = e.0 }, e.1) ∷ filter (λ (r : Row × CellMap). of_table t p r.0) (tagged t es)) (filter (λ (r : Row × CellMap). of_table t p r.0) (tagged t es))) (one_table t)
    ∙ at (p e.0) (filter_in t p es)
  where
    at : (b : Bool) → filter (λ (r : Row × CellMap). of_table t p r.0) (tagged t es) ≡ tagged t (filter (λ (x : List ℕ × CellMap). p x.0) es)
        → cond b ((record { table = t; bytes = e.0 }, e.1) ∷ filter (λ (r : Row × CellMap). of_table t p r.0) (tagged t es)) (filter (λ (r : Row × CellMap). of_table t p r.0) (tagged t es))
        ≡ tagged t (cond b (e ∷ filter (λ (x : List ℕ × CellMap). p x.0) es) (filter (λ (x : List ℕ × CellMap). p x.0) es))
    at true h = ap (λ (l : List (Row × CellMap)). (record { table = t; bytes = e.0 }, e.1) ∷ l) h
    at false h = h

pub filter_all : (tables : List Rows) (counters : CellMap) (t : Table) (p : List ℕ → Bool) → filter (λ (r : Row × CellMap). of_table t p r.0) (all_rows tables counters) ≡ tagged t (filter (λ (e : List ℕ × CellMap). p e.0) (entries (sheet tables counters t)))
filter_all tables counters t p =
    filter_join (λ (r : Row × CellMap). of_table t p r.0) (tagged Ids (entries (sheet tables counters Ids))) (tagged Names (entries (rows_at tables Names)) ++ tagged Points (entries (rows_at tables Points)))
    ∙ ap (λ (l : List (Row × CellMap)). filter (λ (r : Row × CellMap). of_table t p r.0) (tagged Ids (entries (sheet tables counters Ids))) ++ l)
    (filter_join (λ (r : Row × CellMap). of_table t p r.0) (tagged Names (entries (rows_at tables Names))) (tagged Points (entries (rows_at tables Points))))
    ∙ at t
  where
    at : (t : Table) → filter (λ (r : Row × CellMap). of_table t p r.0) (tagged Ids (entries (sheet tables counters Ids)))
        ++ (filter (λ (r : Row × CellMap). of_table t p r.0) (tagged Names (entries (rows_at tables Names))) ++ filter (λ (r : Row × CellMap). of_table t p r.0) (tagged Points (entries (rows_at tables Points))))
        ≡ tagged t (filter (λ (e : List ℕ × CellMap). p e.0) (entries (sheet tables counters t)))
    at Ids = (λ i. filter_in Ids p (entries (sheet tables counters Ids)) i ++ (filter_out Ids Names p refl (entries (rows_at tables Names)) i ++ filter_out Ids Points p refl (entries (rows_at tables Points)) i)) ∙ none_behind _
    at Names = (λ i. filter_out Names Ids p refl (entries (sheet tables counters Ids)) i ++ (filter_in Names p (entries (rows_at tables Names)) i ++ filter_out Names Points p refl (entries (rows_at tables Points)) i)) ∙ none_behind _
    at Points = (λ i. filter_out Points Ids p refl (entries (sheet tables counters Ids)) i ++ (filter_out Points Names p refl (entries (rows_at tables Names)) i ++ filter_in Points p (entries (rows_at tables Points)) i))

-- the counters' row among the rows of Ids
pub filter_put : (p : List ℕ → Bool) (k : List ℕ) (c : CellMap) (es : List (List ℕ × CellMap)) → p k ≡ false → filter (λ (e : List ℕ × CellMap). p e.0) (put bytes_cmp k c es) ≡ filter (λ (e : List ℕ × CellMap). p e.0) es
filter_put p k c [] out = ap (λ b. cond b ((k, c) ∷ []) []) out
filter_put p k c (e ∷ es) out = at (bytes_cmp k e.0) refl (filter_put p k c es out)
  where
    at : (r : Ordering) → bytes_cmp k e.0 ≡ r → filter (λ (x : List ℕ × CellMap). p x.0) (put bytes_cmp k c es) ≡ filter (λ (x : List ℕ × CellMap). p x.0) es
        → filter (λ (x : List ℕ × CellMap). p x.0) (by_order r ((k, c) ∷ e ∷ es) ((e.0, c) ∷ es) (e ∷ put bytes_cmp k c es)) ≡ filter (λ (x : List ℕ × CellMap). p x.0) (e ∷ es)
    at Less is rest = ap (λ b. cond b ((k, c) ∷ filter (λ (x : List ℕ × CellMap). p x.0) (e ∷ es)) (filter (λ (x : List ℕ × CellMap). p x.0) (e ∷ es))) out
    at Equal is rest =
        let none : p e.0 ≡ false = ap p (sym (exact k e.0 is)) ∙ out in
        ap (λ b. cond b ((e.0, c) ∷ filter (λ (x : List ℕ × CellMap). p x.0) es) (filter (λ (x : List ℕ × CellMap). p x.0) es)) none
        ∙ sym (ap (λ b. cond b (e ∷ filter (λ (x : List ℕ × CellMap). p x.0) es) (filter (λ (x : List ℕ × CellMap). p x.0) es)) none)
    at Greater is rest = ap (λ (l : List (List ℕ × CellMap)). cond (p e.0) (e ∷ l) l) rest

pub filter_sheet : (tables : List Rows) (counters : CellMap) (t : Table) (p : List ℕ → Bool) → (t ≡ Ids → p (0 ∷ []) ≡ false) → filter (λ (e : List ℕ × CellMap). p e.0) (entries (sheet tables counters t)) ≡ filter (λ (e : List ℕ × CellMap). p e.0) (entries (rows_at tables t))
filter_sheet tables counters Names p out = refl
filter_sheet tables counters Points p out = refl
filter_sheet tables counters Ids p out = at (nat_eq (len counters) 0)
  where
    at : (b : Bool) → filter (λ (e : List ℕ × CellMap). p e.0) (entries (cond b (rows_at tables Ids) (insert (rows_at tables Ids) (0 ∷ []) counters))) ≡ filter (λ (e : List ℕ × CellMap). p e.0) (entries (rows_at tables Ids))
    at true = refl
    at false = ap (filter (λ (e : List ℕ × CellMap). p e.0)) (entries-insert nat_list_cmp_total (rows_at tables Ids) (0 ∷ []) counters) ∙ filter_put p (0 ∷ []) counters (entries (rows_at tables Ids)) (out refl)

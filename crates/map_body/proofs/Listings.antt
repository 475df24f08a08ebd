-- The lines of all rows.
use Rattle.std.proofs.Common.{◌≡◌, ℕ, zero, suc, ◌+◌, ◌≤◌, ◌<◌, Bool, true, false, cond, T, List, [], ◌∷◌, ◌++◌, length, map, refl, sym, ap, subst, ◌∙◌, arith, nat_eq}
use Rattle.std.specs.Prelude.{Option, None, Some, unwrap_or, take, slice_index_or, not}
use Rattle.std.specs.declared.cmp.Ordering.{Ordering}
use Rattle.std.specs.declared.cmp.Ordering.TheVariants.{Less, Equal, Greater}
use Rattle.std.specs.Ordering.{is_eq, is_lt, is_le, ordering_reverse}
use Rattle.std.specs.Cmp.Lexicographic.{nat_list_cmp_total}
use Rattle.std.specs.FinMap.{find, put, is_sorted, entries, from_entries, from_entries_push, empty, get, get-entries, insert, entries-insert, entries_sorted, len, len-entries}
use Rattle.std.specs.FinMap.Entries.{below_all, by_order}
use Rattle.std.proofs.lemmas.Bool.Decides.{nat_tests}
use Rattle.std.proofs.lemmas.List.{get_or-take, get_or_default}
use Rattle.row_key.specs.declared.tables.Table.{Table}
use Rattle.row_key.specs.declared.tables.Table.TheVariants.{Ids, Names, Points}
use Rattle.cell_model.specs.declared.row.Row.{Row}
use Rattle.cell_model.specs.declared.row.ListLine.{ListLine}
use Rattle.cell_model.specs.declared.events.Place.{Place}
use Rattle.cell_model.specs.declared.events.Content.{Content}
use Rattle.list_lemmas.specs.BytesOrder.{bytes_cmp}
use Rattle.cell_model.specs.KindWidths.{Widths}
use Rattle.cell_model.specs.Store.{StoreCells, place_cmp, insert as insert_at}
use Rattle.cell_model.specs.Counts.{line_of, lines_of}
use Rattle.cell_model.specs.Rising.{LinesRise, place_of_line}
use Rattle.list_lemmas.proofs.BoolTests.{T_both, T_left, T_right, T_less}
use Rattle.cell_model.specs.Listed.{store_of, entry_of_line}
use Rattle.cell_model.specs.Machine.{counter_row}
use Rattle.packed_cells.specs.Keyed.{CellMap}
use Rattle.map_body.specs.TableRows.{row_in, NoneEmpty}
use Rattle.row_pages.specs.RowMaps.{Rows, rows_below, rows_from}
use Rattle.map_body.specs.Whole.{rows_at, tagged, all_rows, placed, flat, store_in, lines_in, NoCounterRow}
use Rattle.map_body.proofs.Maps.{no_some}
use Rattle.cell_model.proofs.CallerLemmas.{places_total, exact_places}
use Rattle.map_body.proofs.Flat.{flat_entries}
use Rattle.map_body.proofs.Tables.{sheet, all_sorted}
use Rattle.list_lemmas.proofs.ListCuts.{joined, take_next, map_join}

further : (x y : List ℕ) (es : List (List ℕ × CellMap)) → bytes_cmp x y ≡ Less → T (below_all bytes_cmp y es) → T (below_all bytes_cmp x es)
further x y [] p h = tt
further x y (e ∷ es) p h = T_both _ _ (subst (λ r. T (is_lt r)) (sym (nat_list_cmp_total.trans x y e.0 p (T_less _ (T_left _ _ h)))) tt) (further x y es p (T_right _ _ h))

-- the rows behind a key
behind : (k : List ℕ) (es : List (List ℕ × CellMap)) → T (below_all bytes_cmp k es) → (rows_below k es ≡ []) × (rows_from k es ≡ es)
behind k [] h = (refl, refl)
behind k (e ∷ es) h =
    let rest = behind k es (T_right _ _ h) in
    let is : bytes_cmp k e.0 ≡ Less = T_less _ (T_left _ _ h) in
    (ap (λ r. cond (not (is_le r)) (e ∷ rows_below k es) (rows_below k es)) is ∙ rest.0, ap (λ r. cond (is_le r) (e ∷ rows_from k es) (rows_from k es)) is ∙ ap (λ (l : List (List ℕ × CellMap)). e ∷ l) rest.1)

-- rows are those below a key and those from it on, and a new row stands between
split_rows : (k : List ℕ) (v : CellMap) (es : List (List ℕ × CellMap)) → T (is_sorted bytes_cmp es) → find bytes_cmp k es ≡ None → (es ≡ rows_below k es ++ rows_from k es) × (put bytes_cmp k v es ≡ rows_below k es ++ (k, v) ∷ rows_from k es)
split_rows k v [] up none = (refl, refl)
split_rows k v (e ∷ es) up none = at (bytes_cmp k e.0) refl (split_rows k v es (T_right _ _ up))
  where
    at : (r : Ordering) → bytes_cmp k e.0 ≡ r → (find bytes_cmp k es ≡ None → (es ≡ rows_below k es ++ rows_from k es) × (put bytes_cmp k v es ≡ rows_below k es ++ (k, v) ∷ rows_from k es)) → (e ∷ es ≡ rows_below k (e ∷ es) ++ rows_from k (e ∷ es)) × (put bytes_cmp k v (e ∷ es) ≡ rows_below k (e ∷ es) ++ (k, v) ∷ rows_from k (e ∷ es))
    at Less is _ =
        let b = behind k (e ∷ es) (T_both _ _ (subst (λ r. T (is_lt r)) (sym is) tt) (further k e.0 es is (T_left _ _ up))) in (
          (λ i. sym b.0 i ++ sym b.1 i),
          ap (λ r. by_order r ((k, v) ∷ e ∷ es) ((e.0, v) ∷ es) (e ∷ put bytes_cmp k v es)) is ∙ (λ i. sym b.0 i ++ (k, v) ∷ sym b.1 i),
        )
    at Equal is _ = absurd (no_some e.1 (sym none ∙ ap (λ r. cond (is_eq r) (Some e.1) (find bytes_cmp k es)) is))
    at Greater is go =
        let rest = go (sym (ap (λ r. cond (is_eq r) (Some e.1) (find bytes_cmp k es)) is) ∙ none) in
        let low : rows_below k (e ∷ es) ≡ e ∷ rows_below k es = ap (λ r. cond (not (is_le r)) (e ∷ rows_below k es) (rows_below k es)) is in
        let high : rows_from k (e ∷ es) ≡ rows_from k es = ap (λ r. cond (is_le r) (e ∷ rows_from k es) (rows_from k es)) is in (
          ap (λ (l : List (List ℕ × CellMap)). e ∷ l) rest.0 ∙ (λ i. sym low i ++ sym high i),
          ap (λ r. by_order r ((k, v) ∷ e ∷ es) ((e.0, v) ∷ es) (e ∷ put bytes_cmp k v es)) is ∙ ap (λ (l : List (List ℕ × CellMap)). e ∷ l) rest.1 ∙ (λ i. sym low i ++ (k, v) ∷ sym high i),
        )

pub from_none : (es : List (List ℕ × CellMap)) → rows_from [] es ≡ es
from_none [] = refl
from_none (e ∷ es) = at e.0 (from_none es)
  where
    at : (q : List ℕ) → rows_from [] es ≡ es → cond (is_le (bytes_cmp [] q)) (e ∷ rows_from [] es) (rows_from [] es) ≡ e ∷ es
    at [] h = ap (λ (l : List (List ℕ × CellMap)). e ∷ l) h
    at (x ∷ q) h = ap (λ (l : List (List ℕ × CellMap)). e ∷ l) h

-- lines of rows behind rows
flat_join : (xs ys : List (Row × CellMap)) → flat (xs ++ ys) ≡ flat xs ++ flat ys
flat_join [] ys = refl
flat_join (x ∷ xs) ys = ap (λ (l : List (Place × Content)). map (placed x.0) (entries x.1) ++ l) (flat_join xs ys) ∙ sym (joined (map (placed x.0) (entries x.1)) (flat xs) (flat ys))

lines_join : (xs ys : List (Row × CellMap)) → map line_of (flat (xs ++ ys)) ≡ map line_of (flat xs) ++ map line_of (flat ys)
lines_join xs ys = ap (map line_of) (flat_join xs ys) ∙ map_join line_of (flat xs) (flat ys)

tagged_join : (t : Table) (xs ys : List (List ℕ × CellMap)) → tagged t (xs ++ ys) ≡ tagged t xs ++ tagged t ys
tagged_join t xs ys = map_join (λ (r : List ℕ × CellMap). (record { table = t; bytes = r.0 }, r.1)) xs ys

lines_split : (t : Table) (xs ys : List (List ℕ × CellMap)) → lines_in t (xs ++ ys) ≡ lines_in t xs ++ lines_in t ys
lines_split t xs ys = ap (λ (l : List (Row × CellMap)). map line_of (flat l)) (tagged_join t xs ys) ∙ lines_join (tagged t xs) (tagged t ys)

no_row : (rows : Rows) (k : List ℕ) → NoneEmpty rows → row_in rows k ≡ empty → get rows k ≡ None
no_row rows k none is = at (get rows k) refl
  where
    at : (o : Option CellMap) → get rows k ≡ o → o ≡ None
    at None e = refl
    at (Some c) e = absurd (none k c e (sym (ap (λ o. unwrap_or o empty) e) ∙ is))

no_cells : (m : CellMap) → len m ≡ 0 → entries m ≡ []
no_cells m e = nil (entries m) (sym (len-entries m) ∙ e)
  where
    nil : (es : List (List ℕ × (List ℕ × ℕ))) → length es ≡ 0 → es ≡ []
    nil [] e = refl
    nil (x ∷ es) e = absurd (omega (arith, e))

-- the lines of Ids: the rows below that of the counters, the counters, and the rows behind it
lines_of_ids : (tables : List Rows) (counters : CellMap) → NoCounterRow tables → NoneEmpty (rows_at tables Ids)
    → lines_in Ids (entries (sheet tables counters Ids)) ≡ lines_in Ids (rows_below (0 ∷ []) (entries (rows_at tables Ids))) ++ (map line_of (map (placed counter_row) (entries counters)) ++ lines_in Ids (rows_from (0 ∷ []) (entries (rows_at tables Ids))))
lines_of_ids tables counters none some = at (nat_eq (len counters) 0) refl
  where
    es : List (List ℕ × CellMap)
    es = entries (rows_at tables Ids)

    parts : (entries (rows_at tables Ids) ≡ rows_below (0 ∷ []) (entries (rows_at tables Ids)) ++ rows_from (0 ∷ []) (entries (rows_at tables Ids)))
        × (put bytes_cmp (0 ∷ []) counters (entries (rows_at tables Ids)) ≡ rows_below (0 ∷ []) (entries (rows_at tables Ids)) ++ (0 ∷ [], counters) ∷ rows_from (0 ∷ []) (entries (rows_at tables Ids)))
    parts = split_rows (0 ∷ []) counters (entries (rows_at tables Ids)) (entries_sorted (rows_at tables Ids)) (sym (get-entries (rows_at tables Ids) (0 ∷ [])) ∙ no_row (rows_at tables Ids) (0 ∷ []) some none)

    low : List ListLine
    low = lines_in Ids (rows_below (0 ∷ []) (entries (rows_at tables Ids)))

    high : List ListLine
    high = lines_in Ids (rows_from (0 ∷ []) (entries (rows_at tables Ids)))

    at : (b : Bool) → nat_eq (len counters) 0 ≡ b → lines_in Ids (entries (cond b (rows_at tables Ids) (insert (rows_at tables Ids) (0 ∷ []) counters)))
        ≡ lines_in Ids (rows_below (0 ∷ []) (entries (rows_at tables Ids))) ++ (map line_of (map (placed counter_row) (entries counters)) ++ lines_in Ids (rows_from (0 ∷ []) (entries (rows_at tables Ids))))
    at true e =
        ap (lines_in Ids) parts.0 ∙ lines_split Ids (rows_below (0 ∷ []) (entries (rows_at tables Ids))) (rows_from (0 ∷ []) (entries (rows_at tables Ids)))
        ∙ ap (λ (l : List (List ℕ × (List ℕ × ℕ))). lines_in Ids (rows_below (0 ∷ []) (entries (rows_at tables Ids))) ++ (map line_of (map (placed counter_row) l) ++ lines_in Ids (rows_from (0 ∷ []) (entries (rows_at tables Ids)))))
        (sym (no_cells counters (grind (arith, nat_tests, e))))
    at false e =
        ap (lines_in Ids) (entries-insert nat_list_cmp_total (rows_at tables Ids) (0 ∷ []) counters ∙ parts.1)
        ∙ lines_split Ids (rows_below (0 ∷ []) (entries (rows_at tables Ids))) ((0 ∷ [], counters) ∷ rows_from (0 ∷ []) (entries (rows_at tables Ids)))
        ∙ ap (λ (l : List ListLine). lines_in Ids (rows_below (0 ∷ []) (entries (rows_at tables Ids))) ++ l)
        (map_join line_of (map (placed counter_row) (entries counters)) (flat (tagged Ids (rows_from (0 ∷ []) (entries (rows_at tables Ids))))))

-- what is listed part by part is all
pub all_listed : (w : Widths) (tables : List Rows) (counters : CellMap) (ids names points : Rows) (none one two three four five : List ListLine) → NoCounterRow tables → NoneEmpty ids → ids ≡ rows_at tables Ids → names ≡ rows_at tables Names → points ≡ rows_at tables Points
    → none ≡ [] → one ≡ none ++ lines_in Ids (rows_below (0 ∷ []) (entries ids)) → two ≡ one ++ map line_of (map (placed counter_row) (entries counters)) → three ≡ two ++ lines_in Ids (rows_from (0 ∷ []) (entries ids))
    → four ≡ three ++ lines_in Names (rows_from [] (entries names)) → five ≡ four ++ lines_in Points (rows_from [] (entries points)) → five ≡ lines_of (store_in w tables counters)
all_listed w tables counters ids names points none one two three four five no_row_there some i n p e0 e1 e2 e3 e4 e5 =
    let a = lines_in Ids (rows_below (0 ∷ []) (entries ids)) in
    let b = map line_of (map (placed counter_row) (entries counters)) in
    let c = lines_in Ids (rows_from (0 ∷ []) (entries ids)) in
    let d = lines_in Names (entries names) in
    let f = lines_in Points (entries points) in
    let n_all : lines_in Names (rows_from [] (entries names)) ≡ d = ap (lines_in Names) (from_none (entries names)) in
    let p_all : lines_in Points (rows_from [] (entries points)) ≡ f = ap (lines_in Points) (from_none (entries points)) in
    let start : one ≡ a = e1 ∙ ap (λ (l : List ListLine). l ++ a) e0 in
    let third : three ≡ a ++ (b ++ c) = e3 ∙ ap (λ (l : List ListLine). l ++ c) (e2 ∙ ap (λ (l : List ListLine). l ++ b) start) ∙ joined a b c in
    let ids_all : a ++ (b ++ c) ≡ lines_in Ids (entries (sheet tables counters Ids)) = sym (lines_of_ids tables counters no_row_there (subst NoneEmpty i some) ∙ ap (λ (r : Rows). lines_in Ids (rows_below (0 ∷ []) (entries r)) ++ (b ++ lines_in Ids (rows_from (0 ∷ []) (entries r)))) (sym i)) in
    let s = lines_in Ids (entries (sheet tables counters Ids)) in
    let listed : five ≡ s ++ (d ++ f) = e5 ∙ (λ k. (e4 ∙ (λ j. (third ∙ ids_all) j ++ n_all j)) k ++ p_all k) ∙ joined s d f in
    let whole : lines_of (store_in w tables counters) ≡ s ++ (lines_in Names (entries (rows_at tables Names)) ++ lines_in Points (entries (rows_at tables Points))) =
    ap (map line_of) (flat_entries (all_rows tables counters) (all_sorted tables counters))
    ∙ lines_join (tagged Ids (entries (sheet tables counters Ids))) (tagged Names (entries (rows_at tables Names)) ++ tagged Points (entries (rows_at tables Points)))
    ∙ ap (λ (l : List ListLine). s ++ l) (lines_join (tagged Names (entries (rows_at tables Names))) (tagged Points (entries (rows_at tables Points)))) in
    listed ∙ (λ k. s ++ (lines_in Names (entries (n k)) ++ lines_in Points (entries (p k)))) ∙ sym whole

-- the store of lines that rise, line by line
none_before : (xs : List ListLine) (k : Place) → ((j : ℕ) (d : ListLine) → j < length xs → place_cmp (place_of_line (slice_index_or xs j d)) k ≡ Less) → find place_cmp k (map entry_of_line xs) ≡ None
none_before [] k all = refl
none_before (x ∷ xs) k all =
    let greater : place_cmp k (place_of_line x) ≡ Greater = places_total.antisymm k (place_of_line x) ∙ ap ordering_reverse (all 0 x (omega arith)) in
    ap (λ r. cond (is_eq r) (Some (entry_of_line x).1) (find place_cmp k (map entry_of_line xs))) greater ∙ none_before xs k (λ j d lt. all (suc j) d (omega arith))

taken_length : {A : Type 0} (xs : List A) (i : ℕ) → length (take i xs) ≤ i
taken_length [] zero = omega arith
taken_length [] (suc i) = omega arith
taken_length (x ∷ xs) zero = omega arith
taken_length (x ∷ xs) (suc i) = let t = taken_length xs i in omega (arith, t)

-- the cells that lines tell
abbrev told : List ListLine → StoreCells
told lines = from_entries (map entry_of_line lines)

pub store_next : (w : Widths) (lines : List ListLine) (i : ℕ) (d : ListLine) → LinesRise lines → i < length lines
    → store_of (record { widths = w; lines = take (i + 1) lines }) ≡ insert_at (store_of (record { widths = w; lines = take i lines })) (place_of_line (slice_index_or lines i d)) (entry_of_line (slice_index_or lines i d)).1
store_next w lines i d rise lt = λ k. record { widths = w; cells = cells_next k }
  where
    cells_next : told (take (i + 1) lines) ≡ insert (told (take i lines)) (place_of_line (slice_index_or lines i d)) (entry_of_line (slice_index_or lines i d)).1
    cells_next =
        let line = slice_index_or lines i d in
        ap told (take_next lines i d lt)
        ∙ ap (from_entries {R = place_cmp}) (map_join entry_of_line (take i lines) (line ∷ []))
        ∙ from_entries_push places_total exact_places (map entry_of_line (take i lines)) (place_of_line line) (entry_of_line line).1
        (none_before (take i lines) (place_of_line line) (λ j e below.
        let len_le = taken_length lines i in
        ap (λ (x : ListLine). place_cmp (place_of_line x) (place_of_line line)) (get_or-take i lines j e (omega (arith, below, len_le)))
        ∙ ap (λ (x : ListLine). place_cmp (place_of_line x) (place_of_line line)) (get_or_default lines j e d (omega (arith, below, len_le, lt)))
        ∙ rise j i d (omega (arith, below, len_le)) lt))

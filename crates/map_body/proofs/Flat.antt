-- Rows of cells as the entries of a store.
use Rattle.std.proofs.Common.{◌≡◌, ◌≢◌, ◌⊎◌, inl, inr, ℕ, suc, ◌+◌, Bool, true, false, cond, T, List, [], ◌∷◌, ◌++◌, length, refl, sym, ap, subst, ◌∙◌, arith}
use Rattle.std.specs.Prelude.{Option, None, Some, unwrap_or, option_map, map, filter, sum_by, ◌&&◌, is_some}
use Rattle.std.specs.Prelude as std
use Rattle.std.specs.declared.cmp.Ordering.{Ordering}
use Rattle.std.specs.declared.cmp.Ordering.TheVariants.{Less}
use Rattle.std.specs.Ordering.{eq_by_cmp, is_eq, is_lt, ordering_then}
use Rattle.std.specs.Cmp.{IsTotalOrder}
use Rattle.std.specs.FinMap.{FinMap, find, put, is_sorted, entries, from_entries, from_sorted, empty, get, get-empty, get-entries, get-from_entries, get-from_sorted, entries-from_sorted, entries-insert, entries_sorted, same_map, len, len-entries, empty_of_len, IsAntisymmetric, keys}
use Rattle.std.specs.FinMap.Entries.{below_all}
use Rattle.cell_model.specs.declared.row.Row.{Row}
use Rattle.cell_model.specs.declared.events.Place.{Place}
use Rattle.cell_model.specs.declared.events.Content.{Content}
use Rattle.qual_codec.specs.declared.cells.Cell.{Cell}
use Rattle.std.proofs.lemmas.List.Sums.{sum_by-cons}
use Rattle.list_lemmas.proofs.ListCuts.{filter_join, map_join, nothing_behind}
use Rattle.list_lemmas.proofs.BoolTests.{T_both, T_left, T_right, T_less}
use Rattle.list_lemmas.specs.BytesOrder.{bytes_cmp}
use Rattle.cell_model.specs.Store.{row_cmp, place_cmp, place_of, cell_of}
use Rattle.packed_cells.specs.Keyed.{CellMap, cell_from, cells_in}
use Rattle.map_body.specs.Whole.{content_of, placed, flat}
use Rattle.cell_model.proofs.CallerLemmas.{rows_total, places_total, exact_rows, exact_places}
use Rattle.map_body.proofs.Orders.{same_row, ties, parts, one_or_other}

-- sorted lists, one behind the other
module _ {K X : Type 0} (R : K → K → Ordering) where
  abbrev pub AllBelow : List (K × X) → List (K × X) → Type 0
  AllBelow [] ys = Unit {0}
  AllBelow (x ∷ xs) ys = T (below_all R x.0 ys) × AllBelow xs ys

  below_join : (k : K) (xs ys : List (K × X)) → T (below_all R k xs) → T (below_all R k ys) → T (below_all R k (xs ++ ys))
  below_join k [] ys p q = q
  below_join k (x ∷ xs) ys p q = T_both _ _ (T_left _ _ p) (below_join k xs ys (T_right _ _ p) q)

  pub sorted_join : (xs ys : List (K × X)) → T (is_sorted R xs) → T (is_sorted R ys) → AllBelow xs ys → T (is_sorted R (xs ++ ys))
  sorted_join [] ys p q b = q
  sorted_join (x ∷ xs) ys p q b = T_both _ _ (below_join x.0 xs ys (T_left _ _ p) b.0) (sorted_join xs ys (T_right _ _ p) q b.1)

  -- what is found in one list, or else in the next
  abbrev pub or_else : Option X → Option X → Option X
  or_else None o = o
  or_else (Some x) o = Some x

  pub find_join : (q : K) (xs ys : List (K × X)) → find R q (xs ++ ys) ≡ or_else (find R q xs) (find R q ys)
  find_join q [] ys = refl
  find_join q (x ∷ xs) ys = at (eq_by_cmp R q x.0) (find_join q xs ys)
    where
      at : (b : Bool) → find R q (xs ++ ys) ≡ or_else (find R q xs) (find R q ys) → cond b (Some x.1) (find R q (xs ++ ys)) ≡ or_else (cond b (Some x.1) (find R q xs)) (find R q ys)
      at true e = refl
      at false e = e

  pub find_none : (q : K) (es : List (K × X)) → T (below_all R q es) → find R q es ≡ None
  find_none q [] h = refl
  find_none q (e ∷ es) h = ap (λ r. cond (is_eq r) (Some e.1) (find R q es)) (T_less _ (T_left _ _ h)) ∙ find_none q es (T_right _ _ h)

  pub entries_in_order : IsTotalOrder R → IsAntisymmetric R → (es : List (K × X)) → T (is_sorted R es) → entries (from_entries {R = R} es) ≡ es
  entries_in_order o exact es up =
      ap entries (same_map o exact (from_entries es) (from_sorted es) (λ q. get-from_entries o es q ∙ sym (get-from_sorted R es q up)))
      ∙ entries-from_sorted R es up

-- the cells of one row among rows
abbrev pub cells_at : List (Row × CellMap) → Row → CellMap
cells_at rows row = unwrap_or (find row_cmp row rows) empty

-- places in one row, and in rows behind it
placed_below : (row : Row) (q : List ℕ) (es : List (List ℕ × (List ℕ × ℕ))) → T (below_all bytes_cmp q es) → T (below_all place_cmp (place_of row q) (map (placed row) es))
placed_below row q [] h = tt
placed_below row q (e ∷ es) h =
    T_both _ _ (subst (λ r. T (is_lt (ordering_then r (bytes_cmp q e.0)))) (sym (same_row row)) (T_left _ _ h)) (placed_below row q es (T_right _ _ h))

placed_sorted : (row : Row) (es : List (List ℕ × (List ℕ × ℕ))) → T (is_sorted bytes_cmp es) → T (is_sorted place_cmp (map (placed row) es))
placed_sorted row [] h = tt
placed_sorted row (e ∷ es) h = T_both _ _ (placed_below row e.0 es (T_left _ _ h)) (placed_sorted row es (T_right _ _ h))

other_below : (row other : Row) (q : List ℕ) (es : List (List ℕ × (List ℕ × ℕ))) → row_cmp row other ≡ Less → T (below_all place_cmp (place_of row q) (map (placed other) es))
other_below row other q [] h = tt
other_below row other q (e ∷ es) h = T_both _ _ (subst (λ r. T (is_lt (ordering_then r (bytes_cmp q e.0)))) (sym h) tt) (other_below row other q es h)

flat_below : (row : Row) (q : List ℕ) (rows : List (Row × CellMap)) → T (below_all row_cmp row rows) → T (below_all place_cmp (place_of row q) (flat rows))
flat_below row q [] h = tt
flat_below row q (r ∷ rows) h = below_join place_cmp (place_of row q) (map (placed r.0) (entries r.1)) (flat rows) (other_below row r.0 q (entries r.1) (T_less _ (T_left _ _ h))) (flat_below row q rows (T_right _ _ h))

row_below : (row : Row) (es : List (List ℕ × (List ℕ × ℕ))) (rows : List (Row × CellMap)) → T (below_all row_cmp row rows) → AllBelow place_cmp (map (placed row) es) (flat rows)
row_below row [] rows h = tt
row_below row (e ∷ es) rows h = (flat_below row e.0 rows h, row_below row es rows h)

pub flat_sorted : (rows : List (Row × CellMap)) → T (is_sorted row_cmp rows) → T (is_sorted place_cmp (flat rows))
flat_sorted [] h = tt
flat_sorted (r ∷ rows) h =
    sorted_join place_cmp (map (placed r.0) (entries r.1)) (flat rows) (placed_sorted r.0 (entries r.1) (entries_sorted r.1)) (flat_sorted rows (T_right _ _ h)) (row_below r.0 (entries r.1) rows (T_left _ _ h))

pub flat_entries : (rows : List (Row × CellMap)) → T (is_sorted row_cmp rows) → entries (from_entries {R = place_cmp} (flat rows)) ≡ flat rows
flat_entries rows h = entries_in_order place_cmp places_total exact_places (flat rows) (flat_sorted rows h)

-- what stands at a place
find_here : (row : Row) (q : List ℕ) (es : List (List ℕ × (List ℕ × ℕ))) → find place_cmp (place_of row q) (map (placed row) es) ≡ option_map content_of (find bytes_cmp q es)
find_here row q [] = refl
find_here row q (e ∷ es) =
    ap (λ r. cond (is_eq (ordering_then r (bytes_cmp q e.0))) (Some (content_of e.1)) (find place_cmp (place_of row q) (map (placed row) es))) (same_row row)
    ∙ at (eq_by_cmp bytes_cmp q e.0) (find_here row q es)
  where
    at : (b : Bool) → find place_cmp (place_of row q) (map (placed row) es) ≡ option_map content_of (find bytes_cmp q es)
        → cond b (Some (content_of e.1)) (find place_cmp (place_of row q) (map (placed row) es)) ≡ option_map content_of (cond b (Some e.1) (find bytes_cmp q es))
    at true h = refl
    at false h = h

find_elsewhere : (row other : Row) (q : List ℕ) (es : List (List ℕ × (List ℕ × ℕ))) → row ≢ other → find place_cmp (place_of row q) (map (placed other) es) ≡ None
find_elsewhere row other q [] ne = refl
find_elsewhere row other q (e ∷ es) ne =
    ap (λ b. cond b (Some (content_of e.1)) (find place_cmp (place_of row q) (map (placed other) es))) (parts places_total exact_places (place_of row q) (place_of other e.0) (λ (h : place_of row q ≡ place_of other e.0). ne (ap (λ (p : Place). p.row) h)))
    ∙ find_elsewhere row other q es ne

pub find_flat : (rows : List (Row × CellMap)) (row : Row) (q : List ℕ) → T (is_sorted row_cmp rows) → find place_cmp (place_of row q) (flat rows) ≡ option_map content_of (get (cells_at rows row) q)
find_flat [] row q h = ap (option_map content_of) (sym (get-empty {X = List ℕ × ℕ} bytes_cmp q))
find_flat (r ∷ rows) row q h =
    find_join place_cmp (place_of row q) (map (placed r.0) (entries r.1)) (flat rows) ∙ at (one_or_other rows_total exact_rows row r.0) (find_flat rows row q (T_right _ _ h))
  where
    found : Option Content
    found = find place_cmp (place_of row q) (map (placed r.0) (entries r.1))

    at : (row ≡ r.0) ⊎ (row ≢ r.0) → find place_cmp (place_of row q) (flat rows) ≡ option_map content_of (get (cells_at rows row) q)
        → or_else place_cmp (find place_cmp (place_of row q) (map (placed r.0) (entries r.1))) (find place_cmp (place_of row q) (flat rows)) ≡ option_map content_of (get (cells_at (r ∷ rows) row) q)
    at (inl same) rest =
        (λ i. or_else place_cmp ((ap (λ (x : Row). find place_cmp (place_of x q) (map (placed r.0) (entries r.1))) same ∙ find_here r.0 q (entries r.1)) i)
        ((ap (λ (x : Row). find place_cmp (place_of x q) (flat rows)) same ∙ find_none place_cmp (place_of r.0 q) (flat rows) (flat_below r.0 q rows (T_left _ _ h))) i))
        ∙ none_after (option_map content_of (find bytes_cmp q (entries r.1)))
        ∙ ap (option_map content_of) (sym (get-entries r.1 q))
        ∙ ap (λ b. option_map content_of (get (unwrap_or (cond b (Some r.1) (find row_cmp row rows)) empty) q)) (sym (ap (λ (x : Row). eq_by_cmp row_cmp x r.0) same ∙ ties rows_total exact_rows r.0))
      where
        none_after : (o : Option Content) → or_else place_cmp o None ≡ o
        none_after None = refl
        none_after (Some x) = refl
    at (inr ne) rest =
        ap (λ o. or_else place_cmp o (find place_cmp (place_of row q) (flat rows))) (find_elsewhere row r.0 q (entries r.1) ne) ∙ rest
        ∙ ap (λ b. option_map content_of (get (unwrap_or (cond b (Some r.1) (find row_cmp row rows)) empty) q)) (sym (parts rows_total exact_rows row r.0 ne))

-- the entries of some rows
filter_placed : (p : Row → Bool) (row : Row) (b : Bool) → p row ≡ b → (es : List (List ℕ × (List ℕ × ℕ))) → filter (λ (e : Place × Content). p e.0.row) (map (placed row) es) ≡ cond b (map (placed row) es) []
filter_placed p row true is [] = refl
filter_placed p row false is [] = refl
filter_placed p row true is (e ∷ es) =
    ap (λ t. cond t (placed row e ∷ filter (λ (x : Place × Content). p x.0.row) (map (placed row) es)) (filter (λ (x : Place × Content). p x.0.row) (map (placed row) es))) is
    ∙ ap (λ (l : List (Place × Content)). placed row e ∷ l) (filter_placed p row true is es)
filter_placed p row false is (e ∷ es) =
    ap (λ t. cond t (placed row e ∷ filter (λ (x : Place × Content). p x.0.row) (map (placed row) es)) (filter (λ (x : Place × Content). p x.0.row) (map (placed row) es))) is
    ∙ filter_placed p row false is es

pub filter_flat : (p : Row → Bool) (rows : List (Row × CellMap)) → filter (λ (e : Place × Content). p e.0.row) (flat rows) ≡ flat (filter (λ (r : Row × CellMap). p r.0) rows)
filter_flat p [] = refl
filter_flat p (r ∷ rows) =
    filter_join (λ (e : Place × Content). p e.0.row) (map (placed r.0) (entries r.1)) (flat rows)
    ∙ at (p r.0) (filter_placed p r.0 (p r.0) refl (entries r.1)) (filter_flat p rows)
  where
    at : (b : Bool) → filter (λ (e : Place × Content). p e.0.row) (map (placed r.0) (entries r.1)) ≡ cond b (map (placed r.0) (entries r.1)) [] → filter (λ (e : Place × Content). p e.0.row) (flat rows) ≡ flat (filter (λ (x : Row × CellMap). p x.0) rows)
        → filter (λ (e : Place × Content). p e.0.row) (map (placed r.0) (entries r.1)) ++ filter (λ (e : Place × Content). p e.0.row) (flat rows) ≡ flat (cond b (r ∷ filter (λ (x : Row × CellMap). p x.0) rows) (filter (λ (x : Row × CellMap). p x.0) rows))
    at true here rest = λ i. here i ++ rest i
    at false here rest = λ i. here i ++ rest i

-- the rows that are one row: at most one
no_such : (row : Row) (rows : List (Row × CellMap)) → T (below_all row_cmp row rows) → filter (λ (r : Row × CellMap). eq_by_cmp row_cmp row r.0) rows ≡ []
no_such row [] h = refl
no_such row (r ∷ rows) h =
    ap (λ o. cond (is_eq o) (r ∷ filter (λ (x : Row × CellMap). eq_by_cmp row_cmp row x.0) rows) (filter (λ (x : Row × CellMap). eq_by_cmp row_cmp row x.0) rows)) (T_less _ (T_left _ _ h))
    ∙ no_such row rows (T_right _ _ h)

cells_placed : (row : Row) (es : List (List ℕ × (List ℕ × ℕ))) → map cell_of (map (placed row) es) ≡ map cell_from es
cells_placed row [] = refl
cells_placed row (e ∷ es) = ap (λ (l : List Cell). cell_from e ∷ l) (cells_placed row es)

pub cells_of_flat : (rows : List (Row × CellMap)) (row : Row) → T (is_sorted row_cmp rows) → map cell_of (flat (filter (λ (r : Row × CellMap). eq_by_cmp row_cmp row r.0) rows)) ≡ cells_in (cells_at rows row)
cells_of_flat [] row h = sym (ap (map cell_from) (no_entries empty (len_none)))
  where
    len_none : len (empty {X = List ℕ × ℕ} {R = bytes_cmp}) ≡ 0
    len_none = Rattle.std.specs.FinMap.len-empty bytes_cmp (List ℕ × ℕ)

    no_entries : (m : CellMap) → len m ≡ 0 → entries m ≡ []
    no_entries m e = nil (entries m) (sym (len-entries m) ∙ e)
      where
        nil : (es : List (List ℕ × (List ℕ × ℕ))) → length es ≡ 0 → es ≡ []
        nil [] e = refl
        nil (x ∷ es) e = absurd (omega (arith, e))
cells_of_flat (r ∷ rows) row h = at (one_or_other rows_total exact_rows row r.0) (cells_of_flat rows row (T_right _ _ h))
  where
    rest : List (Row × CellMap)
    rest = filter (λ (x : Row × CellMap). eq_by_cmp row_cmp row x.0) rows

    at : (row ≡ r.0) ⊎ (row ≢ r.0) → map cell_of (flat (filter (λ (x : Row × CellMap). eq_by_cmp row_cmp row x.0) rows)) ≡ cells_in (cells_at rows row)
        → map cell_of (flat (cond (eq_by_cmp row_cmp row r.0) (r ∷ filter (λ (x : Row × CellMap). eq_by_cmp row_cmp row x.0) rows) (filter (λ (x : Row × CellMap). eq_by_cmp row_cmp row x.0) rows))) ≡ cells_in (cells_at (r ∷ rows) row)
    at (inl same) _ =
        let tie : eq_by_cmp row_cmp row r.0 ≡ true = ap (λ (x : Row). eq_by_cmp row_cmp x r.0) same ∙ ties rows_total exact_rows r.0 in
        let none : filter (λ (x : Row × CellMap). eq_by_cmp row_cmp row x.0) rows ≡ [] = ap (λ (y : Row). filter (λ (x : Row × CellMap). eq_by_cmp row_cmp y x.0) rows) same ∙ no_such r.0 rows (T_left _ _ h) in
        (λ i. map cell_of (flat (cond (tie i) (r ∷ none i) (none i))))
        ∙ ap (map cell_of) (nothing_behind (map (placed r.0) (entries r.1)))
        ∙ cells_placed r.0 (entries r.1)
        ∙ ap (λ b. cells_in (unwrap_or (cond b (Some r.1) (find row_cmp row rows)) empty)) (sym tie)
    at (inr ne) e =
        let tie : eq_by_cmp row_cmp row r.0 ≡ false = parts rows_total exact_rows row r.0 ne in
        ap (λ b. map cell_of (flat (cond b (r ∷ filter (λ (x : Row × CellMap). eq_by_cmp row_cmp row x.0) rows) (filter (λ (x : Row × CellMap). eq_by_cmp row_cmp row x.0) rows)))) tie ∙ e
        ∙ ap (λ b. cells_in (unwrap_or (cond b (Some r.1) (find row_cmp row rows)) empty)) (sym tie)

-- no row is without a cell
abbrev pub AllSome : List (Row × CellMap) → Type 0
AllSome [] = Unit {0}
AllSome (r ∷ rows) = (r.1 ≢ empty) × AllSome rows

some_entry : (m : CellMap) → m ≢ empty → (e : List ℕ × (List ℕ × ℕ)) × (es : List (List ℕ × (List ℕ × ℕ))) × (entries m ≡ e ∷ es)
some_entry m some = at (entries m) refl
  where
    at : (es : List (List ℕ × (List ℕ × ℕ))) → entries m ≡ es → (e : List ℕ × (List ℕ × ℕ)) × (rest : List (List ℕ × (List ℕ × ℕ))) × (entries m ≡ e ∷ rest)
    at [] e = absurd (some (empty_of_len m (len-entries m ∙ ap length e)))
    at (e ∷ es) is = (e, es, is)

-- the first of a list
abbrev pub head_of : {A : Type 0} → List A → Option A
head_of [] = None
head_of (x ∷ xs) = Some x

pub find_head : {A : Type 0} (p : A → Bool) (xs : List A) → std.find p xs ≡ head_of (filter p xs)
find_head p [] = refl
find_head {A = A} p (x ∷ xs) = at (p x) (find_head p xs)
  where
    at : (b : Bool) → std.find p xs ≡ head_of (filter p xs) → cond b (Some x) (std.find p xs) ≡ head_of (cond b (x ∷ filter p xs) (filter p xs))
    at true e = refl
    at false e = e

pub head_flat : (rows : List (Row × CellMap)) → AllSome rows → option_map (λ (e : Place × Content). e.0.row) (head_of (flat rows)) ≡ option_map (λ (r : Row × CellMap). r.0) (head_of rows)
head_flat [] some = refl
head_flat (r ∷ rows) some =
    let f = some_entry r.1 some.0 in
    ap (λ (es : List (List ℕ × (List ℕ × ℕ))). option_map (λ (e : Place × Content). e.0.row) (head_of (map (placed r.0) es ++ flat rows))) f.2

-- how many entries rows have
length_join : {A : Type 0} (xs ys : List A) → length (xs ++ ys) ≡ length xs + length ys
length_join [] ys = omega arith
length_join (x ∷ xs) ys = let e = length_join xs ys in omega (arith, e)

length_placed : (row : Row) (es : List (List ℕ × (List ℕ × ℕ))) → length (map (placed row) es) ≡ length es
length_placed row [] = refl
length_placed row (e ∷ es) = ap suc (length_placed row es)

pub length_flat : (rows : List (Row × CellMap)) → length (flat rows) ≡ sum_by (λ (r : Row × CellMap). len r.1) rows
length_flat [] = refl
length_flat (r ∷ rows) =
    length_join (map (placed r.0) (entries r.1)) (flat rows) ∙ (λ i. (length_placed r.0 (entries r.1) ∙ sym (len-entries r.1)) i + length_flat rows i)
    ∙ sym (sum_by-cons (λ (x : Row × CellMap). len x.1) r rows)

-- the rows that entries name, each once
abbrev first_qual : List (List ℕ × (List ℕ × ℕ)) → List ℕ
first_qual [] = []
first_qual (e ∷ es) = e.0

find_named_other : (row other : Row) (es : List (List ℕ × (List ℕ × ℕ))) → row ≢ other → find row_cmp row (map (λ (e : Place × Content). (e.0.row, e.0.qual)) (map (placed other) es)) ≡ None
find_named_other row other [] ne = refl
find_named_other row other (e ∷ es) ne =
    ap (λ b. cond b (Some e.0) (find row_cmp row (map (λ (x : Place × Content). (x.0.row, x.0.qual)) (map (placed other) es)))) (parts rows_total exact_rows row other ne) ∙ find_named_other row other es ne

find_named : (rows : List (Row × CellMap)) (row : Row) → AllSome rows → find row_cmp row (map (λ (e : Place × Content). (e.0.row, e.0.qual)) (flat rows)) ≡ find row_cmp row (map (λ (r : Row × CellMap). (r.0, first_qual (entries r.1))) rows)
find_named [] row some = refl
find_named (r ∷ rows) row some =
    ap (find row_cmp row) (map_join (λ (e : Place × Content). (e.0.row, e.0.qual)) (map (placed r.0) (entries r.1)) (flat rows))
    ∙ find_join row_cmp row (map (λ (e : Place × Content). (e.0.row, e.0.qual)) (map (placed r.0) (entries r.1))) (map (λ (e : Place × Content). (e.0.row, e.0.qual)) (flat rows))
    ∙ at (one_or_other rows_total exact_rows row r.0) (find_named rows row some.1)
  where
    here : List (Row × List ℕ)
    here = map (λ (e : Place × Content). (e.0.row, e.0.qual)) (map (placed r.0) (entries r.1))

    at : (row ≡ r.0) ⊎ (row ≢ r.0) → find row_cmp row (map (λ (e : Place × Content). (e.0.row, e.0.qual)) (flat rows)) ≡ find row_cmp row (map (λ (x : Row × CellMap). (x.0, first_qual (entries x.1))) rows)
        → or_else row_cmp (find row_cmp row (map (λ (e : Place × Content). (e.0.row, e.0.qual)) (map (placed r.0) (entries r.1)))) (find row_cmp row (map (λ (e : Place × Content). (e.0.row, e.0.qual)) (flat rows)))
        ≡ cond (eq_by_cmp row_cmp row r.0) (Some (first_qual (entries r.1))) (find row_cmp row (map (λ (x : Row × CellMap). (x.0, first_qual (entries x.1))) rows))
    at (inl same) rest =
        let f = some_entry r.1 some.0 in
        let tie : eq_by_cmp row_cmp row r.0 ≡ true = ap (λ (x : Row). eq_by_cmp row_cmp x r.0) same ∙ ties rows_total exact_rows r.0 in
        let first_found : find row_cmp row (map (λ (e : Place × Content). (e.0.row, e.0.qual)) (map (placed r.0) (entries r.1))) ≡ Some f.0.0 =
        ap (λ (es : List (List ℕ × (List ℕ × ℕ))). find row_cmp row (map (λ (e : Place × Content). (e.0.row, e.0.qual)) (map (placed r.0) es))) f.2
        ∙ ap (λ b. cond b (Some f.0.0) (find row_cmp row (map (λ (e : Place × Content). (e.0.row, e.0.qual)) (map (placed r.0) f.1)))) tie in
        ap (λ o. or_else row_cmp o (find row_cmp row (map (λ (e : Place × Content). (e.0.row, e.0.qual)) (flat rows)))) first_found
        ∙ ap (λ (es : List (List ℕ × (List ℕ × ℕ))). Some (first_qual es)) (sym f.2)
        ∙ ap (λ b. cond b (Some (first_qual (entries r.1))) (find row_cmp row (map (λ (x : Row × CellMap). (x.0, first_qual (entries x.1))) rows))) (sym tie)
    at (inr ne) rest =
        ap (λ o. or_else row_cmp o (find row_cmp row (map (λ (e : Place × Content). (e.0.row, e.0.qual)) (flat rows)))) (find_named_other row r.0 (entries r.1) ne) ∙ rest
        ∙ ap (λ b. cond b (Some (first_qual (entries r.1))) (find row_cmp row (map (λ (x : Row × CellMap). (x.0, first_qual (entries x.1))) rows))) (sym (parts rows_total exact_rows row r.0 ne))

named_below : (row : Row) (rows : List (Row × CellMap)) → T (below_all row_cmp row rows) → T (below_all row_cmp row (map (λ (r : Row × CellMap). (r.0, first_qual (entries r.1))) rows))
named_below row [] h = tt
named_below row (r ∷ rows) h = T_both _ _ (T_left _ _ h) (named_below row rows (T_right _ _ h))

named_sorted : (rows : List (Row × CellMap)) → T (is_sorted row_cmp rows) → T (is_sorted row_cmp (map (λ (r : Row × CellMap). (r.0, first_qual (entries r.1))) rows))
named_sorted [] h = tt
named_sorted (r ∷ rows) h = T_both _ _ (named_below r.0 rows (T_left _ _ h)) (named_sorted rows (T_right _ _ h))

named_keys : (rows : List (Row × CellMap)) → map (λ (e : Row × List ℕ). e.0) (map (λ (r : Row × CellMap). (r.0, first_qual (entries r.1))) rows) ≡ map (λ (r : Row × CellMap). r.0) rows
named_keys [] = refl
named_keys (r ∷ rows) = ap (λ (l : List Row). r.0 ∷ l) (named_keys rows)

pub keys_flat : (rows : List (Row × CellMap)) → T (is_sorted row_cmp rows) → AllSome rows → keys (from_entries {R = row_cmp} (map (λ (e : Place × Content). (e.0.row, e.0.qual)) (flat rows))) ≡ map (λ (r : Row × CellMap). r.0) rows
keys_flat rows h some =
    ap keys (same_map rows_total exact_rows (from_entries (map (λ (e : Place × Content). (e.0.row, e.0.qual)) (flat rows))) (from_entries (map (λ (r : Row × CellMap). (r.0, first_qual (entries r.1))) rows))
    (λ q. get-from_entries rows_total (map (λ (e : Place × Content). (e.0.row, e.0.qual)) (flat rows)) q ∙ find_named rows q some ∙ sym (get-from_entries rows_total (map (λ (r : Row × CellMap). (r.0, first_qual (entries r.1))) rows) q)))
    ∙ ap (map (λ (e : Row × List ℕ). e.0)) (entries_in_order row_cmp rows_total exact_rows (map (λ (r : Row × CellMap). (r.0, first_qual (entries r.1))) rows) (named_sorted rows h))
    ∙ named_keys rows

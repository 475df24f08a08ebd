-- Lines that are added in their order.
use Rattle.std.proofs.Common.{◌≡◌, ℕ, zero, suc, ◌<◌, Bool, true, false, cond, T, List, [], ◌∷◌, ◌++◌, length, get_or, map, refl, sym, ap, subst, ◌∙◌, arith}
use Rattle.std.specs.Prelude.{take, filter, slice_index_or, not}
use Rattle.std.specs.declared.cmp.Ordering.TheVariants.{Less}
use Rattle.std.specs.Ordering.{is_lt, is_le}
use Rattle.std.specs.FinMap.{entries, is_sorted, entries_sorted}
use Rattle.std.specs.FinMap.Entries.{below_all}
use Rattle.std.proofs.Math.Seq.{get_or-append_seam}
use Rattle.std.proofs.lemmas.List.{get_or_append_left}
use Rattle.std.proofs.lemmas.List.Sums.{list_all-from_AllPass}
use Rattle.row_key.specs.declared.tables.Table.{Table}
use Rattle.row_key.specs.declared.tables.Table.TheVariants.{Ids, Names, Points}
use Rattle.qual_codec.specs.declared.cells.Cell.{Cell}
use Rattle.cell_model.specs.declared.row.ListLine.{ListLine}
use Rattle.cell_model.specs.declared.events.Place.{Place}
use Rattle.cell_model.specs.declared.events.Content.{Content}
use Rattle.cell_model.specs.KindWidths.{Widths}
use Rattle.cell_model.specs.Store.{Store, place_cmp}
use Rattle.list_lemmas.specs.BytesOrder.{bytes_cmp}
use Rattle.cell_model.specs.Counts.{line_of, lines_of}
use Rattle.cell_model.specs.Rising.{LinesRise, is_above, place_of_line}
use Rattle.packed_cells.specs.Keyed.{CellMap, cells_in}
use Rattle.map_body.specs.TableRows.{NoneEmpty}
use Rattle.row_pages.specs.RowMaps.{Rows, rows_below, rows_from}
use Rattle.map_body.specs.Whole.{rows_at, NoCounterRow, store_in, placed, tagged, flat, lines_in}
use Rattle.tsd_base.specs.declared.kinds.Kind.{Kind}
use Rattle.tsd_base.specs.declared.kinds.Kind.TheVariants.{Metric, TagKey, TagValue}
use Rattle.std.specs.Int.{w64, to_be_bytes}
use Rattle.list_lemmas.proofs.BoolTests.{T_both, T_left, T_right, T_less}
use Rattle.cell_model.specs.Machine.{kind_qual, counter_row}
use Rattle.map_body.specs.declared.counters.Counter.{Counter}
use Rattle.map_body.specs.Counting.{shown, counter_cells}
use Rattle.map_body.proofs.Counted.{one_shown, lines_shown}
use Rattle.map_body.proofs.Listings.{all_listed}
use Rattle.map_body.proofs.Flat.{flat_sorted}
use Rattle.map_body.proofs.Tables.{tagged_sorted}
use Rattle.list_lemmas.proofs.ListCuts.{joined}
use Rattle.map_body.proofs.CellLines.{line_at, same_lines, lines_next}

longer : {A : Type 0} (xs ys : List A) (n : ℕ) → n < length xs → n < length (xs ++ ys)
longer [] ys n lt = absurd (omega (arith, lt))
longer (x ∷ xs) ys zero lt = omega arith
longer (x ∷ xs) ys (suc n) lt = let l = longer xs ys n (omega (arith, lt)) in omega (arith, l)

at_seam : {A : Type 0} (xs : List A) (y : A) (ys : List A) → length xs < length (xs ++ y ∷ ys)
at_seam [] y ys = omega arith
at_seam (x ∷ xs) y ys = let l = at_seam xs y ys in omega (arith, l)

-- the first of lines that rise do
pub prefix_rises : (xs ys : List ListLine) → LinesRise (xs ++ ys) → LinesRise xs
prefix_rises xs ys up i j d lt within =
    subst (λ (l : ListLine). place_cmp (place_of_line (get_or xs i d)) (place_of_line l) ≡ Less) (get_or_append_left xs ys d j within)
    (subst (λ (l : ListLine). place_cmp (place_of_line l) (place_of_line (get_or (xs ++ ys) j d)) ≡ Less) (get_or_append_left xs ys d i (omega (arith, lt, within))) (up i j d lt (longer xs ys j within)))

-- a line is above those before it
pub above_prefix : (xs : List ListLine) (y : ListLine) (ys : List ListLine) → LinesRise (xs ++ y ∷ ys) → is_above xs (place_of_line y) ≡ true
above_prefix xs y ys up =
    list_all-from_AllPass (λ (m : ListLine). is_lt (place_cmp (place_of_line m) (place_of_line y))) xs
    (λ k d lt. ap is_lt
    (subst (λ (l : ListLine). place_cmp (place_of_line l) (place_of_line y) ≡ Less) (get_or_append_left xs (y ∷ ys) d k lt)
    (subst (λ (l : ListLine). place_cmp (place_of_line (get_or (xs ++ y ∷ ys) k d)) (place_of_line l) ≡ Less) (get_or-append_seam xs y ys d) (up k (length xs) d lt (at_seam xs y ys)))))

-- the lines of sorted entries rise
below_at : (p : Place) (es : List (Place × Content)) → T (below_all place_cmp p es) → (j : ℕ) (d : ListLine) → j < length (map line_of es) → place_cmp p (place_of_line (get_or (map line_of es) j d)) ≡ Less
below_at p [] h j d lt = absurd (omega (arith, lt))
below_at p (e ∷ es) h zero d lt = T_less _ (T_left _ _ h)
below_at p (e ∷ es) h (suc j) d lt = below_at p es (T_right _ _ h) j d (omega (arith, lt))

pub lines_rise : (es : List (Place × Content)) → T (is_sorted place_cmp es) → LinesRise (map line_of es)
lines_rise [] up i j d lt within = absurd (omega (arith, within))
lines_rise (e ∷ es) up zero zero d lt within = absurd (omega (arith, lt))
lines_rise (e ∷ es) up (suc i) zero d lt within = absurd (omega (arith, lt))
lines_rise (e ∷ es) up zero (suc j) d lt within = below_at e.0 es (T_left _ _ up) j d (omega (arith, within))
lines_rise (e ∷ es) up (suc i) (suc j) d lt within = lines_rise es (T_right _ _ up) i j d (omega (arith, lt)) (omega (arith, within))

pub store_rises : (s : Store) → LinesRise (lines_of s)
store_rises s = lines_rise (entries s.cells) (entries_sorted s.cells)

-- so do those of some of a table's rows
some_below : (p : List ℕ × CellMap → Bool) (k : List ℕ) (es : List (List ℕ × CellMap)) → T (below_all bytes_cmp k es) → T (below_all bytes_cmp k (filter p es))
some_below p k [] h = tt
some_below p k (e ∷ es) h = at (p e) (some_below p k es (T_right _ _ h))
  where
    at : (b : Bool) → T (below_all bytes_cmp k (filter p es)) → T (below_all bytes_cmp k (cond b (e ∷ filter p es) (filter p es)))
    at true rest = T_both _ _ (T_left _ _ h) rest
    at false rest = rest

some_sorted : (p : List ℕ × CellMap → Bool) (es : List (List ℕ × CellMap)) → T (is_sorted bytes_cmp es) → T (is_sorted bytes_cmp (filter p es))
some_sorted p [] h = tt
some_sorted p (e ∷ es) h = at (p e) (some_sorted p es (T_right _ _ h))
  where
    at : (b : Bool) → T (is_sorted bytes_cmp (filter p es)) → T (is_sorted bytes_cmp (cond b (e ∷ filter p es) (filter p es)))
    at true rest = T_both _ _ (some_below p e.0 es (T_left _ _ h)) rest
    at false rest = rest

pub below_rise : (t : Table) (to : List ℕ) (rows : Rows) → LinesRise (lines_in t (rows_below to (entries rows)))
below_rise t to rows =
    let some = rows_below to (entries rows) in
    lines_rise (flat (tagged t some)) (flat_sorted (tagged t some) (tagged_sorted t some (some_sorted (λ r. not (is_le (bytes_cmp to r.0))) (entries rows) (entries_sorted rows))))

-- a row's next line is above those before it
parted : {A : Type 0} (xs : List A) (i : ℕ) (d : A) → i < length xs → (rest : List A) × (xs ≡ take i xs ++ slice_index_or xs i d ∷ rest)
parted [] i d lt = absurd (omega (arith, lt))
parted (x ∷ xs) zero d lt = (xs, refl)
parted {A = A} (x ∷ xs) (suc i) d lt = let p = parted xs i d (omega (arith, lt)) in (p.0, ap (λ (l : List A). x ∷ l) p.1)

map_parted : {A B : Type 0} (f : A → B) (xs : List A) (y : A) (ys : List A) → map f (xs ++ y ∷ ys) ≡ map f xs ++ f y ∷ map f ys
map_parted f [] y ys = refl
map_parted {B = B} f (x ∷ xs) y ys = ap (λ (l : List B). f x ∷ l) (map_parted f xs y ys)

pub next_above : (table : Table) (row : List ℕ) (cells : CellMap) (packed : List Cell) (i : ℕ) (d : Cell) (old now : List ListLine) (line : ListLine) → packed ≡ cells_in cells → i < length packed
    → now ≡ old ++ map (line_at table row) (take i packed) → line ≡ line_at table row (slice_index_or packed i d)
    → LinesRise (old ++ map line_of (map (placed (record { table = table; bytes = row })) (entries cells))) → is_above now (place_of_line line) ≡ true
next_above table row cells packed i d old now line same lt was is up =
    let f = line_at table row in
    let p = parted packed i d lt in
    let taken = map f (take i packed) in
    let here = f (slice_index_or packed i d) in
    let all : map line_of (map (placed (record { table = table; bytes = row })) (entries cells)) ≡ taken ++ here ∷ map f p.0 =
    sym (same_lines table row (entries cells)) ∙ ap (map f) (sym same ∙ p.1) ∙ map_parted f (take i packed) (slice_index_or packed i d) p.0 in
    let rise : LinesRise ((old ++ taken) ++ here ∷ map f p.0) = subst LinesRise (ap (λ (l : List ListLine). old ++ l) all ∙ sym (joined old taken (here ∷ map f p.0))) up in
    (λ j. is_above (was j) (place_of_line (is j))) ∙ above_prefix (old ++ taken) here (map f p.0) rise

-- a table's next row, when its lines and those of the rows behind it are still to come
pub row_rises : (table : Table) (bytes : List ℕ) (row : CellMap) (before rest : List (List ℕ × CellMap)) (old now : List ListLine) → before ≡ (bytes, row) ∷ rest → now ++ lines_in table before ≡ old
    → LinesRise old → LinesRise (now ++ map line_of (map (placed (record { table = table; bytes = bytes })) (entries row)))
row_rises table bytes row before rest old now next was up =
    let here = map line_of (map (placed (record { table = table; bytes = bytes })) (entries row)) in
    let all : old ≡ (now ++ here) ++ lines_in table rest =
    sym was ∙ ap (λ (r : List (List ℕ × CellMap)). now ++ lines_in table r) next ∙ ap (λ (l : List ListLine). now ++ l) (lines_next table bytes row rest) ∙ sym (joined now here (lines_in table rest)) in
    prefix_rises (now ++ here) (lines_in table rest) (subst LinesRise all up)

-- a counter's line, when it is still to come
pub shown_above : (kind : Kind) (c : Counter) (q v : List ℕ) (old : List ListLine) → (c.number ≡ 0 → ⊥) → q ≡ kind_qual kind → v ≡ to_be_bytes w64 c.number → LinesRise (old ++ map line_of (map (placed counter_row) (shown kind c)))
    → is_above old (record { row = record { table = Ids; bytes = 0 ∷ [] }; qual = q }) ≡ true
shown_above kind c q v old some qual value up =
    above_prefix old (record { table = Ids; row = 0 ∷ []; qual = q; value = v }) []
    (subst LinesRise (ap (λ (l : List ListLine). old ++ l) (sym (same_lines Ids (0 ∷ []) (shown kind c)) ∙ ap (map (line_at Ids (0 ∷ []))) (sym (one_shown kind c q v some qual value)))) up)

-- the lines of the counters one by one
abbrev lines_for : Kind → Counter → List ListLine
lines_for kind c = map line_of (map (placed counter_row) (shown kind c))

module _ (m k v : Counter) (old : List ListLine) (up : LinesRise (old ++ map line_of (map (placed counter_row) (entries (counter_cells m k v))))) where
  each_rises : LinesRise (((old ++ lines_for Metric m) ++ lines_for TagKey k) ++ lines_for TagValue v)
  each_rises =
      subst LinesRise
      (sym (lines_shown m k v old (old ++ lines_for Metric m) ((old ++ lines_for Metric m) ++ lines_for TagKey k) (((old ++ lines_for Metric m) ++ lines_for TagKey k) ++ lines_for TagValue v) refl refl refl)) up

  two_rise : LinesRise ((old ++ lines_for Metric m) ++ lines_for TagKey k)
  two_rise = prefix_rises ((old ++ lines_for Metric m) ++ lines_for TagKey k) (lines_for TagValue v) each_rises

  pub metric_rises : LinesRise (old ++ map line_of (map (placed counter_row) (shown Metric m)))
  metric_rises = prefix_rises (old ++ lines_for Metric m) (lines_for TagKey k) two_rise

  pub key_rises : (one : List ListLine) → one ≡ old ++ map line_of (map (placed counter_row) (shown Metric m)) → LinesRise (one ++ map line_of (map (placed counter_row) (shown TagKey k)))
  key_rises one a = subst LinesRise (ap (λ (l : List ListLine). l ++ lines_for TagKey k) (sym a)) two_rise

  pub value_rises : (one two : List ListLine) → one ≡ old ++ map line_of (map (placed counter_row) (shown Metric m)) → two ≡ one ++ map line_of (map (placed counter_row) (shown TagKey k)) → LinesRise (two ++ map line_of (map (placed counter_row) (shown TagValue v)))
  value_rises one two a b = subst LinesRise (ap (λ (l : List ListLine). l ++ lines_for TagValue v) (sym (b ∙ ap (λ (l : List ListLine). l ++ lines_for TagKey k) a))) each_rises

-- each part of a store's lines, when it is still to come
module _ (w : Widths) (tables : List Rows) (counters : CellMap) (ids names points : Rows) (absent : NoCounterRow tables) (some : NoneEmpty ids) (i : ids ≡ rows_at tables Ids) (n : names ≡ rows_at tables Names) (p : points ≡ rows_at tables Points) where
  abbrev low : List ListLine
  low = lines_in Ids (rows_below (0 ∷ []) (entries ids))

  abbrev middle : List ListLine
  middle = map line_of (map (placed counter_row) (entries counters))

  abbrev high : List ListLine
  high = lines_in Ids (rows_from (0 ∷ []) (entries ids))

  abbrev named : List ListLine
  named = lines_in Names (rows_from [] (entries names))

  abbrev pointed : List ListLine
  pointed = lines_in Points (rows_from [] (entries points))

  points_to_come : LinesRise ((((low ++ middle) ++ high) ++ named) ++ pointed)
  points_to_come =
      subst LinesRise
      (sym (all_listed w tables counters ids names points [] low (low ++ middle) ((low ++ middle) ++ high) (((low ++ middle) ++ high) ++ named) ((((low ++ middle) ++ high) ++ named) ++ pointed) absent some i n p refl refl refl refl refl refl))
      (store_rises (store_in w tables counters))

  names_to_come : LinesRise (((low ++ middle) ++ high) ++ named)
  names_to_come = prefix_rises (((low ++ middle) ++ high) ++ named) pointed points_to_come

  ids_to_come : LinesRise ((low ++ middle) ++ high)
  ids_to_come = prefix_rises ((low ++ middle) ++ high) named names_to_come

  counters_to_come : LinesRise (low ++ middle)
  counters_to_come = prefix_rises (low ++ middle) high ids_to_come

  -- as they are added one behind the other
  module _ (k : List ℕ) (none one : List ListLine) (at : k ≡ 0 ∷ []) (e0 : none ≡ []) (e1 : one ≡ none ++ lines_in Ids (rows_below k (entries ids))) where
    one_is : one ≡ low
    one_is = e1 ∙ (λ j. e0 j ++ lines_in Ids (rows_below (at j) (entries ids)))

    pub counters_rise : LinesRise (one ++ map line_of (map (placed counter_row) (entries counters)))
    counters_rise = subst (λ (l : List ListLine). LinesRise (l ++ middle)) (sym one_is) counters_to_come

    module _ (two : List ListLine) (e2 : two ≡ one ++ map line_of (map (placed counter_row) (entries counters))) where
      two_is : two ≡ low ++ middle
      two_is = e2 ∙ (λ j. one_is j ++ middle)

      pub ids_rise : LinesRise (two ++ lines_in Ids (rows_from k (entries ids)))
      ids_rise = subst LinesRise (λ j. sym two_is j ++ lines_in Ids (rows_from (sym at j) (entries ids))) ids_to_come

      module _ (three : List ListLine) (e3 : three ≡ two ++ lines_in Ids (rows_from k (entries ids))) (from : List ℕ) (start : from ≡ []) where
        three_is : three ≡ (low ++ middle) ++ high
        three_is = e3 ∙ (λ j. two_is j ++ lines_in Ids (rows_from (at j) (entries ids)))

        pub names_rise : LinesRise (three ++ lines_in Names (rows_from from (entries names)))
        names_rise = subst LinesRise (λ j. sym three_is j ++ lines_in Names (rows_from (sym start j) (entries names))) names_to_come

        pub points_rise : (four : List ListLine) → four ≡ three ++ lines_in Names (rows_from from (entries names)) → (again : List ℕ) → again ≡ [] → LinesRise (four ++ lines_in Points (rows_from again (entries points)))
        points_rise four e4 again empty =
            subst LinesRise (λ j. sym (e4 ∙ (λ i. three_is i ++ lines_in Names (rows_from (start i) (entries names)))) j ++ lines_in Points (rows_from (sym empty j) (entries points))) points_to_come

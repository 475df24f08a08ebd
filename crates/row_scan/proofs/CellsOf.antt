-- The cells of a row are what the store has there.
use Rattle.std.proofs.Common.{◌≡◌, ℕ, Bool, true, false, cond, List, [], ◌∷◌, refl, sym, ap, ◌∙◌}
use Rattle.std.specs.Prelude.{Option, None, Some, option_map, find, filter, Contains}
use Rattle.std.specs.Ordering.{eq_by_cmp}
use Rattle.std.specs.Cmp.Lexicographic.{texts_ties}
use Rattle.std.specs.FinMap.{get-entries, entries_sorted, slice_cmp-IsAntisymmetric, nat_cmp-IsAntisymmetric}
use Rattle.qual_codec.specs.declared.cells.Cell.{Cell}
use Rattle.cell_model.specs.declared.row.Row.{Row}
use Rattle.cell_model.specs.declared.events.Place.{Place}
use Rattle.cell_model.specs.declared.events.Content.{Content}
use Rattle.cell_model.specs.Store.{Store, entries, row_cmp, value_at, cells_of, cell_of, same_bytes, value_among}
use Rattle.list_lemmas.specs.BytesOrder.{bytes_cmp}
use Rattle.list_lemmas.proofs.BoolTests.{is_equal}
use Rattle.row_scan.proofs.Lower.{in_filter, here, there, map_in, exact_rows, value_among-cells_of}
use Rattle.row_scan.proofs.NextRow.{found_there}

same_is : (x y : List ℕ) → same_bytes x y ≡ true → x ≡ y
same_is x y e = slice_cmp-IsAntisymmetric nat_cmp-IsAntisymmetric x y (is_equal (bytes_cmp x y) (sym (texts_ties x y) ∙ e))

not_some : (v : List ℕ) → ◌≡◌ {A = Option (List ℕ)} None (Some v) → ⊥
not_some v e = cc

some_is : (a b : List ℕ) → ◌≡◌ {A = Option (List ℕ)} (Some a) (Some b) → a ≡ b
some_is a b e = cc

-- a cell with this qualifier and value
pub record HasSuch (cells : List Cell) (qual value : List ℕ) : Type 0 where
  pub cell : Cell
  pub among : Contains cells cell
  pub qual_is : cell.qual ≡ qual
  pub value_is : cell.value ≡ value

found_in : (cells : List Cell) (qual value : List ℕ) → value_among cells qual ≡ Some value → HasSuch cells qual value
found_in [] qual value is = absurd (not_some value is)
found_in (c ∷ cells) qual value is = at (same_bytes c.qual qual) refl is (found_in cells qual value)
  where
    at : (b : Bool) → same_bytes c.qual qual ≡ b → option_map (λ (x : Cell). x.value) (cond b (Some c) (find (λ (x : Cell). same_bytes x.qual qual) cells)) ≡ Some value
        → (value_among cells qual ≡ Some value → HasSuch cells qual value) → HasSuch (c ∷ cells) qual value
    at true e is go = record { cell = c; among = here c cells; qual_is = same_is c.qual qual e; value_is = some_is c.value value is }
    at false e is go = let w = go is in record { cell = w.cell; among = there c w.cell cells w.among; qual_is = w.qual_is; value_is = w.value_is }

-- what the row has at a qualifier is among its cells
pub cell_in : (s : Store) (row : Row) (qual value : List ℕ) → value_at s row qual ≡ Some value → HasSuch (cells_of s row) qual value
cell_in s row qual value is = found_in (cells_of s row) qual value (sym (value_among-cells_of s row qual) ∙ is)

-- and its cells are what it has
pub cell_at : (s : Store) (row : Row) (c : Cell) → Contains (cells_of s row) c → value_at s row c.qual ≡ Some c.value
cell_at s row c i =
    let is_of : Place × Content → Bool = λ (e : Place × Content). eq_by_cmp row_cmp row e.0.row in
    let w = map_in cell_of (filter is_of (entries s)) c i in
    let f = in_filter is_of (entries s) w.0 w.1 in
    let row_is : row ≡ w.0.0.row = exact_rows row w.0.0.row (is_equal _ f.1) in
    let stands = get-entries s.cells w.0.0 ∙ found_there w.0 (entries s) (entries_sorted s.cells) f.0 in
    ap (λ (r : Row). value_at s r c.qual) row_is ∙ ap (λ (x : Cell). value_at s w.0.0.row x.qual) (sym w.2) ∙ ap (option_map (λ (x : Content). x.value)) stands ∙ ap (λ (x : Cell). Some x.value) w.2

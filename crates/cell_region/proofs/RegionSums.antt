-- How many point rows and cells the regions have together.
use Rattle.std.proofs.Common.{◌≡◌, ℕ, ◌+◌, ◌<◌, ◌≤◌, List, [], ◌∷◌, length, refl, ap, sym, ◌∙◌, arith}
use Rattle.std.specs.Prelude.{map, sum_by, take, slice_index_or}
use Rattle.std.specs.FinMap.{entries, from_entries}
use Rattle.std.proofs.lemmas.List.{length-map}
use Rattle.std.proofs.lemmas.List.Sums.{sum_by-cons, sum_by-append}
use Rattle.list_lemmas.proofs.ListCuts.{take_next}
use Rattle.list_lemmas.proofs.EntryLemmas.{length-entries}
use Rattle.row_key.proofs.CallerLemmas.{regions_end}
use Rattle.row_key.specs.declared.widths.Widths.{Widths}
use Rattle.cell_model.specs.declared.row.Row.{Row}
use Rattle.cell_model.specs.declared.events.Place.{Place}
use Rattle.cell_model.specs.declared.events.Content.{Content}
use Rattle.cell_model.specs.PlaceOrder.{row_cmp}
use Rattle.cell_model.specs.Store.{Store}
use Rattle.cell_model.specs.Counts.{point_entries, point_rows}
use Rattle.cell_model.proofs.CallerLemmas.{rows_total}
use Rattle.cell_laws.specs.StoreParts.{region_in}
use Rattle.cell_laws.proofs.PartLemmas.{point_rows-joined, point_cells-joined}
use Rattle.cell_region.specs.declared.region.Region.{Region}
use Rattle.cell_region.specs.declared.region.TheConstants.{MOST_CELLS}
use Rattle.cell_region.specs.RegionLists.{cells_in, AreComplete, store_of_all}
use Rattle.cell_region.proofs.RegionSteps.{parts_of}

abbrev pub rows_among : List Region → ℕ
rows_among rs = sum_by (λ (r : Region). length (point_rows (cells_in r))) rs

abbrev pub cells_among : List Region → ℕ
cells_among rs = sum_by (λ (r : Region). length (point_entries (cells_in r))) rs

one : (f : Region → ℕ) (r : Region) → sum_by f (r ∷ []) ≡ f r
one f r = let e = sum_by-cons f r [] in e ∙ plain (f r)
  where
    plain : (n : ℕ) → n + sum_by f [] ≡ n
    plain n = omega arith

-- one region more
pub sum_next : (f : Region → ℕ) (rs : List Region) (i : ℕ) (d : Region) → i < length rs → sum_by f (take (i + 1) rs) ≡ sum_by f (take i rs) + f (slice_index_or rs i d)
sum_next f rs i d lt = ap (sum_by f) (take_next rs i d lt) ∙ sum_by-append f (take i rs) (slice_index_or rs i d ∷ []) ∙ ap (λ n. sum_by f (take i rs) + n) (one f (slice_index_or rs i d))

-- no region has more point rows than cells
pub rows_few : (r : Region) → length (point_rows (cells_in r)) ≤ MOST_CELLS
rows_few r =
    let named : List (Row × List ℕ) = map (λ (e : Place × Content). (e.0.row, e.0.qual)) (point_entries (cells_in r)) in
    let keyed : length (point_rows (cells_in r)) ≡ length (entries (from_entries {R = row_cmp} named)) = length-map (entries (from_entries {R = row_cmp} named)) (λ (e : Row × List ℕ). e.0) in
    let less = length-entries row_cmp rows_total named in
    let same = length-map {B = Row × List ℕ} (point_entries (cells_in r)) (λ (e : Place × Content). (e.0.row, e.0.qual)) in
    let few = r.few in
    omega (arith, keyed, less, same, few)

sums : (f : Region → ℕ) (count : Store → ℕ) → ((r : Region) → f r ≡ count (cells_in r)) → (rs : List Region) → sum_by f rs ≡ sum_by count (map cells_in rs)
sums f count same [] = refl
sums f count same (r ∷ rs) = sum_by-cons f r rs ∙ (λ i. same r i + sums f count same rs i) ∙ sym (sum_by-cons count (cells_in r) (map cells_in rs))

module _ (w : Widths) (D : ℕ) (rs : List Region) (complete : AreComplete w D rs) where
  under : (row : Row) → region_in w D row < length (map cells_in rs)
  under row = let end = regions_end w D row.table row.bytes complete.least in let same = length-map rs cells_in in let all = complete.all in omega (arith, end, same, all)

  pub rows_of_all : rows_among rs ≡ length (point_rows (store_of_all w rs))
  rows_of_all = sums (λ (r : Region). length (point_rows (cells_in r))) (λ s. length (point_rows s)) (λ r. refl) rs ∙ point_rows-joined w (region_in w D) (map cells_in rs) (parts_of w D 0 rs complete.in_order) under

  pub cells_of_all : cells_among rs ≡ length (point_entries (store_of_all w rs))
  cells_of_all = sums (λ (r : Region). length (point_entries (cells_in r))) (λ s. length (point_entries s)) (λ r. refl) rs ∙ point_cells-joined w (region_in w D) (map cells_in rs) (parts_of w D 0 rs complete.in_order) under

-- A step on the region of its row is the step on the store of all.
use Rattle.std.proofs.Common.{◌≡◌, ℕ, zero, suc, ◌+◌, ◌-◌, ◌<◌, Bool, true, List, [], ◌∷◌, ◌++◌, length, refl, ap, sym, subst, ◌∙◌, arith}
use Rattle.std.specs.Prelude.{map, slice_set, slice_index_or}
use Rattle.std.specs.List.{flat_map}
use Rattle.std.specs.FinMap.{empty, len-empty, len-entries}
use Rattle.std.specs.FinMap as fin
use Rattle.std.proofs.lemmas.List.{length-map, length-set}
use Rattle.list_lemmas.proofs.BoolTests.{nat_eq-same}
use Rattle.list_lemmas.proofs.ListCuts.{nothing_behind}
use Rattle.list_lemmas.proofs.ListCuts as lists
use Rattle.row_key.specs.declared.widths.Widths.{Widths}
use Rattle.row_key.specs.declared.tables.Table.{Table}
use Rattle.row_key.specs.declared.regions.TheConstants.{NAME_REGIONS}
use Rattle.row_key.specs.Regions.{region_number}
use Rattle.cell_model.specs.declared.row.Row.{Row}
use Rattle.cell_model.specs.declared.events.Step.{Step}
use Rattle.cell_model.specs.declared.events.Place.{Place}
use Rattle.cell_model.specs.declared.events.Content.{Content}
use Rattle.cell_model.specs.Store.{Store, entries, no_cells, place_cmp, stamped}
use Rattle.cell_model.specs.declared.events.Step.TheVariants.{NextRow}
use Rattle.cell_model.specs.Machine.{after}
use Rattle.cell_model.specs.Ranges.{InOneRange}
use Rattle.cell_laws.specs.StoreParts.{is_in, is_mine, part, region_in, StaysWithin}
use Rattle.cell_laws.specs.JoinedParts.{AreParts, joined, part_at}
use Rattle.cell_laws.proofs.PartLemmas.{looks_in_one, parts-joined, step_in_part, stamp_in_part}
use Rattle.cell_region.specs.declared.region.Region.{Region}
use Rattle.cell_region.specs.RegionLists.{cells_in, rows_of, InOrder, AreComplete, store_of_all, HaveParts}

pub parts_of : (w : Widths) (D n : ℕ) (rs : List Region) → InOrder w D n rs → AreParts w (region_in w D) n (map cells_in rs)
parts_of w D n [] order = tt
parts_of w D n (r ∷ rs) order = (subst (λ (mine : Row → Bool). part mine (cells_in r) ≡ cells_in r) order.0 r.own, order.1, parts_of w D (n + 1) rs order.2)

order_at : (w : Widths) (D n : ℕ) (rs : List Region) (k : ℕ) (d : Region) → k < length rs → InOrder w D n rs → (rows_of (slice_index_or rs k d) ≡ is_in w D (n + k)) × ((cells_in (slice_index_or rs k d)).widths ≡ w)
order_at w D n [] k d lt order = absurd (omega (arith, lt))
order_at w D n (r ∷ rs) zero d lt order = let same : n ≡ n + 0 = omega arith in (order.0 ∙ ap (is_in w D) same, order.1)
order_at w D n (r ∷ rs) (suc k) d lt order =
    let same : n + 1 + k ≡ n + suc k = omega arith in
    let rest = order_at w D (n + 1) rs k d (omega (arith, lt)) order.2 in
    (rest.0 ∙ ap (is_in w D) same, rest.1)

order_set : (w : Widths) (D n : ℕ) (rs : List Region) (k : ℕ) (new : Region) → InOrder w D n rs → rows_of new ≡ is_in w D (n + k) → (cells_in new).widths ≡ w → InOrder w D n (slice_set rs k new)
order_set w D n [] k new order is widths = tt
order_set w D n (r ∷ rs) zero new order is widths = let same : n + 0 ≡ n = omega arith in (is ∙ ap (is_in w D) same, widths, order.2)
order_set w D n (r ∷ rs) (suc k) new order is widths = let same : n + suc k ≡ n + 1 + k = omega arith in (order.0, order.1, order_set w D (n + 1) rs k new order.2 (is ∙ ap (is_in w D) same) widths)

pub order_push : (w : Widths) (D n : ℕ) (rs : List Region) (new : Region) → InOrder w D n rs → rows_of new ≡ is_in w D (n + length rs) → (cells_in new).widths ≡ w → InOrder w D n (rs ++ new ∷ [])
order_push w D n [] new order is widths = let same : n + 0 ≡ n = omega arith in (is ∙ ap (is_in w D) same, widths, tt)
order_push w D n (r ∷ rs) new order is widths =
    let same : n + length (r ∷ rs) ≡ n + 1 + length rs = omega arith in (order.0, order.1, order_push w D (n + 1) rs new order.2 (is ∙ ap (is_in w D) same) widths)

-- nothing is kept where one more region keeps nothing
cells_push : (rs : List Region) (new : Region) → flat_map entries (map cells_in (rs ++ new ∷ [])) ≡ flat_map entries (map cells_in rs) ++ entries (cells_in new)
cells_push [] new = nothing_behind (entries (cells_in new))
cells_push (r ∷ rs) new = ap (λ (l : List (Place × Content)). entries (cells_in r) ++ l) (cells_push rs new) ∙ sym (lists.joined (entries (cells_in r)) (flat_map entries (map cells_in rs)) (entries (cells_in new)))

no_entries : fin.entries {K = Place} {X = Content} {R = place_cmp} empty ≡ []
no_entries = nil (fin.entries empty) (sym (len-entries {X = Content} {R = place_cmp} empty) ∙ len-empty place_cmp Content)
  where
    nil : (es : List (Place × Content)) → length es ≡ 0 → es ≡ []
    nil [] e = refl
    nil (x ∷ es) e = absurd (omega (arith, e))

pub none_push : (w : Widths) (rs : List Region) (new : Region) → flat_map entries (map cells_in rs) ≡ [] → cells_in new ≡ no_cells w → flat_map entries (map cells_in (rs ++ new ∷ [])) ≡ []
none_push w rs new none is = cells_push rs new ∙ (λ i. none i ++ (ap entries is ∙ no_entries) i)

cells_at : (w : Widths) (rs : List Region) (k : ℕ) (d : Region) → k < length rs → part_at w (map cells_in rs) k ≡ cells_in (slice_index_or rs k d)
cells_at w [] k d lt = absurd (omega (arith, lt))
cells_at w (r ∷ rs) zero d lt = refl
cells_at w (r ∷ rs) (suc k) d lt = cells_at w rs k d (omega (arith, lt))

cells_set : (rs : List Region) (k : ℕ) (new : Region) → map cells_in (slice_set rs k new) ≡ slice_set (map cells_in rs) k (cells_in new)
cells_set [] k new = refl
cells_set (r ∷ rs) zero new = refl
cells_set (r ∷ rs) (suc k) new = ap (λ (l : List Store). cells_in r ∷ l) (cells_set rs k new)

set_same : (w : Widths) (ps : List Store) (k : ℕ) → slice_set ps k (part_at w ps k) ≡ ps
set_same w [] k = refl
set_same w (p ∷ ps) zero = refl
set_same w (p ∷ ps) (suc k) = ap (λ (l : List Store). p ∷ l) (set_same w ps k)

-- the row is of the region that has its number
pub of_number : (w : Widths) (D k : ℕ) (row : Row) (bytes : List ℕ) → k ≡ region_number w D row.table bytes → bytes ≡ row.bytes → is_in w D k row ≡ true
of_number w D k row bytes e b = nat_eq-same (region_number w D row.table row.bytes) k (sym (e ∙ ap (region_number w D row.table) b))

-- a next row looks at the region of its first row alone
pub within_region : (w : Widths) (D k : ℕ) (table : Table) (from to bytes : List ℕ) → k ≡ region_number w D table bytes → bytes ≡ from → InOneRange w table from to → StaysWithin (is_in w D k) (NextRow table from to)
within_region w D k table from to bytes e b range = subst (λ (n : ℕ). StaysWithin (is_in w D n) (NextRow table from to)) (sym (e ∙ ap (region_number w D table) b)) (looks_in_one w D table from to range)

-- each region has its part
pub have_parts : (w : Widths) (D : ℕ) (rs : List Region) → AreComplete w D rs → HaveParts D rs (store_of_all w rs)
have_parts w D rs complete number lt = sym (parts-joined w (region_in w D) (map cells_in rs) number (parts_of w D 0 rs complete.in_order))

-- how many data regions there are is told by the number of regions, and the widths by the first region
pub counted_regions : (rs : List Region) (n D : ℕ) (w : Widths) → AreComplete w D rs → n ≡ length rs → AreComplete w (n - NAME_REGIONS) rs
counted_regions rs n D w complete same =
    let all = complete.all in
    let is : D ≡ n - NAME_REGIONS = omega (arith, all, same) in
    subst (λ (k : ℕ). AreComplete w k rs) is complete

module _ (w : Widths) (D : ℕ) (rs : List Region) (complete : AreComplete w D rs) (k : ℕ) (r : Region) (among : k < NAME_REGIONS + D) (at : r ≡ slice_index_or rs k r) where
  within : k < length rs
  within = let all = complete.all in omega (arith, among, all)

  rows_here : rows_of r ≡ is_in w D k
  rows_here = let same : 0 + k ≡ k = omega arith in ap rows_of at ∙ (order_at w D 0 rs k r within complete.in_order).0 ∙ ap (is_in w D) same

  -- the widths of the region are the store's
  pub widths_here : (cells_in r).widths ≡ w
  widths_here = ap (λ (x : Region). (cells_in x).widths) at ∙ (order_at w D 0 rs k r within complete.in_order).1

  parts : AreParts w (region_in w D) 0 (map cells_in rs)
  parts = parts_of w D 0 rs complete.in_order

  cells_here : cells_in r ≡ part_at w (map cells_in rs) k
  cells_here = ap cells_in at ∙ sym (cells_at w rs k r within)

  within_parts : k < length (map cells_in rs)
  within_parts = let same = length-map rs cells_in in omega (arith, within, same)

  -- what the region keeps
  pub part_here : cells_in r ≡ part (is_in w D k) (store_of_all w rs)
  part_here = cells_here ∙ sym (parts-joined w (region_in w D) (map cells_in rs) k parts)

  pub covered : (row : Row) → is_in w D k row ≡ true → rows_of r row ≡ true
  covered row is = ap (λ (mine : Row → Bool). mine row) rows_here ∙ is

  -- the regions after a change of this one
  pub still_complete : (new : Region) → rows_of new ≡ rows_of r → (cells_in new).widths ≡ (cells_in r).widths → AreComplete w D (slice_set rs k new)
  still_complete new same widths = record {
    least = complete.least;
    most = complete.most;
    all = length-set rs k new ∙ complete.all;
    in_order = let place : k ≡ 0 + k = omega arith in order_set w D 0 rs k new complete.in_order (same ∙ rows_here ∙ ap (is_in w D) place) (widths ∙ widths_here);
  }

  pub stepped : (new : Region) (step : Step) → is_mine (is_in w D k) step ≡ true → cells_in new ≡ after (cells_in r) 0 step → store_of_all w (slice_set rs k new) ≡ after (store_of_all w rs) 0 step
  stepped new step is changed =
      ap (joined w) (cells_set rs k new ∙ ap (slice_set (map cells_in rs) k) (changed ∙ ap (λ s. after s 0 step) cells_here))
      ∙ step_in_part w (region_in w D) (map cells_in rs) k 0 step parts within_parts is

  pub stamped_whole : (new : Region) (row : Row) (qual : List ℕ) (version : ℕ) → is_in w D k row ≡ true → cells_in new ≡ stamped (cells_in r) row qual version → store_of_all w (slice_set rs k new) ≡ stamped (store_of_all w rs) row qual version
  stamped_whole new row qual version is changed =
      ap (joined w) (cells_set rs k new ∙ ap (slice_set (map cells_in rs) k) (changed ∙ ap (λ s. stamped s row qual version) cells_here))
      ∙ stamp_in_part w (region_in w D) (map cells_in rs) k row qual version parts within_parts is

  pub unchanged : (new : Region) → cells_in new ≡ cells_in r → store_of_all w (slice_set rs k new) ≡ store_of_all w rs
  unchanged new same = ap (joined w) (cells_set rs k new ∙ ap (slice_set (map cells_in rs) k) (same ∙ cells_here) ∙ set_same w (map cells_in rs) k)

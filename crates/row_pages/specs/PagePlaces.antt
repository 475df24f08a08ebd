-- Where a row is among pages, or where it would go.
use Rattle.std.specs.Prelude.{◌≡◌, ◌≤◌, ◌<◌, ℕ, suc, true, false, not, List, [], ◌∷◌, length, filter, take, drop, slice_index_or}
use Rattle.std.specs.declared.cmp.Ordering.TheVariants.{Less, Greater}
use Rattle.std.specs.List.{AllByRecursion}
use Rattle.std.specs.Ordering.{is_lt, is_le, eq_by_cmp}
use Rattle.list_lemmas.specs.BytesOrder.{bytes_cmp}
use Rattle.packed_cells.specs.Keyed.{CellMap}
use Rattle.row_pages.specs.Pages.{rows_in}
use Rattle.row_pages.specs.declared.page.Page.{Page}

-- all these rows are below this one, or above it
abbrev pub AllBelow : List ℕ → List (List ℕ × CellMap) → Type 0
AllBelow row rows = AllByRecursion (λ e. bytes_cmp row e.0 ≡ Greater) rows

abbrev pub AllAbove : List ℕ → List (List ℕ × CellMap) → Type 0
AllAbove row rows = AllByRecursion (λ e. bytes_cmp row e.0 ≡ Less) rows

-- none of these rows is below this one
abbrev pub AllFrom : List ℕ → List (List ℕ × CellMap) → Type 0
AllFrom row rows = AllByRecursion (λ e. is_le (bytes_cmp row e.0) ≡ true) rows

-- the row is in the page at p, or nowhere: it is above the rows before that page, not below its least bytes, and below those of
-- the pages behind
pub record IsPageOf (row : List ℕ) (pages : List Page) (p : ℕ) : Type 0 where
  pub in_range : 0 < length pages → p < length pages
  pub before : AllBelow row (rows_in (take p pages))
  pub least : AllByRecursion (λ q. is_lt (bytes_cmp row q.least) ≡ false) (take 1 (drop p pages))
  pub behind : AllByRecursion (λ q. bytes_cmp row q.least ≡ Less) (drop (suc p) pages)

-- the row is the one at r
pub record IsRowAt (row : List ℕ) (rows : List (List ℕ × CellMap)) (r : ℕ) : Type 0 where
  pub in_range : r < length rows
  pub here : (d : List ℕ × CellMap) → (slice_index_or rows r d).0 ≡ row

-- the row would go before the one at r
pub record IsRowGap (row : List ℕ) (rows : List (List ℕ × CellMap)) (r : ℕ) : Type 0 where
  pub in_range : r ≤ length rows
  pub before : AllBelow row (take r rows)
  pub behind : AllAbove row (drop r rows)

-- from r on rows aren't below this one, and before it they are
pub record IsRowStart (row : List ℕ) (rows : List (List ℕ × CellMap)) (r : ℕ) : Type 0 where
  pub in_range : r ≤ length rows
  pub before : AllBelow row (take r rows)
  pub behind : AllFrom row (drop r rows)

-- the row is the one at r of the page at p
pub record IsAt (row : List ℕ) (pages : List Page) (p r : ℕ) : Type 0 where
  pub in_range : p < length pages
  pub here : (d : Page) → IsRowAt row (slice_index_or pages p d).rows.items r

-- the row would go before the one at r of the page at p
pub record IsGap (row : List ℕ) (pages : List Page) (p r : ℕ) : Type 0 where
  pub in_range : p < length pages
  pub page : IsPageOf row pages p
  pub here : (d : Page) → IsRowGap row (slice_index_or pages p d).rows.items r

-- a page with these least bytes may begin behind all others, with this row: they are above all rows, and empty where there are none
abbrev pub IsLeastBehind : List ℕ → List ℕ → List Page → Type 0
IsLeastBehind least row [] = least ≡ []
IsLeastBehind least row (p ∷ pages) = least ≡ row

-- rows without this one
abbrev pub without : List ℕ → List (List ℕ × CellMap) → List (List ℕ × CellMap)
without row rows = filter (λ e. not (eq_by_cmp bytes_cmp row e.0)) rows

-- Rows in pages.
use Rattle.std.specs.Prelude.{◌≡◌, ◌≤◌, ℕ, false, List, [], ◌∷◌, length, All, AllPairs, T}
use Rattle.std.specs.declared.cmp.Ordering.TheVariants.{Less}
use Rattle.std.specs.List.{flat_map}
use Rattle.std.specs.Ordering.{is_lt}
use Rattle.std.specs.FinMap.{from_sorted, is_sorted}
use Rattle.list_lemmas.specs.BytesOrder.{bytes_cmp}
use Rattle.packed_cells.specs.Keyed.{CellMap}
use Rattle.row_pages.specs.RowMaps.{Rows}
use Rattle.row_pages.specs.declared.page.Page.{Page}

-- the rows of pages, one page behind the other
abbrev pub rows_in : List Page → List (List ℕ × CellMap)
rows_in pages = flat_map (λ p. p.rows.items) pages

abbrev pub map_of : List Page → Rows
map_of pages = from_sorted (rows_in pages)

-- a page has 1 to 64 rows, none of them below its least bytes
pub record IsPage (p : Page) : Type 0 where
  pub some : 1 ≤ length p.rows.items
  pub most : length p.rows.items ≤ 64
  pub least : All (λ e. is_lt (bytes_cmp e.0 p.least) ≡ false) p.rows.items

-- each row of the one page is below the least bytes of the other
abbrev pub IsBefore : Page → Page → Type 0
IsBefore p q = All (λ e. bytes_cmp e.0 q.least ≡ Less) p.rows.items

-- nothing is below the least bytes of the first page
abbrev pub BeginsEmpty : List Page → Type 0
BeginsEmpty [] = Unit {0}
BeginsEmpty (p ∷ pages) = p.least ≡ []

-- rows in order, and least bytes that tell their pages
pub record ArePages (pages : List Page) : Type 0 where
  pub rising : T (is_sorted bytes_cmp (rows_in pages))
  pub each : All IsPage pages
  pub apart : AllPairs IsBefore pages
  pub begins : BeginsEmpty pages

-- A list of pages with a change at a place.
use Rattle.std.proofs.Common.{◌≡◌, ℕ, zero, suc, ◌+◌, ◌<◌, ◌≤◌, T, List, [], ◌∷◌, ◌++◌, length, take, drop, get_or, Some, refl, sym, ap, subst, ◌∙◌, arith}
use Rattle.std.specs.Prelude.{All, slice_set, Result, Ok, Err, OnErr}
use Rattle.std.specs.declared.cmp.Ordering.TheVariants.{Less}
use Rattle.std.specs.List.{insert, remove}
use Rattle.std.specs.Ordering.{is_lt}
use Rattle.std.specs.FinMap.{is_sorted, put, find}
use Rattle.std.specs.FinMap as fin
use Rattle.std.specs.Vec.{with_item}
use Rattle.std.proofs.lemmas.List.{set_split, get_or_default}
use Rattle.list_lemmas.specs.BytesOrder.{bytes_cmp}
use Rattle.packed_cells.specs.Keyed.{CellMap}
use Rattle.row_pages.specs.Pages.{rows_in, map_of, IsPage, ArePages}
use Rattle.row_pages.specs.PagePlaces.{IsRowAt, IsGap, IsAt, without}
use Rattle.row_pages.specs.declared.page.Page.{Page}
use Rattle.row_pages.proofs.RowLists.{found, without_count, put_map, put_over_count}
use Rattle.row_pages.proofs.PageLists.{at_page, rows_around, rows_cut, all_around, page_changed, GapParts, gap_parts, rows_put, pages_put, pages_set}
use Rattle.row_pages.proofs.PageSearches.{row_around}
use Rattle.row_pages.proofs.PageChanges.{lowered, pages_gone, rows_less, pages_less, one_gone}

module _ (pages : List Page) (i : ℕ) (p q : Page) (are : ArePages pages) (lt : i < length pages) (is : p ≡ get_or pages i p) where
  cut : pages ≡ take i pages ++ p ∷ drop (suc i) pages
  cut = at_page pages i p lt ∙ ap (λ (x : Page). take i pages ++ x ∷ drop (suc i) pages) (sym is)

  parted : ArePages (take i pages ++ p ∷ drop (suc i) pages)
  parted = subst ArePages cut are

  set_is : slice_set pages i q ≡ take i pages ++ q ∷ drop (suc i) pages
  set_is = set_split pages i q lt

  -- the same rows in other memory
  pub set_same : q.least ≡ p.least → q.rows.items ≡ p.rows.items → ArePages (slice_set pages i q) × (rows_in (slice_set pages i q) ≡ rows_in pages)
  set_same least rows =
      let each = all_around IsPage (take i pages) p (drop (suc i) pages) parted.each in
      let same : rows_in (take i pages ++ q ∷ drop (suc i) pages) ≡ rows_in (take i pages ++ p ∷ drop (suc i) pages) =
      rows_around (take i pages) q (drop (suc i) pages) ∙ ap (λ (es : List (List ℕ × CellMap)). rows_in (take i pages) ++ (es ++ rows_in (drop (suc i) pages))) rows ∙ sym (rows_around (take i pages) p (drop (suc i) pages)) in (
        subst ArePages (sym set_is)
            (page_changed (take i pages) p q (drop (suc i) pages) parted least
            (record {
              some = subst (λ (es : List (List ℕ × CellMap)). 1 ≤ length es) (sym rows) each.1.some;
              most = subst (λ (es : List (List ℕ × CellMap)). length es ≤ 64) (sym rows) each.1.most;
              least = λ j d within. (λ k. is_lt (bytes_cmp (get_or (rows k) j d).0 (least k))) ∙ each.1.least j d (subst (λ (es : List (List ℕ × CellMap)). j < length es) rows within);
            })
            (λ y c before. subst (λ (es : List (List ℕ × CellMap)). All (λ e. bytes_cmp e.0 y.least ≡ Less) es) (sym rows) before)
            (subst (λ (es : List (List ℕ × CellMap)). T (is_sorted bytes_cmp es)) (sym same) parted.rising)),
        ap rows_in set_is ∙ same ∙ ap rows_in (sym cut),
      )

  -- one more row
  pub set_put : (k : List ℕ) (cells : CellMap) (r : ℕ) → IsGap k pages i r → q.least ≡ p.least → q.rows.items ≡ insert p.rows.items r (k, cells) → length p.rows.items < 64
      → ArePages (slice_set pages i q) × (rows_in (slice_set pages i q) ≡ put bytes_cmp k cells (rows_in pages))
  set_put k cells r gap least rows room =
      let parts = subst (λ (x : Page). GapParts k (take i pages) x (drop (suc i) pages) (take r x.rows.items) (drop r x.rows.items)) (sym is) (gap_parts k pages i r p gap) in (
        subst ArePages (sym set_is) (pages_put k cells (take i pages) p (drop (suc i) pages) (take r p.rows.items) (drop r p.rows.items) parts parted q least rows room),
        ap rows_in set_is ∙ rows_put k cells (take i pages) p (drop (suc i) pages) (take r p.rows.items) (drop r p.rows.items) parts parted q least rows ∙ ap (λ (ps : List Page). put bytes_cmp k cells (rows_in ps)) (sym cut),
      )

  -- other cells
  pub set_over : (k : List ℕ) (new : CellMap) (r : ℕ) → IsRowAt k p.rows.items r → q.least ≡ p.least → (d : List ℕ × CellMap) → q.rows.items ≡ slice_set p.rows.items r (k, new)
      → ArePages (slice_set pages i q) × (rows_in (slice_set pages i q) ≡ put bytes_cmp k new (rows_in pages))
  set_over k new r at least d rows =
      let both = pages_set (take i pages) p q (drop (suc i) pages) (take r p.rows.items) (drop (suc r) p.rows.items) k (get_or p.rows.items r d).1 new parted (row_around k p.rows.items r d at) least (rows ∙ set_split p.rows.items r (k, new) at.in_range) in
      (subst ArePages (sym set_is) both.0, ap rows_in set_is ∙ both.1 ∙ ap (λ (ps : List Page). put bytes_cmp k new (rows_in ps)) (sym cut))

  -- one row less
  pub set_less : (k : List ℕ) (r : ℕ) (d : List ℕ × CellMap) → IsRowAt k p.rows.items r → q.least ≡ p.least → q.rows.items ≡ remove p.rows.items r → 2 ≤ length p.rows.items
      → ArePages (slice_set pages i q) × (rows_in (slice_set pages i q) ≡ without k (rows_in pages))
  set_less k r d at least rows two =
      let around = row_around k p.rows.items r d at in
      let row : List ℕ × CellMap = (k, (get_or p.rows.items r d).1) in (
        subst ArePages (sym set_is) (pages_less (take i pages) p (drop (suc i) pages) parted (take r p.rows.items) row (drop (suc r) p.rows.items) around q least rows two),
        ap rows_in set_is ∙ rows_less (take i pages) p (drop (suc i) pages) parted (take r p.rows.items) row (drop (suc r) p.rows.items) around q rows ∙ ap (λ (ps : List Page). without k (rows_in ps)) (sym cut),
      )

  pub page_gone : ArePages (lowered (remove pages i))
  page_gone = pages_gone (take i pages) p (drop (suc i) pages) parted

  -- a page of one row less
  pub row_gone : (k : List ℕ) (r : ℕ) → IsRowAt k p.rows.items r → length p.rows.items ≡ 1 → rows_in (take i pages) ++ rows_in (drop (suc i) pages) ≡ without k (rows_in pages)
  row_gone k r at one =
      let only = alone p.rows.items r at one in
      one_gone (take i pages) p (drop (suc i) pages) parted (k, only.0) only.1 ∙ ap (λ (ps : List Page). without k (rows_in ps)) (sym cut)
    where
      alone : (rows : List (List ℕ × CellMap)) (r : ℕ) → IsRowAt k rows r → length rows ≡ 1 → (cells : CellMap) × (rows ≡ (k, cells) ∷ [])
      alone [] r at one = absurd (omega (arith, one))
      alone (e ∷ []) zero at one = (e.1, ap (λ (x : List ℕ). (x, e.1) ∷ []) (at.here e))
      alone (e ∷ []) (suc r) at one = absurd (omega (arith, at.in_range))
      alone (e ∷ f ∷ rows) r at one = absurd (omega (arith, one))

-- the first page is lowered
pub set_lowered : (pages : List Page) (first : Page) (least : List ℕ) → first ≡ get_or pages 0 first → least ≡ [] → slice_set pages 0 (record { least = least; rows = first.rows }) ≡ lowered pages
set_lowered [] first least is none = refl
set_lowered (p ∷ pages) first least is none = λ i. record { least = none i; rows = (is i).rows } ∷ pages

-- a fact of the page at a place, at what an index read
pub room_at : (pages : List Page) (i : ℕ) (p : Page) → p ≡ get_or pages i p → ((d : Page) → length (get_or pages i d).rows.items < 64) → length p.rows.items < 64
room_at pages i p is room = subst (λ (x : Page). length x.rows.items < 64) (sym is) (room p)

pub on_err : {A E P : Type 0} (r : Result A E) → P → OnErr r P
on_err (Ok a) p = tt
on_err (Err e) p = p

-- the row at a place is found
pub found_at : (k : List ℕ) (pages : List Page) (i r : ℕ) (d : Page) (e : List ℕ × CellMap) → ArePages pages → IsAt k pages i r → find bytes_cmp k (rows_in pages) ≡ Some (get_or (get_or pages i d).rows.items r e).1
found_at k pages i r d e are at =
    let rows = (get_or pages i d).rows.items in
    let row : List ℕ × CellMap = (k, (get_or rows r e).1) in
    let cut : rows_in pages ≡ (rows_in (take i pages) ++ take r rows) ++ ((row ∷ drop (suc r) rows) ++ rows_in (drop (suc i) pages)) =
    ap rows_in (at_page pages i d at.in_range) ∙ rows_cut (take i pages) (get_or pages i d) (drop (suc i) pages) (take r rows) (row ∷ drop (suc r) rows) (row_around k rows r e (at.here d)) in
    ap (find bytes_cmp k) cut ∙ found (rows_in (take i pages) ++ take r rows) row (drop (suc r) rows ++ rows_in (drop (suc i) pages)) (subst (λ (es : List (List ℕ × CellMap)). T (is_sorted bytes_cmp es)) cut are.rising)

pub counted : (k : List ℕ) (pages : List Page) (i r : ℕ) (p : Page) (rows : List (List ℕ × CellMap)) → ArePages pages → IsAt k pages i r → rows ≡ without k (rows_in pages) → length rows + 1 ≡ length (rows_in pages)
counted k pages i r p rows are at is = at_row (get_or pages i p).rows.items refl (at.here p)
  where
    at_row : (found : List (List ℕ × CellMap)) → found ≡ (get_or pages i p).rows.items → IsRowAt k (get_or pages i p).rows.items r → length rows + 1 ≡ length (rows_in pages)
    at_row [] same row = absurd (omega (arith, row.in_range, ap length same))
    at_row (e ∷ found) same row = ap (λ (es : List (List ℕ × CellMap)). length es + 1) is ∙ without_count k (get_or (get_or pages i p).rows.items r e).1 (rows_in pages) are.rising (found_at k pages i r p e are at)

-- what an index read is the page at the place
pub row_at : (k : List ℕ) (pages : List Page) (i r : ℕ) (p : Page) → p ≡ get_or pages i p → IsAt k pages i r → IsRowAt k p.rows.items r
row_at k pages i r p is at = subst (λ (q : Page). IsRowAt k q.rows.items r) (sym is) (at.here p)

pub same_page : (pages : List Page) (i : ℕ) (p q : Page) → i < length pages → p ≡ get_or pages i p → q ≡ get_or pages i q → p ≡ q
same_page pages i p q lt is also = is ∙ get_or_default pages i p q lt ∙ sym also

-- a page of a row and of more
pub row_stays : (k : List ℕ) (rows : List (List ℕ × CellMap)) (r : ℕ) → IsRowAt k rows r → (length rows ≡ 1 → ⊥) → 2 ≤ length rows
row_stays k [] r at more = absurd (omega (arith, at.in_range))
row_stays k (e ∷ []) r at more = absurd (more refl)
row_stays k (e ∷ f ∷ rows) r at more = omega arith

pub one_row : (rows : List (List ℕ × CellMap)) (n m : ℕ) → n ≡ length rows → m ≡ n → m ≡ 1 → length rows ≡ 1
one_row rows n m is same one = sym is ∙ sym same ∙ one

-- what an index read of a row
pub read_at : (k : List ℕ) (pages : List Page) (i r : ℕ) (p : Page) (e : List ℕ × CellMap) → ArePages pages → IsAt k pages i r → p ≡ get_or pages i p → e ≡ get_or p.rows.items r e → find bytes_cmp k (rows_in pages) ≡ Some e.1
read_at k pages i r p e are at page row =
    found_at k pages i r p e are at ∙ ap (λ (x : List ℕ × CellMap). Some x.1) (sym (row ∙ ap (λ (q : Page). get_or q.rows.items r e) page))

-- the row that an index read
pub key_at : (k : List ℕ) (rows : List (List ℕ × CellMap)) (r : ℕ) (e : List ℕ × CellMap) → IsRowAt k rows r → e ≡ get_or rows r e → e.0 ≡ k
key_at k rows r e at is = ap (λ (x : List ℕ × CellMap). x.0) is ∙ at.here e

-- pages of which a row's cells were lent
abbrev pub with_cells : Page → ℕ → List ℕ × CellMap → CellMap → Page
with_cells p r e cells = record { least = p.least; rows = with_item p.rows r (e.0, cells) }

module _ (k : List ℕ) (pages : List Page) (i r : ℕ) (p : Page) (e : List ℕ × CellMap) (are : ArePages pages) (at : IsAt k pages i r) (page : p ≡ get_or pages i p) (row : e ≡ get_or p.rows.items r e) where
  pub lent : (cells : CellMap) → ArePages (slice_set pages i (with_cells p r e cells)) × (rows_in (slice_set pages i (with_cells p r e cells)) ≡ put bytes_cmp k cells (rows_in pages))
  lent cells =
      let here = row_at k pages i r p page at in
      set_over pages i p (with_cells p r e cells) are at.in_range page k cells r here refl e (ap (λ (x : List ℕ). slice_set p.rows.items r (x, cells)) (key_at k p.rows.items r e here row))

  pub lent_whole : (cells : CellMap) (count : ℕ) → count ≡ length (rows_in pages) → ArePages (slice_set pages i (with_cells p r e cells)) × (count ≡ length (rows_in (slice_set pages i (with_cells p r e cells))))
  lent_whole cells count is = ((lent cells).0, is ∙ sym (ap length (lent cells).1 ∙ put_over_count k cells e.1 (rows_in pages) are.rising (read_at k pages i r p e are at page row)))

  pub lent_map : (cells : CellMap) → map_of (slice_set pages i (with_cells p r e cells)) ≡ fin.insert (map_of pages) k cells
  lent_map cells = put_map k cells (rows_in pages) (rows_in (slice_set pages i (with_cells p r e cells))) are.rising (lent cells).1

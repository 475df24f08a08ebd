-- What a binary search finds among pages and among the rows of one.
use Rattle.std.proofs.Common.{◌≡◌, ℕ, zero, suc, ◌+◌, ◌-◌, ◌<◌, ◌≤◌, true, false, T, List, [], ◌∷◌, ◌++◌, length, take, drop, get_or, None, Some, refl, sym, ap, subst, ◌∙◌, arith}
use Rattle.std.specs.Prelude.{All, AllPairs, Result, Ok, Err, IfOk, IfErr}
use Rattle.std.specs.declared.cmp.Ordering.{Ordering}
use Rattle.std.specs.declared.cmp.Ordering.TheVariants.{Less, Equal, Greater}
use Rattle.std.specs.List.{AllByRecursion, AllWithin}
use Rattle.std.specs.List.Sorted.{IsNonDecreasingBy, IsBinarySearchResult, IsSearchInRange}
use Rattle.std.specs.Ordering.{is_lt, is_le, ordering_index, ordering_reverse}
use Rattle.std.specs.Cmp.{tied_itself}
use Rattle.std.specs.Cmp.Lexicographic.{nat_list_cmp_total}
use Rattle.std.specs.FinMap.{is_sorted, find}
use Rattle.std.proofs.lemmas.List.{append-nil, get_or_default, get_or-take, get_or-drop, length-take, length-drop, take-append-drop}
use Rattle.std.proofs.lemmas.List.Elements.{recursion_from_All}
use Rattle.std.proofs.lemmas.List.Sorted.{searchable_from_sorted}
use Rattle.std.proofs.Math.Seq.{drop-cons}
use Rattle.list_lemmas.specs.BytesOrder.{bytes_cmp}
use Rattle.list_lemmas.proofs.EntryLemmas.{sorted-rising, Each-append}
use Rattle.list_lemmas.proofs.ListCuts.{joined}
use Rattle.list_lemmas.proofs.ListParts.{pairs_before}
use Rattle.list_lemmas.proofs.OrderedBytes.{below_from_on, not_back, not_below_none}
use Rattle.packed_cells.specs.Keyed.{CellMap}
use Rattle.row_pages.specs.RowMaps.{rows_below, rows_from}
use Rattle.row_pages.specs.Pages.{rows_in, IsPage, IsBefore, ArePages}
use Rattle.row_pages.specs.PagePlaces.{AllBelow, AllAbove, AllFrom, IsPageOf, IsRowAt, IsRowGap, IsRowStart, IsGap}
use Rattle.row_pages.specs.declared.page.Page.{Page}
use Rattle.row_pages.proofs.RowLists.{exact, from_start, below_start, found, not_found, absent_front, absent_back, sorted_front, sorted_back, before_row, behind_row}
use Rattle.row_pages.proofs.PageLists.{at_page, rows_around, rows_cut, rows_all, above_pages, least_rises, all_around, all_back}

turn : (x y : List ℕ) (r : Ordering) → bytes_cmp y x ≡ r → bytes_cmp x y ≡ ordering_reverse r
turn x y r is = nat_list_cmp_total.antisymm x y ∙ ap ordering_reverse is

-- ---- rows of a page

pub rows_searchable : (k : List ℕ) (rows : List (List ℕ × CellMap)) → T (is_sorted bytes_cmp rows) → IsNonDecreasingBy (λ e. ordering_index (bytes_cmp e.0 k)) rows
rows_searchable k rows sorted =
    searchable_from_sorted nat_list_cmp_total (λ (e : List ℕ × CellMap). e.0) rows k (λ i d low lt.
    not_back (get_or rows i d).0 (get_or rows (i + 1) d).0 (sorted-rising bytes_cmp rows sorted i (i + 1) d (omega arith) lt))

pub row_found : (k : List ℕ) (rows : List (List ℕ × CellMap)) (i : ℕ) → i < length rows → ((d : List ℕ × CellMap) → bytes_cmp (get_or rows i d).0 k ≡ Equal) → IsRowAt k rows i
row_found k rows i lt is = record { in_range = lt; here = λ d. exact (get_or rows i d).0 k (is d) }

each_within : (P : List ℕ × CellMap → Type 0) (rows : List (List ℕ × CellMap)) (i : ℕ) → AllWithin P rows 0 i → i ≤ length rows → All P (take i rows)
each_within P rows i all le j d lt =
    let inside : j < i = omega (arith, length-take i rows) in
    subst P (sym (get_or-take i rows j d inside)) (all j d (omega arith) inside)

each_behind : (P : List ℕ × CellMap → Type 0) (rows : List (List ℕ × CellMap)) (i : ℕ) → AllWithin P rows i (length rows) → All P (drop i rows)
each_behind P rows i all j d lt =
    subst P (sym (get_or-drop i rows j d)) (all (i + j) d (omega arith) (omega (arith, length-drop i rows)))

pub row_gap : (k : List ℕ) (rows : List (List ℕ × CellMap)) (i : ℕ) → i ≤ length rows → AllWithin (λ e. bytes_cmp e.0 k ≡ Less) rows 0 i → AllWithin (λ e. bytes_cmp e.0 k ≡ Greater) rows i (length rows) → IsRowGap k rows i
row_gap k rows i le before behind = record {
  in_range = le;
  before = recursion_from_All (λ e. bytes_cmp k e.0 ≡ Greater) (take i rows) (each_within (λ e. bytes_cmp k e.0 ≡ Greater) rows i (λ j d low lt. turn k (get_or rows j d).0 Less (before j d low lt)) le);
  behind = recursion_from_All (λ e. bytes_cmp k e.0 ≡ Less) (drop i rows) (each_behind (λ e. bytes_cmp k e.0 ≡ Less) rows i (λ j d low lt. turn k (get_or rows j d).0 Greater (behind j d low lt)));
}

-- what a binary search answers
pub search_found : (k : List ℕ) (rows : List (List ℕ × CellMap)) (r : Result ℕ ℕ) → IsSearchInRange r (length rows) → IsBinarySearchResult (λ e. bytes_cmp e.0 k) rows r → IfOk r (λ i. IsRowAt k rows i)
search_found k rows (Ok i) bound is = row_found k rows i bound is
search_found k rows (Err i) bound is = tt

pub search_gap : (k : List ℕ) (rows : List (List ℕ × CellMap)) (r : Result ℕ ℕ) → T (is_sorted bytes_cmp rows) → IsSearchInRange r (length rows) → IsBinarySearchResult (λ e. bytes_cmp e.0 k) rows r → IfErr r (λ i. IsRowGap k rows i)
search_gap k rows (Ok i) sorted bound is = tt
search_gap k rows (Err i) sorted bound is = let point = is (rows_searchable k rows sorted) in row_gap k rows i bound point.0 point.1

above_from : (k : List ℕ) (rows : List (List ℕ × CellMap)) → AllAbove k rows → AllFrom k rows
above_from k [] above = tt
above_from k (e ∷ rows) above = (ap is_le above.0, above_from k rows above.1)

pub gap_starts : (k : List ℕ) (rows : List (List ℕ × CellMap)) (i : ℕ) → IsRowGap k rows i → IsRowStart k rows i
gap_starts k rows i gap = record { in_range = gap.in_range; before = gap.before; behind = above_from k (drop i rows) gap.behind }

-- rows around the one at a place
pub row_around : (k : List ℕ) (rows : List (List ℕ × CellMap)) (i : ℕ) (d : List ℕ × CellMap) → IsRowAt k rows i → rows ≡ take i rows ++ (k, (get_or rows i d).1) ∷ drop (suc i) rows
row_around k rows i d at =
    sym (take-append-drop i rows) ∙ ap (λ (es : List (List ℕ × CellMap)). take i rows ++ es) (drop-cons rows i d at.in_range)
    ∙ ap (λ (x : List ℕ). take i rows ++ (x, (get_or rows i d).1) ∷ drop (suc i) rows) (at.here d)

no_row : (k : List ℕ) (rows : List (List ℕ × CellMap)) → T (is_sorted bytes_cmp rows) → (i : ℕ) → IsRowAt k rows i → find bytes_cmp k rows ≡ None → ⊥
no_row k rows sorted i at none = at_row rows sorted at none
  where
    at_row : (rows : List (List ℕ × CellMap)) → T (is_sorted bytes_cmp rows) → IsRowAt k rows i → find bytes_cmp k rows ≡ None → ⊥
    at_row [] sorted at none = omega (arith, at.in_range)
    at_row (e ∷ rest) sorted at none =
        let around = row_around k (e ∷ rest) i e at in
        let here = found (take i (e ∷ rest)) (k, (get_or (e ∷ rest) i e).1) (drop (suc i) (e ∷ rest)) (subst (λ (es : List (List ℕ × CellMap)). T (is_sorted bytes_cmp es)) around sorted) in
        let some : find bytes_cmp k (e ∷ rest) ≡ Some (get_or (e ∷ rest) i e).1 = ap (find bytes_cmp k) around ∙ here in
        cc

pub absent_here : (k : List ℕ) (rows : List (List ℕ × CellMap)) → T (is_sorted bytes_cmp rows) → (i : ℕ) → IsRowAt k rows i → {A : Type 0} → find bytes_cmp k rows ≡ None → A
absent_here k rows sorted i at none = absurd (no_row k rows sorted i at none)

pub row_starts : (k : List ℕ) (rows : List (List ℕ × CellMap)) (i : ℕ) → T (is_sorted bytes_cmp rows) → IsRowAt k rows i → IsRowStart k rows i
row_starts k [] i sorted at = absurd (omega (arith, at.in_range))
row_starts k (e ∷ rest) i sorted at =
    let around = row_around k (e ∷ rest) i e at in
    let order = subst (λ (es : List (List ℕ × CellMap)). T (is_sorted bytes_cmp es)) around sorted in
    let row = get_or (e ∷ rest) i e in
    record {
      in_range = omega (arith, at.in_range);
      before = before_row (take i (e ∷ rest)) (k, row.1) (drop (suc i) (e ∷ rest)) order;
      behind = subst (AllFrom k) (sym (drop-cons (e ∷ rest) i e at.in_range))
          (ap (λ (x : List ℕ). is_le (bytes_cmp k x)) (at.here e) ∙ ap is_le (tied_itself nat_list_cmp_total k), above_from k (drop (suc i) (e ∷ rest)) (behind_row (take i (e ∷ rest)) (k, row.1) (drop (suc i) (e ∷ rest)) order));
    }

-- ---- pages

pub pages_searchable : (k : List ℕ) (pages : List Page) → ArePages pages → IsNonDecreasingBy (λ p. ordering_index (bytes_cmp p.least k)) pages
pages_searchable k pages are =
    searchable_from_sorted nat_list_cmp_total (λ (p : Page). p.least) pages k (λ i d low lt.
    not_back (get_or pages i d).least (get_or pages (i + 1) d).least (least_rises (get_or pages i d) (get_or pages (i + 1) d) (are.each i d (omega arith)) (are.apart i (i + 1) d (omega arith) lt)))

-- from the least bytes alone
page_from : (k : List ℕ) (pages : List Page) (i : ℕ) → ArePages pages → (0 < length pages → i < length pages) → ((d : Page) → i < length pages → is_lt (bytes_cmp k (get_or pages i d).least) ≡ false)
    → ((j : ℕ) (d : Page) → i < j → j < length pages → bytes_cmp k (get_or pages j d).least ≡ Less) → IsPageOf k pages i
page_from k [] i are inside least behind = record { in_range = inside; before = none i; least = nothing i; behind = nothing_behind i }
  where
    none : (i : ℕ) → AllBelow k (rows_in (take i []))
    none zero = tt
    none (suc i) = tt

    nothing : (i : ℕ) → AllByRecursion (λ (q : Page). is_lt (bytes_cmp k q.least) ≡ false) (take 1 (drop i []))
    nothing zero = tt
    nothing (suc i) = tt

    nothing_behind : (i : ℕ) → AllByRecursion (λ (q : Page). bytes_cmp k q.least ≡ Less) (drop (suc i) [])
    nothing_behind i = tt
page_from k (q ∷ qs) i are inside least behind = record {
  in_range = inside;
  before = rows_all (λ e. bytes_cmp k e.0 ≡ Greater) (take i (q ∷ qs)) (λ p c j d lt.
      turn k (get_or p.rows.items j d).0 Less (below_from_on (get_or p.rows.items j d).0 (get_or (q ∷ qs) i q).least k
      (pairs_before IsBefore (take i (q ∷ qs)) (get_or (q ∷ qs) i q) (drop (suc i) (q ∷ qs)) (subst (AllPairs IsBefore) (at_page (q ∷ qs) i q here) are.apart) p c j d lt) (least q here)));
  least = subst (AllByRecursion (λ p. is_lt (bytes_cmp k p.least) ≡ false)) (sym (ap (take 1) (drop-cons (q ∷ qs) i q here) ∙ first (get_or (q ∷ qs) i q) (drop (suc i) (q ∷ qs)))) (least q here, tt);
  behind = recursion_from_All (λ p. bytes_cmp k p.least ≡ Less) (drop (suc i) (q ∷ qs)) (λ j d lt.
      subst (λ (p : Page). bytes_cmp k p.least ≡ Less) (sym (get_or-drop (suc i) (q ∷ qs) j d)) (behind (suc i + j) d (omega arith) (omega (arith, length-drop (suc i) (q ∷ qs)))));
}
  where
    here : i < length (q ∷ qs)
    here = inside (omega arith)

    first : (p : Page) (ys : List Page) → take 1 (p ∷ ys) ≡ p ∷ []
    first p [] = refl
    first p (y ∷ ys) = refl

pub page_found : (k : List ℕ) (pages : List Page) (i : ℕ) → ArePages pages → i < length pages → ((d : Page) → bytes_cmp (get_or pages i d).least k ≡ Equal) → IsPageOf k pages i
page_found k pages i are lt is =
    page_from k pages i are (λ some. lt) (λ d in-list. ap is_lt (turn k (get_or pages i d).least Equal (is d)))
    (λ j d more in-list. ap (λ (x : List ℕ). bytes_cmp x (get_or pages j d).least) (sym (exact (get_or pages i d).least k (is d))) ∙ least_rises (get_or pages i d) (get_or pages j d) (are.each i d lt) (are.apart i j d more in-list))

-- the first page begins with nothing
never_first : (k : List ℕ) (pages : List Page) (d : Page) → ArePages pages → 0 < length pages → bytes_cmp (get_or pages 0 d).least k ≡ Greater → ⊥
never_first k [] d are some above = omega (arith, some)
never_first k (p ∷ pages) d are some above =
    let below : bytes_cmp k p.least ≡ Less = turn k p.least Greater above in
    let not : is_lt (bytes_cmp k p.least) ≡ false = ap (λ (l : List ℕ). is_lt (bytes_cmp k l)) are.begins ∙ not_below_none k in
    let yes : is_lt (bytes_cmp k p.least) ≡ true = ap is_lt below in
    cc

pub page_before : (k : List ℕ) (pages : List Page) (n : ℕ) → ArePages pages → n ≤ length pages → AllWithin (λ p. bytes_cmp p.least k ≡ Less) pages 0 n → AllWithin (λ p. bytes_cmp p.least k ≡ Greater) pages n (length pages) → IsPageOf k pages (n - 1)
page_before k pages zero are le before behind =
    page_from k pages 0 are (λ some. some) (λ d lt. absurd (never_first k pages d are lt (behind 0 d (omega arith) lt))) (λ j d more lt. turn k (get_or pages j d).least Greater (behind j d (omega arith) lt))
page_before k pages (suc n) are le before behind =
    let one : suc n - 1 ≡ n = omega arith in
    subst (IsPageOf k pages) (sym one)
    (page_from k pages n are (λ some. omega (arith, le)) (λ d lt. ap is_lt (turn k (get_or pages n d).least Less (before n d (omega arith) (omega arith)))) (λ j d more lt. turn k (get_or pages j d).least Greater (behind j d (omega arith) lt)))

-- ---- both

-- the rows of a page are in order
pub page_sorted : (pages : List Page) (i : ℕ) (d : Page) → ArePages pages → i < length pages → T (is_sorted bytes_cmp (get_or pages i d).rows.items)
page_sorted pages i d are lt =
    let rows = (get_or pages i d).rows.items in
    let cut : rows_in pages ≡ rows_in (take i pages) ++ (rows ++ rows_in (drop (suc i) pages)) = ap rows_in (at_page pages i d lt) ∙ rows_around (take i pages) (get_or pages i d) (drop (suc i) pages) in
    sorted_front rows (rows_in (drop (suc i) pages)) (sorted_back (rows_in (take i pages)) (rows ++ rows_in (drop (suc i) pages)) (subst (λ (es : List (List ℕ × CellMap)). T (is_sorted bytes_cmp es)) cut are.rising))

-- a row that isn't in its page is nowhere
pub nowhere : (k : List ℕ) (pages : List Page) (i r : ℕ) (d : Page) → ArePages pages → IsPageOf k pages i → i < length pages → IsRowGap k (get_or pages i d).rows.items r → find bytes_cmp k (rows_in pages) ≡ None
nowhere k pages i r d are page lt gap =
    let rows = (get_or pages i d).rows.items in
    let cut : rows_in pages ≡ (rows_in (take i pages) ++ take r rows) ++ (drop r rows ++ rows_in (drop (suc i) pages)) = ap rows_in (at_page pages i d lt) ∙ rows_cut (take i pages) (get_or pages i d) (drop (suc i) pages) (take r rows) (drop r rows) (sym (take-append-drop r rows)) in
    let each : All IsPage (drop (suc i) pages) = all_back IsPage (take i pages ++ get_or pages i d ∷ []) (drop (suc i) pages) (subst (All IsPage) (at_page pages i d lt ∙ sym (joined (take i pages) (get_or pages i d ∷ []) (drop (suc i) pages))) are.each) in
    ap (find bytes_cmp k) cut
    ∙ not_found k (rows_in (take i pages) ++ take r rows) (drop r rows ++ rows_in (drop (suc i) pages)) (Each-append (λ e. bytes_cmp k e.0 ≡ Greater) (rows_in (take i pages)) (take r rows) page.before gap.before)
    (Each-append (λ e. bytes_cmp k e.0 ≡ Less) (drop r rows) (rows_in (drop (suc i) pages)) gap.behind (above_pages k (drop (suc i) pages) each page.behind))

-- what is nowhere isn't in a page
pub not_in_page : (k : List ℕ) (pages : List Page) (i : ℕ) (d : Page) → i < length pages → find bytes_cmp k (rows_in pages) ≡ None → find bytes_cmp k (get_or pages i d).rows.items ≡ None
not_in_page k pages i d lt none =
    let rows = (get_or pages i d).rows.items in
    let cut : rows_in pages ≡ rows_in (take i pages) ++ (rows ++ rows_in (drop (suc i) pages)) = ap rows_in (at_page pages i d lt) ∙ rows_around (take i pages) (get_or pages i d) (drop (suc i) pages) in
    absent_front k rows (rows_in (drop (suc i) pages)) (absent_back k (rows_in (take i pages)) (rows ++ rows_in (drop (suc i) pages)) (ap (find bytes_cmp k) (sym cut) ∙ none))

-- a gap in the page that a row belongs to
pub gap_in : (k : List ℕ) (pages : List Page) (i r : ℕ) (p : Page) → i < length pages → p ≡ get_or pages i p → IsPageOf k pages i → IsRowGap k p.rows.items r → IsGap k pages i r
gap_in k pages i r p lt is page gap = record {
  in_range = lt;
  page = page;
  here = λ d. subst (λ (q : Page). IsRowGap k q.rows.items r) (is ∙ get_or_default pages i p d lt) gap;
}

-- ---- rows from some bytes on, and those below them

pub start_cut : (k : List ℕ) (pages : List Page) (i r : ℕ) (p : Page) → ArePages pages → IsPageOf k pages i → i < length pages → p ≡ get_or pages i p → IsRowStart k p.rows.items r
    → (rows_in pages ≡ (rows_in (take i pages) ++ take r p.rows.items) ++ (drop r p.rows.items ++ rows_in (drop (suc i) pages))) × AllBelow k (rows_in (take i pages) ++ take r p.rows.items) × AllFrom k (drop r p.rows.items ++ rows_in (drop (suc i) pages))
start_cut k pages i r p are page lt is start =
    let cut : pages ≡ take i pages ++ p ∷ drop (suc i) pages = at_page pages i p lt ∙ ap (λ (q : Page). take i pages ++ q ∷ drop (suc i) pages) (sym is) in
    let each = all_around IsPage (take i pages) p (drop (suc i) pages) (subst (All IsPage) cut are.each) in (
      ap rows_in cut ∙ rows_cut (take i pages) p (drop (suc i) pages) (take r p.rows.items) (drop r p.rows.items) (sym (take-append-drop r p.rows.items)),
      Each-append (λ e. bytes_cmp k e.0 ≡ Greater) (rows_in (take i pages)) (take r p.rows.items) page.before start.before,
      Each-append (λ e. is_le (bytes_cmp k e.0) ≡ true) (drop r p.rows.items) (rows_in (drop (suc i) pages)) start.behind (above_from k (rows_in (drop (suc i) pages)) (above_pages k (drop (suc i) pages) each.2 page.behind)),
    )

pub from_cut : (k : List ℕ) (pages : List Page) (i r : ℕ) (p : Page) → ArePages pages → IsPageOf k pages i → i < length pages → p ≡ get_or pages i p → IsRowStart k p.rows.items r
    → drop r p.rows.items ++ (rows_in (drop (suc i) pages) ++ []) ≡ rows_from k (rows_in pages)
from_cut k pages i r p are page lt is start =
    let parts = start_cut k pages i r p are page lt is start in
    ap (λ (es : List (List ℕ × CellMap)). drop r p.rows.items ++ es) (append-nil (rows_in (drop (suc i) pages)))
    ∙ sym (ap (rows_from k) parts.0 ∙ from_start k (rows_in (take i pages) ++ take r p.rows.items) (drop r p.rows.items ++ rows_in (drop (suc i) pages)) parts.1 parts.2)

pub below_cut : (k : List ℕ) (pages : List Page) (i r : ℕ) (p : Page) → ArePages pages → IsPageOf k pages i → i < length pages → p ≡ get_or pages i p → IsRowStart k p.rows.items r
    → rows_in (take i pages) ++ take r p.rows.items ≡ rows_below k (rows_in pages)
below_cut k pages i r p are page lt is start =
    let parts = start_cut k pages i r p are page lt is start in
    sym (ap (rows_below k) parts.0 ∙ below_start k (rows_in (take i pages) ++ take r p.rows.items) (drop r p.rows.items ++ rows_in (drop (suc i) pages)) parts.1 parts.2)

-- A list of pages of which one was split in two at a place.
use Rattle.std.proofs.Common.{◌≡◌, ℕ, zero, suc, ◌+◌, ◌-◌, ◌<◌, ◌≤◌, List, [], ◌∷◌, ◌++◌, length, take, drop, get_or, sym, ap, subst, ◌∙◌, arith}
use Rattle.std.specs.Prelude.{slice_set}
use Rattle.std.specs.List.{insert}
use Rattle.std.proofs.lemmas.List.{take_more_set, drop-set-lt, take-append-drop, take-take, drop-append-le, length-take-le, length-drop, length-append}
use Rattle.std.proofs.Math.Seq.{drop-cons}
use Rattle.list_lemmas.proofs.ListCuts.{joined}
use Rattle.packed_cells.specs.Keyed.{CellMap}
use Rattle.row_pages.specs.Pages.{rows_in, ArePages}
use Rattle.row_pages.specs.PagePlaces.{IsGap}
use Rattle.row_pages.specs.declared.page.Page.{Page}
use Rattle.row_pages.proofs.PageLists.{at_page, GapParts, gap_parts, gap_at}
use Rattle.row_pages.proofs.PageChanges.{rows_split, pages_split, gap_first, gap_second}

-- the rows around the first of the second half
pub halves_are : (rows : List (List ℕ × CellMap)) (e : List ℕ × CellMap) → length rows ≡ 64 → e ≡ get_or rows 32 e → drop 32 rows ≡ e ∷ drop 33 rows
halves_are rows e full is = drop-cons rows 32 e (omega (arith, full)) ∙ ap (λ (x : List ℕ × CellMap). x ∷ drop 33 rows) (sym is)

-- what stands on both sides of a gap among rows that are cut in two
cut_first : (rows : List (List ℕ × CellMap)) (r : ℕ) → length rows ≡ 64 → r ≤ 32 → drop r rows ≡ drop r (take 32 rows) ++ drop 32 rows
cut_first rows r full le =
    let n : length (take 32 rows) ≡ 32 = length-take-le 32 rows (omega (arith, full)) in
    ap (drop r) (sym (take-append-drop 32 rows)) ∙ drop-append-le r (take 32 rows) (drop 32 rows) (omega (arith, n, le))

take_over : (xs ys : List (List ℕ × CellMap)) (k m : ℕ) → k ≡ length xs + m → take k (xs ++ ys) ≡ xs ++ take m ys
take_over [] ys k m is = let same : k ≡ m = omega (arith, is) in ap (λ (n : ℕ). take n ys) same
take_over (x ∷ xs) ys zero m is = absurd (omega (arith, is))
take_over (x ∷ xs) ys (suc k) m is = ap (λ (es : List (List ℕ × CellMap)). x ∷ es) (take_over xs ys k m (omega (arith, is)))

drop_over : (xs ys : List (List ℕ × CellMap)) (k m : ℕ) → k ≡ length xs + m → drop k (xs ++ ys) ≡ drop m ys
drop_over [] ys k m is = let same : k ≡ m = omega (arith, is) in ap (λ (n : ℕ). drop n ys) same
drop_over (x ∷ xs) ys zero m is = absurd (omega (arith, is))
drop_over (x ∷ xs) ys (suc k) m is = drop_over xs ys k m (omega (arith, is))

module _ (pages : List Page) (i : ℕ) (p a b : Page) (e : List ℕ × CellMap) (are : ArePages pages) (lt : i < length pages) (is : p ≡ get_or pages i p) (full : length p.rows.items ≡ 64) (first : e ≡ get_or p.rows.items 32 e)
    (least-a : a.least ≡ p.least) (rows-a : a.rows.items ≡ take 32 p.rows.items) (least-b : b.least ≡ e.0) (rows-b : b.rows.items ≡ drop 32 p.rows.items) where
  abbrev xs : List Page
  xs = take i pages

  abbrev ys : List Page
  ys = drop (suc i) pages

  abbrev rows : List (List ℕ × CellMap)
  rows = p.rows.items

  cut : pages ≡ xs ++ p ∷ ys
  cut = at_page pages i p lt ∙ ap (λ (x : Page). xs ++ x ∷ ys) (sym is)

  pub now_is : insert (slice_set pages i a) (i + 1) b ≡ xs ++ a ∷ b ∷ ys
  now_is =
      (λ k. take_more_set pages i a lt k ++ b ∷ drop-set-lt (i + 1) pages i a (omega arith) k)
      ∙ joined xs (a ∷ []) (b ∷ drop (i + 1) pages) ∙ ap (λ (n : ℕ). xs ++ a ∷ b ∷ drop n pages) (next i)
    where
      next : (n : ℕ) → n + 1 ≡ suc n
      next n = omega arith

  parted : ArePages (xs ++ p ∷ ys)
  parted = subst ArePages cut are

  second : drop 32 rows ≡ e ∷ drop 33 rows
  second = halves_are rows e full first

  own : rows ≡ take 32 rows ++ e ∷ drop 33 rows
  own = sym (take-append-drop 32 rows) ∙ ap (λ (es : List (List ℕ × CellMap)). take 32 rows ++ es) second

  pub split_rows : rows_in (insert (slice_set pages i a) (i + 1) b) ≡ rows_in pages
  split_rows = ap rows_in now_is ∙ rows_split xs p ys parted (take 32 rows) e (drop 33 rows) own a b least-a rows-a least-b (rows-b ∙ second) ∙ ap rows_in (sym cut)

  pub split_pages : ArePages (insert (slice_set pages i a) (i + 1) b)
  split_pages =
      let n : length (take 32 rows) ≡ 32 = length-take-le 32 rows (omega (arith, full)) in
      subst ArePages (sym now_is) (pages_split xs p ys parted (take 32 rows) e (drop 33 rows) own a b least-a rows-a least-b (rows-b ∙ second) (omega (arith, n)) (omega (arith, n)) (omega (arith, length-drop 33 rows, full)))

  before : length xs ≡ i
  before = length-take-le i pages (omega (arith, lt))

  parts : (k : List ℕ) (r : ℕ) → IsGap k pages i r → GapParts k xs p ys (take r rows) (drop r rows)
  parts k r gap = subst (λ (x : Page). GapParts k xs x ys (take r x.rows.items) (drop r x.rows.items)) (sym is) (gap_parts k pages i r p gap)

  -- a gap in the first half
  pub split_first : (k : List ℕ) (r : ℕ) → r ≤ 32 → IsGap k pages i r → IsGap k (insert (slice_set pages i a) (i + 1) b) i r
  split_first k r le gap =
      let whole : drop r rows ≡ drop r (take 32 rows) ++ e ∷ drop 33 rows = cut_first rows r full le ∙ ap (λ (es : List (List ℕ × CellMap)). drop r (take 32 rows) ++ es) second in
      let half : a.rows.items ≡ take r rows ++ drop r (take 32 rows) = rows-a ∙ sym (take-append-drop r (take 32 rows)) ∙ ap (λ (es : List (List ℕ × CellMap)). es ++ drop r (take 32 rows)) (take-take r 32 rows le) in
      let n : length (take r rows) ≡ r = length-take-le r rows (omega (arith, full)) in
      subst (λ (ps : List Page). IsGap k ps i r) (sym now_is)
      (gap_at k xs a (b ∷ ys) (take r rows) (drop r (take 32 rows)) i r before n
      (gap_first k xs p ys (take r rows) (drop r (take 32 rows)) e (drop 33 rows) a b (subst (GapParts k xs p ys (take r rows)) whole (parts k r gap)) least-a half least-b))

  -- and one in the second
  second_gap : (k : List ℕ) (m : ℕ) → m ≤ 31 → IsGap k pages i (32 + suc m) → IsGap k (insert (slice_set pages i a) (i + 1) b) (i + 1) (suc m)
  second_gap k m le gap =
      let n : length (take 32 rows) ≡ 32 = length-take-le 32 rows (omega (arith, full)) in
      let front : take (32 + suc m) rows ≡ take 32 rows ++ e ∷ take m (drop 33 rows) = ap (take (32 + suc m)) own ∙ take_over (take 32 rows) (e ∷ drop 33 rows) (32 + suc m) (suc m) (omega (arith, n)) in
      let back : drop (32 + suc m) rows ≡ drop m (drop 33 rows) = ap (drop (32 + suc m)) own ∙ drop_over (take 32 rows) (e ∷ drop 33 rows) (32 + suc m) (suc m) (omega (arith, n)) in
      let half : b.rows.items ≡ e ∷ (take m (drop 33 rows) ++ drop m (drop 33 rows)) = rows-b ∙ second ∙ ap (λ (es : List (List ℕ × CellMap)). e ∷ es) (sym (take-append-drop m (drop 33 rows))) in
      let long : length (take m (drop 33 rows)) ≡ m = length-take-le m (drop 33 rows) (omega (arith, length-drop 33 rows, full)) in
      let whole : GapParts k xs p ys (take 32 rows ++ e ∷ take m (drop 33 rows)) (drop m (drop 33 rows)) = subst (λ (f : List (List ℕ × CellMap)). GapParts k xs p ys f (drop m (drop 33 rows))) front (subst (GapParts k xs p ys (take (32 + suc m) rows)) back (parts k (32 + suc m) gap)) in
      subst (λ (ps : List Page). IsGap k ps (i + 1) (suc m)) (sym (now_is ∙ sym (joined xs (a ∷ []) (b ∷ ys))))
      (gap_at k (xs ++ a ∷ []) b ys (e ∷ take m (drop 33 rows)) (drop m (drop 33 rows)) (i + 1) (suc m) (omega (arith, length-append xs (a ∷ []), before)) (ap suc long)
      (gap_second k xs p ys (take 32 rows) e (take m (drop 33 rows)) (drop m (drop 33 rows)) a b whole rows-a least-b half))

  pub split_second : (k : List ℕ) (r : ℕ) → 32 < r → r ≤ 64 → IsGap k pages i r → IsGap k (insert (slice_set pages i a) (i + 1) b) (i + 1) (r - 32)
  split_second k r more le gap =
      let one : r - 32 ≡ suc (r - 33) = omega arith in
      let all : r ≡ 32 + suc (r - 33) = omega arith in
      subst (IsGap k (insert (slice_set pages i a) (i + 1) b) (i + 1)) (sym one) (second_gap k (r - 33) (omega arith) (subst (IsGap k pages i) all gap))

-- a full page, at what an index read
pub full_at : (old pages : List Page) (i : ℕ) (p : Page) → pages ≡ old → p ≡ get_or pages i p → ((d : Page) → length (get_or old i d).rows.items ≡ 64) → length p.rows.items ≡ 64
full_at old pages i p same is full = ap (λ (x : Page). length x.rows.items) (is ∙ ap (λ (ps : List Page). get_or ps i p) same) ∙ full p

pub within_full : (k : List ℕ) (pages : List Page) (i r : ℕ) (d : Page) → IsGap k pages i r → ((d : Page) → length (get_or pages i d).rows.items ≡ 64) → r ≤ 64
within_full k pages i r d gap full = let here = (gap.here d).in_range in omega (arith, here, full d)

-- The points of a row, made of its dots that stay, and their text.
use Rattle.std.proofs.Common.{◌≡◌, ℕ, zero, suc, ◌+◌, ◌-◌, ◌*◌, ◌<◌, true, List, [], ◌∷◌, ◌++◌, length, get_or, refl, sym, ap, subst, ◌∙◌, arith}
use Rattle.std.specs.Prelude.{All, Contains, Some, map, drop}
use Rattle.std.specs.List.{slice_get}
use Rattle.std.specs.Ordering.{MatchOrdering, nat_cmp, ordering_then}
use Rattle.std.specs.declared.cmp.Ordering.{Ordering}
use Rattle.std.specs.declared.cmp.Ordering.TheVariants.{Less, Equal, Greater}
use Rattle.std.specs.Cmp.{tied_itself}
use Rattle.std.specs.Cmp.Lexicographic.{nat_list_cmp_total}
use Rattle.std.proofs.lemmas.Cmp.{ranked}
use Rattle.list_lemmas.specs.BytesOrder.{bytes_cmp}
use Rattle.std.proofs.lemmas.Option.{slice_get_within}
use Rattle.list_lemmas.proofs.BoolTests.{not_Some}
use Rattle.list_lemmas.proofs.ListMembers.{in_map, map_in}
use Rattle.list_lemmas.proofs.ListParts.{all_of}
use Rattle.tsd_base.specs.TagList.{tags_cmp}
use Rattle.tsd_base.specs.TagOrder.{tags_cmp_total}
use Rattle.tsd_base.specs.declared.kinds.Kind.TheVariants.{Metric}
use Rattle.qual_codec.specs.declared.cells.Dot.{Dot}
use Rattle.qual_codec.specs.declared.cells.Cell.{Cell}
use Rattle.qual_codec.specs.CellDots.{Reads}
use Rattle.qual_codec.specs.Merge.{AreDots}
use Rattle.qual_codec.proofs.CallerLemmas.{one_dots}
use Rattle.cell_model.specs.declared.row.ListLine.{ListLine}
use Rattle.cell_model.specs.declared.row.Listing.{Listing}
use Rattle.cell_model.specs.Readings.{point_row}
use Rattle.cell_model.specs.Store.{Store, cells_of}
use Rattle.cell_model.specs.Rising.{LinesRise}
use Rattle.cell_model.specs.Listed.{store_of}
use Rattle.cell_model.specs.Sound.{IsBase}
use Rattle.listing_dump.specs.Dumps.{IsPointOfRow, PlacedPoint, Stays, dump_text, placed_cmp}
use Rattle.listing_dump.specs.BestDots.{AreKept, Keeps, dot_cmp}
use Rattle.listing_dump.specs.RowLines.{EndsRow, cell_of_line, is_points, lines_between}
use Rattle.listing_dump.specs.RowPlaces.{IsRowPlace}
use Rattle.listing_dump.specs.RowPoints.{AreOfRow, IsTextOfRow, dot_text, row_at, row_text, tags_at, tail_of}
use Rattle.listing_dump.specs.declared.best_dots.PlacedDot.{PlacedDot}
use Rattle.listing_dump.specs.declared.row_places.RowPlace.{RowPlace}
use Rattle.listing_dump.proofs.Filters.{take_place}
use Rattle.listing_dump.proofs.LineStores.{rise_map}
use Rattle.listing_dump.proofs.RowCells.{begins_points, cells_are, of_row_is}
use Rattle.listing_dump.proofs.RankOrders.{then_equal}
use Rattle.listing_dump.proofs.RowOrders.{series_of, tags_named}
use Rattle.listing_dump.proofs.SoundLines.{line_reads, name_of_rank, row_value}

-- cells have one list of dots
dots_once : (cells : List Cell) (a b : List Dot) → AreDots cells a → AreDots cells b → a ≡ b
dots_once [] a b p q = p ∙ sym q
dots_once (c ∷ cells) a b p q =
    let first = one_dots c.qual c.value p.0 q.0 p.2 q.2 in
    let rest = dots_once cells p.1 q.1 p.3 q.3 in
    p.4 ∙ (λ i. first i ++ rest i) ∙ sym q.4

-- numbers stand as they do behind the same number
nat_shift : (a x y : ℕ) → nat_cmp (a + x) (a + y) ≡ nat_cmp x y
nat_shift a x y = at (nat_cmp x y) refl (ranked x y (nat_cmp x y) refl) (nat_cmp (a + x) (a + y)) refl (ranked (a + x) (a + y) (nat_cmp (a + x) (a + y)) refl)
  where
    at : (o : Ordering) → nat_cmp x y ≡ o → MatchOrdering o (x < y) (x ≡ y) (y < x) → (p : Ordering) → nat_cmp (a + x) (a + y) ≡ p → MatchOrdering p (a + x < a + y) (a + x ≡ a + y) (a + y < a + x) → p ≡ o
    at Less e r Less f s = refl
    at Equal e r Equal f s = refl
    at Greater e r Greater f s = refl
    at Less e r Equal f s = absurd (omega (arith, r, s))
    at Less e r Greater f s = absurd (omega (arith, r, s))
    at Equal e r Less f s = absurd (omega (arith, r, s))
    at Equal e r Greater f s = absurd (omega (arith, r, s))
    at Greater e r Less f s = absurd (omega (arith, r, s))
    at Greater e r Equal f s = absurd (omega (arith, r, s))

module _ (l : Listing) (up : LinesRise l.lines) (base : IsBase (store_of l)) (r : RowPlace) (is : IsRowPlace l.widths l.lines r) where
  abbrev pub cells : List ListLine
  cells = l.lines

  abbrev pub s : Store
  s = store_of l

  abbrev pub row : List ℕ
  row = row_at cells r.line

  -- the point of a dot of the row
  abbrev pub point_of : PlacedDot → PlacedPoint
  point_of q = record { point = record { metric = row_at cells r.metric; tags = tags_at cells r.tags.items; time = r.base * 1000 + q.dot.item.offset; fine = q.dot.item.fine; value = q.dot.value }; place = q.place }

  points_rise : (p q : PlacedDot) → dot_cmp p q ≡ Less → placed_cmp (point_of p) (point_of q) ≡ Less
  points_rise p q lt =
      then_equal (bytes_cmp (row_at cells r.metric) (row_at cells r.metric)) (tags_cmp (tags_at cells r.tags.items) (tags_at cells r.tags.items))
      (ordering_then (nat_cmp (r.base * 1000 + p.dot.item.offset) (r.base * 1000 + q.dot.item.offset)) (nat_cmp p.place q.place)) (tied_itself nat_list_cmp_total (row_at cells r.metric)) (tied_itself tags_cmp_total (tags_at cells r.tags.items))
      ∙ ap (λ o. ordering_then o (nat_cmp p.place q.place)) (nat_shift (r.base * 1000) p.dot.item.offset q.dot.item.offset) ∙ lt

  module _ (dots : List Dot) (are : AreDots (cells_of s (point_row row)) dots) where
    made : (q : PlacedDot) → Stays dots q.place q.dot → IsPointOfRow s row (point_of q)
    made q stays = record {
      dots = dots;
      dots_are = are;
      dot = q.dot;
      stays = stays;
      reads = record {
        key = is.key;
        is_key = is.is_key;
        row_is = row_value cells r.line is.line is.there ∙ is.row_is;
        metric_is = name_of_rank l up base Metric is.key.metric r.metric is.metric;
        tags_are = tags_named l up base r is;
        time_is = ap (λ n. n * 1000 + q.dot.item.offset) is.base_is;
        value_is = refl;
      };
      form = refl;
    }

    -- each point of the row is that of a dot that stays
    found : (placed : List PlacedDot) → AreKept dots placed → (p : PlacedPoint) → IsPointOfRow s row p → Contains (map point_of placed) p
    found placed kept p x =
        let same = dots_once (cells_of s (point_row row)) x.dots dots x.dots_are are in
        let stays = subst (λ (ds : List Dot). Stays ds p.place x.dot) same x.stays in
        let here = in_map point_of placed (record { place = p.place; dot = x.dot }) (kept.all p.place x.dot stays) in
        let series = series_of l up base r is p x in
        subst (Contains (map point_of placed))
        (λ i. record { point = record { metric = (sym series.metric) i; tags = (sym series.tags) i; time = (sym series.time) i; fine = (sym x.form) i; value = (sym series.value) i }; place = p.place }) here

    points_of_row : (placed : List PlacedDot) → AreKept dots placed → AreOfRow s row (map point_of placed)
    points_of_row placed kept = record {
      rising = rise_map point_of (λ (p q : PlacedPoint). placed_cmp p q ≡ Less) placed (λ i j d low lt. points_rise (get_or placed i d) (get_or placed j d) (kept.rising i j d low lt));
      each = λ p c. let m = map_in point_of placed p c in subst (IsPointOfRow s row) m.2 (made m.0 (kept.each m.0 m.1));
      all = found placed kept;
    }

    text_of : (placed : List PlacedDot) → row_text (row_at cells r.metric) r.base (tail_of cells r.tags.items) (map (λ (q : PlacedDot). q.dot) placed) ≡ dump_text (map point_of placed)
    text_of [] = refl
    text_of (q ∷ placed) = ap (λ t. dot_text (row_at cells r.metric) r.base (tail_of cells r.tags.items) q.dot ++ t) (text_of placed)

    -- the lines of the dots that stay are the text of the row's points
    pub row_text_is : (kept : List Dot) (tail : List ℕ) → Keeps dots kept → tail ≡ tail_of cells r.tags.items → IsTextOfRow s row (row_text (row_at cells r.metric) r.base tail kept)
    row_text_is kept tail keeps e = record {
      points = map point_of keeps.placed;
      are = points_of_row keeps.placed keeps.are;
      text_is = (λ i. row_text (row_at cells r.metric) r.base (e i) (keeps.dots_are i)) ∙ text_of keeps.placed;
    }

get_dropped : {X : Type 0} (xs : List X) (from j : ℕ) (x : X) → slice_get (drop from xs) j ≡ Some x → slice_get xs (from + j) ≡ Some x
get_dropped xs zero j x is = ap (slice_get xs) (let e : 0 + j ≡ j = omega (arith) in e) ∙ is
get_dropped [] (suc from) j x is = absurd (not_Some x (sym is))
get_dropped (y ∷ xs) (suc from) j x is = ap (slice_get (y ∷ xs)) (let e : suc from + j ≡ suc (from + j) = omega (arith) in e) ∙ get_dropped xs from j x is

-- what a row's line tells of the row
module _ (l : Listing) (up : LinesRise l.lines) (base : IsBase (store_of l)) (r : RowPlace) (is : IsRowPlace l.widths l.lines r) (to : ℕ)
    (ends : (x : ListLine) → slice_get l.lines r.line ≡ Some x → is_points x.table ≡ true → EndsRow l.lines r.line to x.row) where
  of_row : EndsRow l.lines r.line to is.line.row
  of_row = ends is.line is.there (ap is_points (begins_points l.lines r.line is.line is.begins))

  -- its cells read
  pub part_reads : All (λ (x : ListLine). Reads x.qual x.value) (lines_between l.lines r.line to)
  part_reads = all_of (λ (x : ListLine). Reads x.qual x.value) (lines_between l.lines r.line to) each
    where
      each : (x : ListLine) → Contains (lines_between l.lines r.line to) x → Reads x.qual x.value
      each x c =
          let w = take_place (drop r.line l.lines) (to - r.line) x c in
          let at = get_dropped l.lines r.line w.0 x w.2 in
          let lt = w.1 in
          let so = of_row.each (r.line + w.0) x (omega (arith)) (omega (arith, lt)) at in
          line_reads l up base (r.line + w.0) x at (of_row_is is.line.row x so).0

  -- and its dots that stay are its text
  pub row_loaded : (dots kept : List Dot) (tail : List ℕ) → AreDots (map cell_of_line (lines_between l.lines r.line to)) dots → Keeps dots kept → tail ≡ tail_of l.lines r.tags.items
      → IsTextOfRow (store_of l) (row_at l.lines r.line) (row_text (row_at l.lines r.metric) r.base tail kept)
  row_loaded dots kept tail are keeps e =
      let row : row_at l.lines r.line ≡ is.line.row = row_value l.lines r.line is.line is.there in
      let cells : cells_of (store_of l) (point_row (row_at l.lines r.line)) ≡ map cell_of_line (lines_between l.lines r.line to) =
      ap (λ (b : List ℕ). cells_of (store_of l) (point_row b)) row ∙ cells_are l up r.line to is.line is.there is.begins of_row in
      row_text_is l up base r is dots (subst (λ (cs : List Cell). AreDots cs dots) (sym cells) are) kept tail keeps e

-- the lines of a row's names are there
pub names_there : (l : Listing) (r : RowPlace) → IsRowPlace l.widths l.lines r → (r.line < length l.lines) × (r.metric < length l.lines) × All (λ (t : ℕ × ℕ). (t.0 < length l.lines) × (t.1 < length l.lines)) r.tags.items
names_there l r is = (
  slice_get_within l.lines r.line is.line is.there,
  slice_get_within l.lines r.metric is.metric.line is.metric.there,
  all_of (λ (t : ℕ × ℕ). (t.0 < length l.lines) × (t.1 < length l.lines)) r.tags.items
      (λ t c. let p = is.tags.back t c in (slice_get_within l.lines t.0 p.2.key.line p.2.key.there, slice_get_within l.lines t.1 p.2.value.line p.2.value.there)),
)

-- The points of a row have its names and its hour, so points stand in the order of their rows.
use Rattle.std.proofs.Common.{◌≡◌, ℕ, ◌+◌, ◌*◌, ◌%◌, ◌<◌, ◌≤◌, true, false, List, ◌++◌, refl, sym, ap, subst, ◌∙◌, arith}
use Rattle.std.specs.Prelude.{Contains, Option}
use Rattle.std.specs.List.{flat_map, slice_get}
use Rattle.std.specs.Ordering.{MatchOrdering, nat_cmp, ordering_then}
use Rattle.std.specs.declared.cmp.Ordering.{Ordering}
use Rattle.std.specs.declared.cmp.Ordering.TheVariants.{Less, Equal, Greater}
use Rattle.std.specs.Cmp.Lexicographic.{slice_cmp}
use Rattle.std.specs.FinMap.{nat_cmp-IsAntisymmetric, slice_cmp-IsAntisymmetric}
use Rattle.std.proofs.lemmas.Cmp.{ranked}
use Rattle.list_lemmas.specs.BytesOrder.{bytes_cmp}
use Rattle.list_lemmas.proofs.BoolTests.{same_Some}
use Rattle.list_lemmas.proofs.ListMembers.{in_map, map_in}
use Rattle.list_lemmas.proofs.OrderedBytes.{never_both}
use Rattle.list_lemmas.proofs.SameLists.{same_rising}
use Rattle.tsd_base.specs.TagList.{Pair, tags_cmp}
use Rattle.tsd_base.specs.declared.kinds.Kind.{Kind}
use Rattle.tsd_base.specs.declared.kinds.Kind.TheVariants.{Metric, TagKey, TagValue}
use Rattle.row_hours.specs.declared.hours.TheConstants.{LAST_OFFSET}
use Rattle.row_key.specs.declared.keys.RowKey.{RowKey}
use Rattle.row_key.specs.Key.{hour_bytes, key_bytes, pair_bytes}
use Rattle.row_key.specs.KeyOrder.{pair_cmp}
use Rattle.row_key.proofs.CallerLemmas.{one_key}
use Rattle.qual_codec.specs.declared.cells.Dot.{Dot}
use Rattle.qual_codec.proofs.CallerLemmas.{dot_good, dot_in}
use Rattle.cell_model.specs.declared.row.ListLine.{ListLine}
use Rattle.cell_model.specs.declared.row.Listing.{Listing}
use Rattle.cell_model.specs.KindWidths.{Widths, kind_bytes}
use Rattle.cell_model.specs.IdRows.{id_number, name_in}
use Rattle.cell_model.specs.Readings.{IsNamed, Named, point_row}
use Rattle.cell_model.specs.Store.{Store, cells_of}
use Rattle.cell_model.specs.Rising.{LinesRise}
use Rattle.cell_model.specs.Listed.{store_of}
use Rattle.cell_model.specs.Sound.{IsBase}
use Rattle.cell_model.proofs.CallerLemmas.{number-bytes}
use Rattle.listing_dump.specs.Dumps.{IsPointOfRow, PlacedPoint, placed_cmp}
use Rattle.listing_dump.specs.NameRanks.{IsRank}
use Rattle.listing_dump.specs.RowPlaces.{IsRowPlace, row_place_cmp}
use Rattle.listing_dump.specs.RowPoints.{row_at, tags_at}
use Rattle.listing_dump.specs.declared.row_places.RowPlace.{RowPlace}
use Rattle.listing_dump.proofs.Filters.{in_place}
use Rattle.listing_dump.proofs.RankOrders.{AllRanks, nat_less, rank_order, tags_order, tags_rise}
use Rattle.listing_dump.proofs.RowCells.{begins_points, is_row, none_before}
use Rattle.listing_dump.proofs.SoundLines.{name_of_rank, row_value}

-- tags by name, of these pairs, are one list
named_once : (names : Kind → ℕ → Option (List ℕ)) (pairs : List (ℕ × ℕ)) (ts us : List Pair) → Named names pairs ts → Named names pairs us → ts ≡ us
named_once names pairs ts us a b =
    same_rising (λ (p q : Pair). bytes_cmp p.0 q.0 ≡ Less) (λ p q low high. never_both p.0 q.0 low high) ts us a.rising b.rising (λ t c. other ts us a b t c) (λ t c. other us ts b a t c)
  where
    other : (xs ys : List Pair) → Named names pairs xs → Named names pairs ys → (t : Pair) → Contains xs t → Contains ys t
    other xs ys n m t c =
        let p = n.back t c in
        let u = m.each p.0 p.1 in
        let key = same_Some t.0 u.0.0 (sym p.2.0 ∙ u.2.0) in
        let value = same_Some t.1 u.0.1 (sym p.2.1 ∙ u.2.1) in
        let same : u.0 ≡ t = λ i. ((sym key) i, (sym value) i) in
        subst (Contains ys) same u.1

module _ (l : Listing) (up : LinesRise l.lines) (base : IsBase (store_of l)) where
  abbrev pub w : Widths
  w = l.widths

  abbrev pub cells : List ListLine
  cells = l.lines

  abbrev pub s : Store
  s = store_of l

  all_ranks : (r : RowPlace) → IsRowPlace w cells r → AllRanks w cells up r.tags.items
  all_ranks r is t c = let p = is.tags.back t c in ((p.0.0, p.2.key), (p.0.1, p.2.value))

  -- the names of a row's tags are those on the lines of their ranks
  pub tags_named : (r : RowPlace) (is : IsRowPlace w cells r) → Named (name_in s) is.key.pairs.items (tags_at cells r.tags.items)
  tags_named r is = record {
    rising = tags_rise w cells up r.tags.items (all_ranks r is) is.tags.rising;
    each = λ p c.
        let t = is.tags.each p c in (
          (row_at cells t.0.0, row_at cells t.0.1),
          in_map (λ (x : ℕ × ℕ). (row_at cells x.0, row_at cells x.1)) r.tags.items t.0 t.1,
          (name_of_rank l up base TagKey p.0 t.0.0 t.2.key, name_of_rank l up base TagValue p.1 t.0.1 t.2.value),
        );
    back = λ t c.
        let m = map_in (λ (x : ℕ × ℕ). (row_at cells x.0, row_at cells x.1)) r.tags.items t c in
        let p = is.tags.back m.0 m.1 in
        (p.0, p.1, subst (IsNamed (name_in s) p.0) m.2 (name_of_rank l up base TagKey p.0.0 m.0.0 p.2.key, name_of_rank l up base TagValue p.0.1 m.0.1 p.2.value));
  }

  -- the names and the hour of a point of a row
  pub record HasSeries (r : RowPlace) (p : PlacedPoint) (d : Dot) : Type 0 where
    pub metric : p.point.metric ≡ row_at cells r.metric
    pub tags : p.point.tags ≡ tags_at cells r.tags.items
    pub time : p.point.time ≡ r.base * 1000 + d.item.offset
    pub value : p.point.value ≡ d.value
    pub offset : d.item.offset ≤ LAST_OFFSET

  pub series_of : (r : RowPlace) (is : IsRowPlace w cells r) (p : PlacedPoint) (x : IsPointOfRow s (row_at cells r.line) p) → HasSeries r p x.dot
  series_of r is p x =
      let row : row_at cells r.line ≡ key_bytes w is.key = row_value cells r.line is.line is.there ∙ is.row_is in
      let key : x.reads.key ≡ is.key = one_key w x.reads.key is.key x.reads.is_key is.is_key (sym x.reads.row_is ∙ row) in
      let names = subst (λ (k : RowKey). Named (name_in s) k.pairs.items p.point.tags) key x.reads.tags_are in
      let d = dot_in (cells_of s (point_row (row_at cells r.line))) x.dots x.dot x.dots_are (in_place x.dots p.place x.dot x.stays.there) in
      record {
        metric = same_Some p.point.metric (row_at cells r.metric) (sym x.reads.metric_is ∙ ap (λ (k : RowKey). name_in s Metric k.metric) key ∙ name_of_rank l up base Metric is.key.metric r.metric is.metric);
        tags = named_once (name_in s) is.key.pairs.items p.point.tags (tags_at cells r.tags.items) names (tags_named r is);
        time = x.reads.time_is ∙ ap (λ (k : RowKey). k.base * 1000 + x.dot.item.offset) key ∙ ap (λ n. n * 1000 + x.dot.item.offset) (sym is.base_is);
        value = x.reads.value_is;
        offset = (dot_good d.cell.qual d.cell.value d.dots x.dot d.are d.has).0.offset;
      }

  -- ---- rows that stand at one place are one

  rank_once : (kind : Kind) (a b x y : ℕ) → IsRank w cells kind a x → IsRank w cells kind b y → x ≡ y → a ≡ b
  rank_once kind a b x y p q e =
      let line : p.line ≡ q.line = same_Some p.line q.line (sym p.there ∙ ap (slice_get cells) e ∙ q.there) in
      let bytes : kind_bytes w kind a ≡ kind_bytes w kind b = sym p.value_is ∙ ap (λ (c : ListLine). c.value) line ∙ q.value_is in
      same_Some a b (sym (number-bytes w kind a p.fits) ∙ ap id_number bytes ∙ number-bytes w kind b q.fits)

  pairs_once : (r q : RowPlace) (a : IsRowPlace w cells r) (b : IsRowPlace w cells q) → r.tags.items ≡ q.tags.items → a.key.pairs.items ≡ b.key.pairs.items
  pairs_once r q a b e =
      same_rising (λ (p q : ℕ × ℕ). p.0 < q.0) (λ p q low high. omega (arith, low, high)) a.key.pairs.items b.key.pairs.items a.is_key.rising b.is_key.rising
      (λ p c. other r q a b e p c) (λ p c. other q r b a (sym e) p c)
    where
      other : (r q : RowPlace) (a : IsRowPlace w cells r) (b : IsRowPlace w cells q) → r.tags.items ≡ q.tags.items → (p : ℕ × ℕ) → Contains a.key.pairs.items p → Contains b.key.pairs.items p
      other r q a b e p c =
          let t = a.tags.each p c in
          let u = b.tags.back t.0 (subst (λ (xs : List (ℕ × ℕ)). Contains xs t.0) e t.1) in
          let key = rank_once TagKey p.0 u.0.0 t.0.0 t.0.0 t.2.key u.2.key refl in
          let value = rank_once TagValue p.1 u.0.1 t.0.1 t.0.1 t.2.value u.2.value refl in
          let same : u.0 ≡ p = λ i. ((sym key) i, (sym value) i) in
          subst (Contains b.key.pairs.items) same u.1

  -- rows of one series and hour begin on one line
  one_row : (r q : RowPlace) (a : IsRowPlace w cells r) (b : IsRowPlace w cells q) → r.metric ≡ q.metric → r.tags.items ≡ q.tags.items → r.base ≡ q.base → r.line < q.line → ⊥
  one_row r q a b metric tags base_ lt =
      let m = rank_once Metric a.key.metric b.key.metric r.metric q.metric a.metric b.metric metric in
      let h : a.key.base ≡ b.key.base = sym a.base_is ∙ base_ ∙ b.base_is in
      let ps = pairs_once r q a b tags in
      let bytes : key_bytes w a.key ≡ key_bytes w b.key = λ i. hour_bytes w (m i) (h i) ++ flat_map (pair_bytes w) (ps i) in
      let row : a.line.row ≡ b.line.row = a.row_is ∙ bytes ∙ sym b.row_is in
      let not_it = none_before cells up q.line b.line b.there b.begins r.line a.line lt a.there in
      let it = is_row b.line.row a.line (begins_points cells r.line a.line a.begins) row in
      let nay : false ≡ true = sym not_it ∙ it in cc

  -- ---- points stand as their rows do

  later_hour : (a b x y : ℕ) → a % 3600 ≡ 0 → b % 3600 ≡ 0 → a < b → x ≤ LAST_OFFSET → a * 1000 + x < b * 1000 + y
  later_hour a b x y ha hb lt le = let last : x ≤ 3599999 = le in omega (arith, ha, hb, lt, last)

  exact_tags : (ps qs : List (ℕ × ℕ)) → slice_cmp pair_cmp ps qs ≡ Equal → ps ≡ qs
  exact_tags = slice_cmp-IsAntisymmetric exact_pair
    where
      both_equal : (a b : Ordering) → ordering_then a b ≡ Equal → (a ≡ Equal) × (b ≡ Equal)
      both_equal Less b e = absurd cc
      both_equal Equal b e = (refl, e)
      both_equal Greater b e = absurd cc

      exact_pair : (p q : ℕ × ℕ) → pair_cmp p q ≡ Equal → p ≡ q
      exact_pair p q e =
          let h = both_equal (nat_cmp p.0 q.0) (nat_cmp p.1 q.1) e in
          let key = nat_cmp-IsAntisymmetric p.0 q.0 h.0 in
          let value = nat_cmp-IsAntisymmetric p.1 q.1 h.1 in
          λ i. (key i, value i)

  -- the points of an earlier row stand before those of a later one
  pub rows_order : (r q : RowPlace) → IsRowPlace w cells r → IsRowPlace w cells q → row_place_cmp r q ≡ Less → (p x : PlacedPoint) → IsPointOfRow s (row_at cells r.line) p → IsPointOfRow s (row_at cells q.line) x → placed_cmp p x ≡ Less
  rows_order r q a b less p x ofr ofq =
      let sp = series_of r a p ofr in
      let sx = series_of q b x ofq in
      let m : bytes_cmp p.point.metric x.point.metric ≡ nat_cmp r.metric q.metric = (λ i. bytes_cmp (sp.metric i) (sx.metric i)) ∙ rank_order w cells up Metric a.key.metric b.key.metric r.metric q.metric a.metric b.metric in
      let t : tags_cmp p.point.tags x.point.tags ≡ slice_cmp pair_cmp r.tags.items q.tags.items = (λ i. tags_cmp (sp.tags i) (sx.tags i)) ∙ tags_order w cells up r.tags.items q.tags.items (all_ranks r a) (all_ranks q b) in
      let times : r.base < q.base → nat_cmp p.point.time x.point.time ≡ Less = λ lt.
      (λ i. nat_cmp (sp.time i) (sx.time i)) ∙ nat_less (r.base * 1000 + ofr.dot.item.offset) (q.base * 1000 + ofq.dot.item.offset)
      (later_hour r.base q.base ofr.dot.item.offset ofq.dot.item.offset (ap (λ n. n % 3600) a.base_is ∙ a.is_key.hour) (ap (λ n. n % 3600) b.base_is ∙ b.is_key.hour) lt sp.offset) in
      (λ i. ordering_then (m i) (ordering_then (t i) (ordering_then (nat_cmp p.point.time x.point.time) (nat_cmp p.place x.place))))
      ∙ at (nat_cmp r.metric q.metric) (slice_cmp pair_cmp r.tags.items q.tags.items) (nat_cmp r.base q.base) (nat_cmp r.line q.line) refl refl refl refl less (ranked r.base q.base (nat_cmp r.base q.base) refl) (ranked r.line q.line (nat_cmp r.line q.line) refl) times
    where
      at : (m t h n : Ordering) → nat_cmp r.metric q.metric ≡ m → slice_cmp pair_cmp r.tags.items q.tags.items ≡ t → nat_cmp r.base q.base ≡ h → nat_cmp r.line q.line ≡ n → ordering_then m (ordering_then t (ordering_then h n)) ≡ Less
          → MatchOrdering h (r.base < q.base) (r.base ≡ q.base) (q.base < r.base) → MatchOrdering n (r.line < q.line) (r.line ≡ q.line) (q.line < r.line) → (r.base < q.base → nat_cmp p.point.time x.point.time ≡ Less)
          → ordering_then m (ordering_then t (ordering_then (nat_cmp p.point.time x.point.time) (nat_cmp p.place x.place))) ≡ Less
      at Less t h n em et eh en e rh rn times = refl
      at Greater t h n em et eh en e rh rn times = absurd cc
      at Equal Less h n em et eh en e rh rn times = refl
      at Equal Greater h n em et eh en e rh rn times = absurd cc
      at Equal Equal Less n em et eh en e rh rn times = ap (λ o. ordering_then o (nat_cmp p.place x.place)) (times rh)
      at Equal Equal Greater n em et eh en e rh rn times = absurd cc
      at Equal Equal Equal Less em et eh en e rh rn times = absurd (one_row r q a b (nat_cmp-IsAntisymmetric r.metric q.metric em) (exact_tags r.tags.items q.tags.items et) rh rn)
      at Equal Equal Equal Equal em et eh en e rh rn times = absurd cc
      at Equal Equal Equal Greater em et eh en e rh rn times = absurd cc

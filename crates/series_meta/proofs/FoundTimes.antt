-- What the rows of a metric that were found say of what was accepted.
use Rattle.std.proofs.Common.{◌≡◌, ℕ, ◌+◌, ◌*◌, ◌%◌, ◌<◌, ◌≤◌, true, List, [], ◌∷◌, refl, sym, ap, subst, ◌∙◌, arith}
use Rattle.std.specs.Prelude.{AllPairs, Contains, Option, Some}
use Rattle.list_lemmas.proofs.ListMembers.{here}
use Rattle.list_lemmas.proofs.SameLists.{same_rising}
use Rattle.tsd_base.specs.declared.times.TheConstants.{LAST_TIME}
use Rattle.tsd_base.specs.declared.kinds.Kind.TheVariants.{Metric, TagKey, TagValue}
use Rattle.tsd_base.specs.TagList.{Pair}
use Rattle.row_key.specs.declared.widths.Widths.{Widths}
use Rattle.row_key.specs.declared.keys.RowKey.{RowKey}
use Rattle.row_key.specs.Key.{IsKey, key_bytes}
use Rattle.row_key.proofs.CallerLemmas.{one_key}
use Rattle.qual_codec.specs.declared.cells.Cell.{Cell}
use Rattle.qual_codec.proofs.CallerLemmas.{dot_in}
use Rattle.cell_model.specs.declared.row.Found.{Found}
use Rattle.cell_model.specs.declared.row.Row.{Row}
use Rattle.cell_model.specs.declared.events.Placed.{Placed}
use Rattle.cell_model.specs.Store.{cells_of}
use Rattle.cell_model.specs.History.{History, first, store_after}
use Rattle.cell_model.specs.IdRows.{id_of, name_of}
use Rattle.cell_model.specs.Lawful.{IsLawful}
use Rattle.cell_model.specs.Layout.{base_time}
use Rattle.cell_model.specs.Readings.{Reading, IsNamed, Named, point_row}
use Rattle.cell_model.specs.Deeds.{before_first}
use Rattle.row_scan.specs.Scans.{IsRowOf, IsWanted, HasCell}
use Rattle.row_scan.specs.Laws.{ScanGives}
use Rattle.row_scan.specs.RowReadings.{RowReads}
use Rattle.row_scan.proofs.CallerLemmas.{ShownCell, cell_at, metric_id, pair_ids, row_stays, row_stood, shown_accepted}
use Rattle.query_text.specs.declared.queries.Sub.{Sub}
use Rattle.metric_scan.specs.Walks.{Picks, picked_by}
use Rattle.query_run.proofs.WalkLemmas.{PicksBy}
use Rattle.series_meta.specs.SeriesTimes.{Times, AreTimes}
use Rattle.series_meta.specs.Lookups.{HadPoint}
use Rattle.series_meta.proofs.LastReadings.{cell_dots}
use Rattle.series_meta.proofs.ReadRows.{stood, shown_reading}

same_Some : {X : Type 0} (x y : X) → ◌≡◌ {A = Option X} (Some x) (Some y) → x ≡ y
same_Some x y e = cc

-- ---- the ids of tags

-- the ids of these pairs are those of their names
abbrev pub AreBack : History → List (ℕ × ℕ) → Type 0
AreBack g pairs = (p : ℕ × ℕ) → Contains pairs p → (t : Pair) → IsNamed (name_of g) p t → (id_of g TagKey t.0 ≡ Some p.0) × (id_of g TagValue t.1 ≡ Some p.1)

ids_within : (g : History) (a b : List (ℕ × ℕ)) (tags : List Pair) → AreBack g a → AreBack g b → Named (name_of g) a tags → Named (name_of g) b tags → (p : ℕ × ℕ) → Contains a p → Contains b p
ids_within g a b tags ba bb na nb p c =
    let u = na.each p c in
    let q = nb.back u.0 u.1 in
    let x = ba p c u.0 u.2 in
    let y = bb q.0 q.1 u.0 q.2 in
    let key : q.0.0 ≡ p.0 = same_Some q.0.0 p.0 (sym y.0 ∙ x.0) in
    let value : q.0.1 ≡ p.1 = same_Some q.0.1 p.1 (sym y.1 ∙ x.1) in
    let is : ◌≡◌ {A = ℕ × ℕ} q.0 p = λ i. (key i, value i) in
    subst (Contains b) is q.1

below_asym : (a b : ℕ × ℕ) → a.0 < b.0 → b.0 < a.0 → ⊥
below_asym a b x y = omega (arith, x, y)

-- the same tags have the same ids
pub ids_once : (g : History) (a b : List (ℕ × ℕ)) (tags : List Pair) → AreBack g a → AreBack g b → AllPairs (λ p q. p.0 < q.0) a → AllPairs (λ p q. p.0 < q.0) b → Named (name_of g) a tags → Named (name_of g) b tags → a ≡ b
ids_once g a b tags ba bb ra rb na nb = same_rising (λ (p q : ℕ × ℕ). p.0 < q.0) below_asym a b ra rb (ids_within g a b tags ba bb na nb) (ids_within g b a tags bb ba nb na)

-- ---- places and hours

-- what stands above a length begins there or behind it
pub first_late : (list : List Placed) (n end : ℕ) → ((p : Placed) → Contains list p → n < p.place) → n ≤ end → n ≤ before_first list end
first_late [] n end above le = le
first_late (p ∷ list) n end above le = let a = above p (here p list) in omega (arith, a)

-- an hour of a key is one of a time up to the last
hour_up : (base : ℕ) → base < 4294967296 → base % 3600 ≡ 0 → base ≤ base_time LAST_TIME
hour_up base small whole = omega (arith, small, whole)

module _ (picks : Picks) (sub : Sub) (id begin start end : ℕ) (founds : List Found) (times : Times) (h : History) (lawful : IsLawful h) (early : begin ≤ start) (within : begin ≤ end) (gives : ScanGives (picked_by picks) h start end id 0 (base_time LAST_TIME) founds)
    (widths : (store_after (first end h)).widths ≡ (store_after h).widths) (are : AreTimes picks (store_after (first end h)).widths id 0 LAST_TIME founds times) (metric_named : name_of (first end h) Metric id ≡ Some sub.metric) (metric_known : id_of (first end h) Metric sub.metric ≡ Some id)
    (by_row : (key : RowKey) → IsKey (store_after (first end h)).widths key → HasCell (store_after (first end h)) (point_row (key_bytes (store_after (first end h)).widths key)) → PicksBy picks sub.filters (name_of (first end h)) key) where
  abbrev g : History
  g = first end h

  abbrev W : Widths
  W = (store_after g).widths

  -- each time of the rows that were found was accepted by the end
  pub time_had : (pairs : List (ℕ × ℕ)) (tags : List Pair) (time : ℕ) → Named (name_of g) pairs tags → Contains (times pairs) time → HadPoint sub g tags time
  time_had pairs tags time named c =
      let w = are.from pairs time c in
      let f = w.found in
      let was = (gives.only f w.among).1 in
      let mine : Named (name_of g) w.key.pairs.items tags = subst (λ (p : List (ℕ × ℕ)). Named (name_of g) p tags) (sym w.pairs_are) named in
      let d = dot_in f.cells w.dots w.dot w.are w.there in
      let reading : Reading = record { metric = sub.metric; tags = tags; time = time; value = w.dot.value } in
      let reads : RowReads W (name_of g) f reading = record {
        cell = d.cell;
        among = d.among;
        reads = record {
          dots = d.dots;
          reads = d.are;
          dot = w.dot;
          among = d.has;
          dot_reads = record {
            key = w.key;
            is_key = w.of.is_key;
            row_is = ap (λ (r : Row). r.bytes) w.of.row_is;
            metric_is = ap (name_of g Metric) w.of.metric_is ∙ metric_named;
            tags_are = mine;
            time_is = w.time_is;
            value_is = refl;
          };
        };
      } in
      let row : f.row ≡ point_row f.row.bytes = w.of.row_is ∙ ap point_row (sym (ap (λ (r : Row). r.bytes) w.of.row_is)) in
      let cells : f.cells ≡ cells_of (store_after (first was.when h)) (point_row f.row.bytes) = was.cells ∙ ap (cells_of (store_after (first was.when h))) row in
      let shown : ShownCell h end f d.cell = record {
        when = was.when;
        up_to = was.up_to;
        stands = cell_at (store_after (first was.when h)) (point_row f.row.bytes) d.cell (subst (λ (l : List Cell). Contains l d.cell) cells d.among);
      } in
      let has : HasCell (store_after g) (point_row (key_bytes W w.key)) = subst (HasCell (store_after g)) w.of.row_is (row_stays h was.when end f.row lawful (ap (λ (r : Row). r.table) w.of.row_is) was.up_to was.there) in
      record {
        reading = reading;
        accepted = shown_accepted h end f reading lawful reads shown;
        metric_is = refl;
        tags_are = refl;
        time_is = refl;
        passed = sym (by_row w.key w.of.is_key has tags mine) ∙ w.picked;
      }

  -- a time of the series that was accepted at the beginning is among those that were found
  pub record IsFoundAt (tags : List Pair) (time : ℕ) : Type 0 where
    pub key : RowKey
    pub rising : AllPairs (λ p q. p.0 < q.0) key.pairs.items
    pub back : AreBack g key.pairs.items
    pub named : Named (name_of g) key.pairs.items tags
    pub there : Contains (times key.pairs.items) time

  pub time_found : (tags : List Pair) (time : ℕ) → HadPoint sub (first begin h) tags time → IsFoundAt tags time
  time_found tags time p =
      let st = stood h begin end p.reading lawful within p.accepted in
      let s = st.0 in
      let x = st.1 in
      let m = st.2 in
      let d = x.reads.dot_reads in
      let named : Named (name_of g) d.key.pairs.items tags = subst (Named (name_of g) d.key.pairs.items) (sym m.tags ∙ p.tags_are) d.tags_are in
      let cell : HasCell (store_after (first begin h)) (point_row x.row) = (x.qual, x.value, x.stands) in
      let has : HasCell (store_after g) (point_row (key_bytes W d.key)) = subst (λ (b : List ℕ). HasCell (store_after g) (point_row b)) d.row_is (row_stays h begin end (point_row x.row) lawful refl within cell) in
      let picked : picks d.key.pairs.items ≡ true = by_row d.key d.is_key has tags named ∙ p.passed in
      let stands = row_stood h begin end x.row x.qual x.value lawful within x.stands in
      let metric : d.key.metric ≡ id = same_Some d.key.metric id (sym (metric_id g x.row x.reads.dot s stands d) ∙ ap (id_of g Metric) (sym m.metric ∙ p.metric_is) ∙ metric_known) in
      let row_of : IsRowOf W id 0 (base_time LAST_TIME) (point_row x.row) = record {
        key = d.key;
        is_key = d.is_key;
        row_is = ap point_row d.row_is;
        metric_is = metric;
        from_on = omega arith;
        up_to = hour_up d.key.base d.is_key.base d.is_key.hour;
      } in
      let wanted : IsWanted W (picked_by picks) (point_row x.row) = record { key = d.key; is_key = d.is_key; row_is = ap point_row d.row_is; wanted = picked } in
      let given = gives.all (point_row x.row) (subst (λ (w : Widths). IsRowOf w id 0 (base_time LAST_TIME) (point_row x.row)) widths row_of) (subst (λ (w : Widths). IsWanted w (picked_by picks) (point_row x.row)) widths wanted) (row_stays h begin start (point_row x.row) lawful refl early cell) in
      let f = given.0 in
      let same = given.2 in
      let was = (gives.only f given.1).1 in
      let from = was.from_on in
      let shown = shown_reading h begin end was.when s f lawful x (omega (arith, early, from)) same was.cells in
      let reads = shown.1.reads in
      let dd = reads.dot_reads in
      let told = are.rows f given.1 in
      let one : told.key ≡ d.key = one_key W told.key d.key told.of.is_key d.is_key (ap (λ (r : Row). r.bytes) (sym told.of.row_is ∙ same) ∙ d.row_is) in
      let two : dd.key ≡ d.key = one_key W dd.key d.key dd.is_key d.is_key (sym dd.row_is ∙ ap (λ (r : Row). r.bytes) same ∙ d.row_is) in
      let all = told.told (subst (λ (k : RowKey). picks k.pairs.items ≡ true) (sym one) picked) in
      let among = cell_dots f.cells all.dots shown.1.cell reads.dots reads.dot all.are shown.1.among reads.reads reads.among in
      let when : time ≡ told.key.base * 1000 + reads.dot.item.offset = sym p.time_is ∙ m.time ∙ shown.2.time ∙ dd.time_is ∙ ap (λ (k : RowKey). k.base * 1000 + reads.dot.item.offset) (two ∙ sym one) in
      let back : AreBack g d.key.pairs.items = pair_ids g x.row x.reads.dot s stands d in
      record {
        key = told.key;
        rising = told.of.is_key.rising;
        back = subst (λ (k : RowKey). AreBack g k.pairs.items) (sym one) back;
        named = subst (λ (k : RowKey). Named (name_of g) k.pairs.items tags) (sym one) named;
        there = subst (Contains (times told.key.pairs.items)) (sym when) (all.told reads.dot among);
      }

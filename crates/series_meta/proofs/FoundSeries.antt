-- A lookup: what is said of it, by what its steps say.
use Rattle.std.proofs.Common.{◌≡◌, ℕ, ◌<◌, ◌≤◌, true, false, List, [], ◌∷◌, ◌++◌, length, map, refl, sym, ap, subst, ◌∙◌, arith}
use Rattle.std.specs.Prelude.{AllPairs, Contains, Option, None, Some, Ok, Err}
use Rattle.std.specs.Global.{Vec}
use Rattle.std.specs.List.{AllZip, flat_map, list_any}
use Rattle.std.specs.BTreeMap.{IsOrdered, get}
use Rattle.std.proofs.lemmas.List.{take-map}
use Rattle.std.proofs.lemmas.List.Sorted.{Contains-permutation, IsPermutation-sym}
use Rattle.std.proofs.lemmas.Map.Views.{btree_map_get_iff}
use Rattle.list_lemmas.proofs.ListMembers.{here, not_in, map_in, in_map}
use Rattle.tsd_base.specs.declared.times.TheConstants.{LAST_TIME}
use Rattle.tsd_base.specs.declared.kinds.Kind.TheVariants.{Metric, TagKey, TagValue}
use Rattle.tsd_base.specs.TagList.{Pair}
use Rattle.row_key.specs.declared.widths.Widths.{Widths}
use Rattle.row_key.specs.declared.keys.RowKey.{RowKey}
use Rattle.row_key.specs.Key.{IsId, IsKey, id_bytes, key_bytes, pair_bytes}
use Rattle.row_key.proofs.CallerLemmas.{one_key}
use Rattle.cell_model.specs.declared.row.Found.{Found}
use Rattle.cell_model.specs.declared.row.Row.{Row}
use Rattle.cell_model.specs.declared.events.Placed.{Placed}
use Rattle.cell_model.specs.Store.{Store}
use Rattle.cell_model.specs.History.{History, first, store_after}
use Rattle.cell_model.specs.IdRows.{id_of, name_of}
use Rattle.cell_model.specs.Lawful.{IsLawful}
use Rattle.cell_model.specs.Layout.{base_time}
use Rattle.cell_model.specs.Readings.{Named, point_row}
use Rattle.cell_model.specs.Seen.{Seen, Fits, InEach, IsPossible}
use Rattle.cell_model.specs.Deeds.{Made, before_first}
use Rattle.cell_laws.proofs.CallerLemmas.{deeds_each, first_fits, first_lawful, itself, made_stands, nothing_made, tags_once}
use Rattle.row_scan.specs.Scans.{HasCell, IsStart}
use Rattle.row_scan.specs.Laws.{ScanGives, ScanIsWhole}
use Rattle.span_merge.specs.Spans.{pairs_cmp}
use Rattle.query_text.specs.FilterTexts.{is_of_text}
use Rattle.metric_scan.specs.declared.fault.AskFault.{AskFault}
use Rattle.metric_scan.specs.declared.fault.AskFault.TheVariants as ask
use Rattle.metric_scan.specs.declared.metric_rows.MetricRows.{MetricRows}
use Rattle.query_run.specs.AskedQueries.{names_in}
use Rattle.metric_scan.specs.Parts.{AreQuerySteps}
use Rattle.metric_scan.specs.ResolvedIds.{AreResolved, IsUnresolved, UnresolvedBy}
use Rattle.metric_scan.specs.RowNames.{IdOf, Names, ids_of}
use Rattle.metric_scan.specs.RowTags.{ArePairs, OneToOne}
use Rattle.metric_scan.specs.Walks.{Counted, AreRowsOf, picked_by, picks_of, row_range}
use Rattle.query_run.proofs.WalkLemmas.{Begun, first_unknown, made_all, steps_all, metric_known, metric_named, widths_in, widths_here, counted_here, all_resolved, stood, plain_row, reads_steps, few_rows, few_looks, named_by, named_in, one_to_one, PicksBy, zip_left, zip_right}
use Rattle.series_meta.specs.SeriesTimes.{AreTimes, IsBreak, IsCount, RowsCounted, CountSays}
use Rattle.series_meta.specs.SeriesLines.{AreFirst, CanTell, IsLine, IsSeries}
use Rattle.series_meta.specs.Lookups.{SeriesAsked, HadPoint, HadSeries, TellsSeries, TellsFirst, AreFewFor, FindSays}
use Rattle.series_meta.specs.declared.meta_answers.Line.{Line}
use Rattle.series_meta.specs.declared.series_counts.SeriesCounts.{SeriesCounts}
use Rattle.series_meta.proofs.TimeLists.{pairs_exact}
use Rattle.series_meta.proofs.LineLists.{Entry, HaveOthers, lines_differ, sorted_rise, tags_told, in_front}
use Rattle.series_meta.proofs.FoundTimes.{AreBack, IsFoundAt, first_late, ids_once, time_had, time_found}
use Rattle.series_meta.specs.PairsOrder.{pairs_cmp_total}

-- ---- nothing was asked

pub lookup_not_asked : (q : SeriesAsked) (now : Seen) → FindSays q now (Err ask.OutOfMemory) now
lookup_not_asked q now =
    (tt, record { own = []; made = nothing_made now; steps = λ p c. absurd (not_in p c); few = λ h lawful fits. few_looks (names_in q.sub) q.sub.metric 0 (base_time LAST_TIME) [] (first now.length h) (omega arith); is = λ h lawful fits. tt })

-- ---- a name is unknown

pub lookup_names_failed : (q : SeriesAsked) (old new : Seen) (fault : AskFault) → IsUnresolved old (names_in q.sub) fault new → FindSays q old (Err fault) new
lookup_names_failed q old new fault u = at fault u.cause
  where
    few : InEach new (λ h. AreFewFor q.sub u.list (first new.length h))
    few h lawful fits = few_looks (names_in q.sub) q.sub.metric 0 (base_time LAST_TIME) u.list (first new.length h) u.looks.few

    at : (e : AskFault) → UnresolvedBy (names_in q.sub) u.list new e → FindSays q old (Err e) new
    at (ask.Unknown kind name) x = (tt, record { own = u.list; made = u.made; steps = reads_steps u.list u.looks.reads; few = few; is = λ h lawful fits. first_unknown (names_in q.sub) u.list new h lawful fits kind name x })
    at ask.OutOfMemory x = (tt, record { own = u.list; made = u.made; steps = reads_steps u.list u.looks.reads; few = few; is = λ h lawful fits. tt })
    at ask.Stopped x = (tt, record { own = u.list; made = u.made; steps = reads_steps u.list u.looks.reads; few = few; is = λ h lawful fits. tt })
    at (ask.TooManyBuckets count) x = absurd x
    at (ask.BadFilter index) x = absurd x
    at (ask.Duplicate time a b) x = absurd x
    at (ask.Overflow time) x = absurd x

-- ---- the rows were gone through

same_Some : {X : Type 0} (x y : X) → ◌≡◌ {A = Option X} (Some x) (Some y) → x ≡ y
same_Some x y e = cc

first_of : (xs : List ℕ) → 1 ≤ length xs → (x : ℕ) × Contains xs x
first_of [] some = absurd (omega (arith, some))
first_of (x ∷ xs) some = (x, here x xs)

some_in : (xs : List ℕ) (x : ℕ) → Contains xs x → 1 ≤ length xs
some_in [] x c = absurd (not_in x c)
some_in (y ∷ xs) x c = omega arith

-- a series with a time has a count
counted_is : (times : List ℕ) (o : Option ℕ) → 1 ≤ length times → IsCount times o → (n : ℕ) × (o ≡ Some n)
counted_is times (Some n) some is = (n, refl)
counted_is times None some is = absurd (omega (arith, some, is))

module _ (q : SeriesAsked) (old mid new : Seen) (rows : MetricRows) (resolved : AreResolved old (names_in q.sub) mid) (a : AreRowsOf q.sub 0 LAST_TIME mid rows) where
  module _ (own : List Placed) (founds : List Found) (ids : List IdOf) (made : Made mid own new) (counted : Counted 1 mid.base.widths a.id 0 LAST_TIME own founds ids) where
    abbrev b : Begun q.sub a.id rows.filters.items old mid new own
    b = record { resolved = resolved; metric = a.metric; by = a.by; made = made }

    few : InEach new (λ h. AreFewFor q.sub (resolved.list ++ own) (first new.length h))
    few h lawful fits =
        let here_ = counted_here q.sub a.id rows.filters.items old mid new own b new (itself new) h lawful fits 1 0 LAST_TIME founds ids counted in
        few_rows (names_in q.sub) 0 LAST_TIME q.sub.metric a.id resolved.list own founds ids h new.length resolved.looks.few here_ lawful (metric_known q.sub a.id rows.filters.items old mid new own b new (itself new) h lawful fits)
        (stood q.sub a.id rows.filters.items old mid new own b new (itself new) h lawful fits 1 (store_after (first new.length h)).widths 0 LAST_TIME founds ids here_)

    all_made : Made old (resolved.list ++ own) new
    all_made = made_all q.sub a.id rows.filters.items old mid new own b

    all_steps : AreQuerySteps (resolved.list ++ own)
    all_steps = steps_all q.sub a.id rows.filters.items old mid new own b counted.steps

    broken : (e : AskFault) → IsBreak e → FindSays q old (Err e) new
    broken ask.OutOfMemory x = (tt, record { own = resolved.list ++ own; made = all_made; steps = all_steps; few = few; is = λ h lawful fits. tt })
    broken ask.Stopped x = (tt, record { own = resolved.list ++ own; made = all_made; steps = all_steps; few = few; is = λ h lawful fits. tt })
    broken (ask.Unknown kind name) x = absurd x
    broken (ask.TooManyBuckets count) x = absurd x
    broken (ask.BadFilter index) x = absurd x
    broken (ask.Duplicate time c d) x = absurd x
    broken (ask.Overflow time) x = absurd x

  -- the counting was broken off
  pub lookup_cut : (names : Names) (fault : AskFault) → CountSays (row_range a.id 0 LAST_TIME mid) (picks_of rows) (Err fault) names new → FindSays q old (Err fault) new
  lookup_cut names fault c = let t = c.1 in broken t.0 t.1 t.2.ids t.2.made t.2.counted fault c.0

  module _ (names : Names) (series : SeriesCounts) (c : RowsCounted (row_range a.id 0 LAST_TIME mid) (picks_of rows) names series new) where
    abbrev made : Made mid c.own new
    made = c.all.made

    -- there was no memory for the lines
    pub lookup_lost : FindSays q old (Err ask.OutOfMemory) new
    lookup_lost = broken c.own c.founds c.all.ids made c.all.counted ask.OutOfMemory tt

    -- the names can stand for the ids
    pub names_one : IsPossible new → OneToOne names
    names_one p = one_to_one names new p.history c.all.shown p.lawful p.fits

    seen_base : mid.base.widths ≡ new.base.widths
    seen_base = ap (λ (x : Store). x.widths) (sym made.since.extends.base)

    -- the lines can be written
    pub can_tell : (w : Widths) → w ≡ new.base.widths → (pairs : List (ℕ × ℕ)) (count : ℕ) → get pairs_cmp series.counts pairs ≡ Some count → CanTell names w series.metric pairs
    can_tell w w_is pairs count is =
        let n = subst (IsCount (c.times pairs)) is (c.counts.each pairs) in
        let len = n.0 in
        let least = n.1 in
        let some : 1 ≤ length (c.times pairs) = omega (arith, len, least) in
        let t = first_of (c.times pairs) some in
        let x = c.are.from pairs t.0 t.1 in
        let row = c.all.named x.found x.among in
        let one : row.key ≡ x.key = one_key mid.base.widths row.key x.key row.of.is_key x.of.is_key (ap (λ (r : Row). r.bytes) (sym row.of.row_is ∙ x.of.row_is)) in
        let key : IsKey w x.key = subst (λ (v : Widths). IsKey v x.key) (seen_base ∙ sym w_is) x.of.is_key in
        let have : ArePairs names x.key.pairs.items = record {
          some = key.some;
          most = key.most;
          rising = key.rising;
          named = λ j k. row.named (subst (λ (y : RowKey). picks_of rows y.pairs.items ≡ true) (sym one) x.picked) j (subst (λ (y : RowKey). Contains (ids_of y.pairs.items) j) (sym one) k);
        } in
        let ids : IsSeries w series.metric x.key.pairs.items = record {
          metric_id = subst (IsId w.metric) (x.of.metric_is ∙ sym (c.counts.metric pairs some)) key.metric;
          some = key.some;
          most = key.most;
          ids = key.ids;
          rising = key.rising;
        } in
        subst (CanTell names w series.metric) x.pairs_are (have, ids)

    -- the lines were written
    module _ (covers : ScanIsWhole) (plain : list_any (λ f. is_of_text f.test) q.sub.filters ≡ false) (possible : IsPossible new) (w : Widths) (w_is : w ≡ new.base.widths) (ordered : IsOrdered pairs_cmp series.counts) (lines : List Line) (zip : AllZip (IsLine names w series.metric) series.counts.entries lines) (told : List Line) (front : AreFirst q.limit lines told) where
      entry_get : (e : Entry) → Contains series.counts.entries e → get pairs_cmp series.counts e.0 ≡ Some e.1
      entry_get e i = (btree_map_get_iff pairs_cmp_total pairs_exact series.counts ordered e.0 e.1).1 i

      entry_count : (e : Entry) → Contains series.counts.entries e → (e.1 ≡ length (c.times e.0)) × (1 ≤ e.1)
      entry_count e i = subst (IsCount (c.times e.0)) (entry_get e i) (c.counts.each e.0)

      entry_some : (e : Entry) → Contains series.counts.entries e → 1 ≤ length (c.times e.0)
      entry_some e i = let n = entry_count e i in let is = n.0 in let some = n.1 in omega (arith, is, some)

      entry_tells : (e : Entry) → Contains series.counts.entries e → CanTell names w series.metric e.0
      entry_tells e i = can_tell w w_is e.0 e.1 (entry_get e i)

      differ : AllPairs HaveOthers lines
      differ = lines_differ names w series.metric series.counts.entries lines (names_one possible) entry_tells ordered zip

      from_entry : (line : Line) → Contains front.sorted line → (e : Entry) × Contains series.counts.entries e × IsLine names w series.metric e line
      from_entry line i = zip_right (IsLine names w series.metric) series.counts.entries lines line zip (Contains-permutation front.sorted lines line (IsPermutation-sym lines front.sorted front.permuted) i)

      module _ (h : History) (lawful : IsLawful h) (fits : Fits new h) where
        abbrev g : History
        g = first new.length h

        abbrev W : Widths
        W = (store_after g).widths

        abbrev x : Begun q.sub a.id rows.filters.items old mid new c.own
        x = record { resolved = resolved; metric = a.metric; by = a.by; made = made }

        here_is : mid.base.widths ≡ W
        here_is = widths_here q.sub a.id rows.filters.items old mid new c.own x new (itself new) h lawful fits

        in_is : mid.base.widths ≡ (store_after h).widths
        in_is = widths_in q.sub a.id rows.filters.items old mid new c.own x new (itself new) h lawful fits

        above : (p : Placed) → Contains c.own p → mid.length < p.place
        above p i = (deeds_each h mid.caller mid.length new.length p (subst (λ (l : List Placed). Contains l p) (sym (made.made h fits)) i)).above

        within : old.length ≤ new.length
        within = let l = resolved.made.since.extends.length in let m = made.since.extends.length in omega (arith, l, m)

        early : old.length ≤ before_first c.own new.length
        early = first_late c.own old.length new.length (λ p i. let up = above p i in let le = resolved.made.since.extends.length in omega (arith, up, le)) within

        gives : ScanGives (picked_by (picks_of rows)) h (before_first c.own new.length) new.length a.id 0 (base_time LAST_TIME) c.founds
        gives = covers (picked_by (picks_of rows)) h new.length a.id 0 (base_time LAST_TIME) c.all.begin c.own c.founds lawful (made_stands mid new c.own h made fits)
            (subst (λ (v : Widths). IsStart v a.id 0 (base_time LAST_TIME) c.all.begin) in_is c.all.starts) c.all.whole

        are : AreTimes (picks_of rows) W a.id 0 LAST_TIME c.founds c.times
        are = subst (λ (v : Widths). AreTimes (picks_of rows) v a.id 0 LAST_TIME c.founds c.times) here_is c.are

        named_id : name_of g Metric a.id ≡ Some q.sub.metric
        named_id = metric_named q.sub a.id rows.filters.items old mid new c.own x new (itself new) h lawful fits

        known_id : id_of g Metric q.sub.metric ≡ Some a.id
        known_id = metric_known q.sub a.id rows.filters.items old mid new c.own x new (itself new) h lawful fits

        by_row : (key : RowKey) → IsKey W key → HasCell (store_after g) (point_row (key_bytes W key)) → PicksBy (picks_of rows) q.sub.filters (name_of g) key
        by_row = plain_row q.sub a.id rows.filters.items old mid new c.own x new (itself new) h lawful fits plain

        had : (pairs : List (ℕ × ℕ)) (tags : List Pair) (time : ℕ) → Named (name_of g) pairs tags → Contains (c.times pairs) time → HadPoint q.sub g tags time
        had = time_had (picks_of rows) q.sub a.id old.length (before_first c.own new.length) new.length c.founds c.times h lawful early within gives (sym here_is ∙ in_is) are named_id known_id by_row

        abbrev FoundAt : List Pair → ℕ → Type 0
        FoundAt = IsFoundAt (picks_of rows) q.sub a.id old.length (before_first c.own new.length) new.length c.founds c.times h lawful early within gives (sym here_is ∙ in_is) are named_id known_id by_row

        found : (tags : List Pair) (time : ℕ) → HadPoint q.sub (first old.length h) tags time → FoundAt tags time
        found = time_found (picks_of rows) q.sub a.id old.length (before_first c.own new.length) new.length c.founds c.times h lawful early within gives (sym here_is ∙ in_is) are named_id known_id by_row

        named : (e : Entry) (line : Line) → IsLine names w series.metric e line → Named (name_of g) e.0 line.tags
        named e line l = named_in names new new g e.0 line.tags c.all.shown (itself new) (first_lawful h new.length lawful) (first_fits new h fits) l.tags

        back : (e : Entry) (line : Line) → IsLine names w series.metric e line → AreBack g e.0
        back e line l p i t n =
            let u = l.tags.each p i in
            let k = named_by names new new g c.all.shown (itself new) (first_lawful h new.length lawful) (first_fits new h fits) TagKey p.0 u.0.0 u.2.0 in
            let v = named_by names new new g c.all.shown (itself new) (first_lawful h new.length lawful) (first_fits new h fits) TagValue p.1 u.0.1 u.2.1 in
            let key : u.0.0 ≡ t.0 = same_Some u.0.0 t.0 (sym k.0 ∙ n.0) in
            let value : u.0.1 ≡ t.1 = same_Some u.0.1 t.1 (sym v.0 ∙ n.1) in
            (ap (id_of g TagKey) (sym key) ∙ k.1, ap (id_of g TagValue) (sym value) ∙ v.1)

        -- what a line tells
        tells : (line : Line) → Contains front.sorted line → TellsSeries q.sub old.length new.length h line
        tells line i =
            let e = from_entry line i in
            let entry = e.0 in
            let l = e.2 in
            let n = entry_count entry e.1 in
            let some = entry_some entry e.1 in
            let t = first_of (c.times entry.0) some in
            let row = are.from entry.0 t.0 t.1 in
            let can = entry_tells entry e.1 in
            let name = named entry line l in
            let widths_same : w ≡ W = w_is ∙ sym seen_base ∙ here_is in
            let metric_same : series.metric ≡ row.key.metric = c.counts.metric entry.0 some ∙ sym row.of.metric_is in
            let pairs_same : entry.0 ≡ row.key.pairs.items = sym row.pairs_are in
            record {
              some = let is = l.count_is in let s = n.1 in omega (arith, is, s);
              times = record {
                times = c.times entry.0;
                rising = are.rising entry.0;
                count_is = l.count_is ∙ n.0;
                had = λ time j. had entry.0 line.tags time name j;
                all = λ time p.
                    let f = found line.tags time p in
                    subst (λ (k : List (ℕ × ℕ)). Contains (c.times k) time) (ids_once g f.key.pairs.items entry.0 line.tags f.back (back entry line l) f.rising can.1.rising f.named name) f.there;
              };
              series = record {
                key = row.key;
                is_key = row.of.is_key;
                metric_is = known_id ∙ ap (λ m. Some m) (sym row.of.metric_is);
                tags_are = subst (λ (k : List (ℕ × ℕ)). Named (name_of g) k line.tags) pairs_same name;
                series_is = l.series ∙ (λ i. id_bytes (widths_same i).metric (metric_same i) ++ flat_map (pair_bytes (widths_same i)) (pairs_same i));
              };
            }

        tags_had : (tags : List Pair) → Contains (tags_told front.sorted) tags → HadSeries q.sub g tags
        tags_had tags i =
            let m = map_in (λ (line : Line). line.tags) front.sorted tags i in
            let e = from_entry m.0 m.1 in
            let t = first_of (c.times e.0.0) (entry_some e.0 e.1) in
            (t.0, subst (λ (u : List Pair). HadPoint q.sub g u t.0) m.2 (had e.0.0 m.0.tags t.0 (named e.0 m.0 e.2) t.1))

        tags_all : (tags : List Pair) → HadSeries q.sub (first old.length h) tags → Contains (tags_told front.sorted) tags
        tags_all tags p =
            let f = found tags p.0 p.1 in
            let n = counted_is (c.times f.key.pairs.items) (get pairs_cmp series.counts f.key.pairs.items) (some_in (c.times f.key.pairs.items) p.0 f.there) (c.counts.each f.key.pairs.items) in
            let entry : Entry = (f.key.pairs.items, n.0) in
            let i = (btree_map_get_iff pairs_cmp_total pairs_exact series.counts ordered f.key.pairs.items n.0).0 n.1 in
            let line = zip_left (IsLine names w series.metric) series.counts.entries lines entry zip i in
            let same : line.0.tags ≡ tags = tags_once (name_of g) f.key.pairs.items f.key.pairs.items line.0.tags tags refl (named entry line.0 line.2) f.named in
            subst (Contains (tags_told front.sorted)) same (in_map (λ (l : Line). l.tags) front.sorted line.0 (Contains-permutation lines front.sorted line.0 front.permuted line.1))

        tells_first : TellsFirst q old.length told new.length h
        tells_first = record {
          resolved = all_resolved q.sub a.id rows.filters.items old mid new c.own x new (itself new) h lawful fits;
          series = tags_told front.sorted;
          rising = sorted_rise lines front.sorted differ front.permuted front.in_order;
          had = tags_had;
          all = tags_all;
          first_are = ap (λ (l : List Line). map (λ line. line.tags) l) front.lines_are ∙ sym (take-map (λ (line : Line). line.tags) q.limit front.sorted);
          lines_tell = λ line i. tells line (in_front q.limit front.sorted line (subst (λ (l : List Line). Contains l line) front.lines_are i));
        }

      pub lookup_told : (answer : Vec Line) → answer.items ≡ told → FindSays q old (Ok answer) new
      lookup_told answer is = record {
        own = resolved.list ++ c.own;
        made = all_made c.own c.founds c.all.ids made c.all.counted;
        steps = all_steps c.own c.founds c.all.ids made c.all.counted;
        few = few c.own c.founds c.all.ids made c.all.counted;
        is = λ h lawful fits. subst (λ (l : List Line). TellsFirst q old.length l new.length h) (sym is) (tells_first h lawful fits);
      }

-- What was collected stands: the readings under their names are those that the entries show.
use Rattle.std.proofs.Common.{◌≡◌, inl, inr, ℕ, ◌+◌, ◌*◌, Bool, List, [], ◌++◌, sym, ap, subst, ◌∙◌}
use Rattle.std.specs.Prelude.{ℤ, Contains, Option, Some}
use Rattle.std.proofs.lemmas.List.Elements.{Contains-append_right, Contains-append_cases}
use Rattle.tsd_base.specs.declared.kinds.Kind.{Kind}
use Rattle.tsd_base.specs.declared.kinds.Kind.TheVariants.{Metric, TagKey, TagValue}
use Rattle.tsd_base.specs.TagList.{Pair}
use Rattle.row_key.specs.declared.keys.RowKey.{RowKey}
use Rattle.row_key.specs.Key.{IsKey, key_bytes}
use Rattle.cell_model.specs.declared.row.Found.{Found}
use Rattle.cell_model.specs.declared.events.Placed.{Placed}
use Rattle.cell_model.specs.Layout.{base_time}
use Rattle.cell_model.specs.History.{History, first, store_after}
use Rattle.cell_model.specs.IdRows.{id_of, name_of}
use Rattle.cell_model.specs.Lawful.{IsLawful}
use Rattle.cell_model.specs.Readings.{Reading, Named, point_row}
use Rattle.cell_model.specs.Seen.{Seen, Fits}
use Rattle.cell_model.specs.Deeds.{Extends, InOrder}
use Rattle.row_scan.specs.Scans.{Left, IsStart, HasCell, Wanting, Scanned}
use Rattle.row_scan.specs.RowReadings.{ShowsRow, ShowsReading, Chosen, AsksWithin, AsksOfWanted, NoConflict, OwnCovers}
use Rattle.row_scan.specs.Laws.{ScanCovers}
use Rattle.span_merge.specs.Spans.{Span, dots_of}
use Rattle.series_groups.specs.NamedSeries.{Series}
use Rattle.query_text.specs.declared.queries.Filter.{Filter}
use Rattle.metric_scan.specs.Parts.{NameOf, AllResolved, PartStands}
use Rattle.query_run.specs.AskedQueries.{is_wanted}
use Rattle.metric_scan.specs.RowNames.{IdOf, Names, AllNamed, AreReads}
use Rattle.query_run.specs.RowDots.{IsIn, dot_at}
use Rattle.metric_scan.specs.Walks.{Picks, Counted, KeyOf, picked_by}
use Rattle.query_run.specs.Collection.{AreIn, Gathered}
use Rattle.metric_scan.specs.RowTags.{OneToOne}
use Rattle.query_run.specs.SeriesTags.{Titles}
use Rattle.query_run.proofs.Lower as lower
use Rattle.query_run.proofs.Contents.{dot_stands, row_conflict_free}
use Rattle.metric_scan.proofs.WalkSteps.{reads_other, reads_show_none}
use Rattle.query_run.proofs.RowReadings.{Asks, PicksBy, asks, is_asked, by_series, hours_within, ReadsDot, reads_dot, read_tags, dot_reads, conflict_free_row, same_tags}
use Rattle.query_run.proofs.Shown.{reading_at, readings_in, reading_of, of_reading}

-- ---- the look at the metric's cell, where there was one

-- what is shown behind reads is all that is shown
pub shown_behind : (looks own : List Placed) (f : Found) → AreReads looks → ShowsRow (looks ++ own) f → ShowsRow own f
shown_behind looks own f reads s = elim (Contains-append_cases looks own s.placed s.among) [
  | inl look ↦ absurd (reads_show_none looks reads s.placed f look s.reply)
  | inr later ↦ record { placed = s.placed; among = later; reply = s.reply }
]

pub shown_after : (looks own : List Placed) (f : Found) → ShowsRow own f → ShowsRow (looks ++ own) f
shown_after looks own f s = record { placed = s.placed; among = Contains-append_right looks own s.placed s.among; reply = s.reply }

-- a whole scan is one behind reads
scan_after : (wants : Wanting) (begin : Left) (looks own : List Placed) (founds : List Found) → AreReads looks → Scanned wants begin own founds → Scanned wants begin (looks ++ own) founds
scan_after wants begin looks own founds reads whole = lower.others_pass wants begin begin [] looks [] (lower.scan_begins wants begin) (reads_other looks reads) own founds whole

-- ---- the names in a history

pub named_by : (names : Names) (s later : Seen) (g : History) → AllNamed s names → Extends s later → IsLawful g → Fits later g → (kind : Kind) (id : ℕ) (name : List ℕ) → names kind id ≡ Some name → (name_of g kind id ≡ Some name) × (id_of g kind name ≡ Some id)
named_by names s later g all ext lawful fits kind id name is = (all kind id name is).stands later ext g lawful fits

pub named_in : (names : Names) (s later : Seen) (g : History) (pairs : List (ℕ × ℕ)) (tags : List Pair) → AllNamed s names → Extends s later → IsLawful g → Fits later g → Named names pairs tags → Named (name_of g) pairs tags
named_in names s later g pairs tags all ext lawful fits n = record {
  rising = n.rising;
  each = λ p c. let w = n.each p c in (w.0, w.1, ((named_by names s later g all ext lawful fits TagKey p.0 w.0.0 w.2.0).0, (named_by names s later g all ext lawful fits TagValue p.1 w.0.1 w.2.1).0));
  back = λ t c. let w = n.back t c in (w.0, w.1, ((named_by names s later g all ext lawful fits TagKey w.0.0 t.0 w.2.0).0, (named_by names s later g all ext lawful fits TagValue w.0.1 t.1 w.2.1).0));
}

-- no two ids of a kind have one name
same_Some : {X : Type 0} (x y : X) → ◌≡◌ {A = Option X} (Some x) (Some y) → x ≡ y
same_Some x y e = cc

pub one_to_one : (names : Names) (s : Seen) (g : History) → AllNamed s names → IsLawful g → Fits s g → OneToOne names
one_to_one names s g all lawful fits kind i j name x y =
    same_Some i j (sym (named_by names s s g all (lower.itself s) lawful fits kind i name x).1 ∙ (named_by names s s g all (lower.itself s) lawful fits kind j name y).1)

-- a reading with these parts is among others where the one of these parts is
reading_among : (metric : List ℕ) (tags : List Pair) (d : ℕ × ℤ) (r : Reading) (list : List Reading) → r.metric ≡ metric → tags ≡ r.tags → r.time ≡ d.0 → r.value ≡ d.1 → Contains list (reading_at metric tags d) → Contains list r
reading_among metric tags d r list m t i v c =
    let same : reading_at metric tags d ≡ r = λ k. record { metric = (sym m) k; tags = t k; time = (sym i) k; value = (sym v) k } in subst (Contains list) {x = reading_at metric tags d} same c

-- ---- one history

module _ (picks : Picks) (start end : ℕ) (metric : List ℕ) (filters : List Filter) (id : ℕ) (looks own : List Placed) (founds : List Found) (ids : List IdOf) (spans : List Span) (names : Names) (series : List Series) (g : History)
    (reads : AreReads looks) (counted : Counted 1 (store_after g).widths id start end own founds ids) (content : Gathered picks (store_after g).widths id start end founds spans) (titles : Titles names spans series)
    (metric_named : name_of g Metric id ≡ Some metric) (metric_known : id_of g Metric metric ≡ Some id) (tags_named : (pairs : List (ℕ × ℕ)) (tags : List Pair) → Named names pairs tags → Named (name_of g) pairs tags)
    (by : (f : Found) (key : RowKey) → Contains founds f → KeyOf (store_after g).widths id start end f key → PicksBy picks filters (name_of g) key) (by_row : (key : RowKey) → IsKey (store_after g).widths key → HasCell (store_after g) (point_row (key_bytes (store_after g).widths key)) → PicksBy picks filters (name_of g) key) where
  abbrev wants : Reading → Bool
  wants = is_wanted start end metric filters

  shows_found : (f : Found) → Contains founds f → ShowsRow (looks ++ own) f
  shows_found f c = let w = counted.by f c in record { placed = w.0; among = Contains-append_right looks own w.0 w.2; reply = w.3.1 }

  found_of : (f : Found) → ShowsRow (looks ++ own) f → Contains founds f
  found_of f s = let w = shown_behind looks own f reads s in counted.shows w.placed f w.among w.reply

  conflict_free : NoConflict (store_after g).widths (name_of g) wants (looks ++ own)
  conflict_free f s =
      let row = row_conflict_free picks (store_after g).widths id start end spans f (content.rows f (found_of f s)) in
      conflict_free_row picks (name_of g) (store_after g).widths id start end metric filters f row (by f row.key (found_of f s) row.of)

  -- each reading under its names is shown
  shown_to : (r : Reading) → Contains (readings_in metric series) r → Chosen wants (ShowsReading (store_after g).widths (name_of g) (looks ++ own)) r
  shown_to r c =
      let w = reading_of metric series r c in
      let t = titles.each w.series_of w.among in
      let d = content.from t.0 w.dot t.1 (subst (λ (l : List (ℕ × ℤ)). Contains l w.dot) t.2.dots_are w.there) in
      let time : r.time ≡ d.key.base * 1000 + d.dot.item.offset = ap (λ (x : Reading). x.time) w.is ∙ ap (λ (x : ℕ × ℤ). x.0) d.dot_is in
      let tags : Named (name_of g) d.key.pairs.items r.tags =
      subst (λ (x : Reading). Named (name_of g) d.key.pairs.items x.tags) (sym w.is) (subst (λ (l : List (ℕ × ℕ)). Named (name_of g) l w.series_of.tags) (sym d.pairs_are) (tags_named t.0.0 w.series_of.tags t.2.tags)) in
      let dot : ReadsDot (name_of g) d.key d.all r = record {
        dot = d.dot;
        there = d.there;
        metric_is = ap (name_of g Metric) d.of.metric_is ∙ metric_named ∙ ap (λ (x : Reading). Some x.metric) (sym w.is);
        tags_are = tags;
        time_is = time;
        value_is = ap (λ (x : Reading). x.value) w.is ∙ ap (λ (x : ℕ × ℤ). x.1) d.dot_is;
      } in (
        (d.found, shows_found d.found d.among, dot_reads (name_of g) (store_after g).widths id start end d.found d.key d.all r d.of d.are dot),
        is_asked start end metric filters r (ap (λ (x : Reading). x.metric) w.is) (subst (λ (x : Reading). IsIn start end x.time) (sym w.is) d.within) (sym (by d.found d.key d.among d.of r.tags tags) ∙ d.picked),
      )

  -- and each that is shown is one of these
  shown_at : (r : Reading) (f : Found) (key : RowKey) (row : AreIn start end key.base f.cells key.pairs.items spans) (d : ReadsDot (name_of g) key row.conflict_free.all r) → Asks start end metric filters r → Contains (readings_in metric series) r
  shown_at r f key row d a =
      let there = row.there d.dot d.there (subst (IsIn start end) d.time_is a.within) in
      let t = titles.all (key.pairs.items, dots_of spans key.pairs.items) (dot_stands spans key.pairs.items (dot_at key.base d.dot) there) in
      let tags : t.0.tags ≡ r.tags = same_tags (name_of g) key.pairs.items t.0.tags r.tags (tags_named key.pairs.items t.0.tags t.2.tags) d.tags_are in
      let among = of_reading metric series t.0 (dot_at key.base d.dot) t.1 (subst (λ (l : List (ℕ × ℤ)). Contains l (dot_at key.base d.dot)) (sym t.2.dots_are) there) in
      reading_among metric t.0.tags (dot_at key.base d.dot) r (readings_in metric series) a.metric_is tags d.time_is d.value_is among

  shown_from : (r : Reading) → Chosen wants (ShowsReading (store_after g).widths (name_of g) (looks ++ own)) r → Contains (readings_in metric series) r
  shown_from r ((f, s, read), wanted) =
      let found = found_of f s in
      let row = content.rows f found in
      let a = asks start end metric filters r wanted in
      let c = row.is_in (by f row.key found row.of r.tags (read_tags (name_of g) (store_after g).widths id start end f row.key r row.of read) ∙ a.passed) in
      shown_at r f row.key c (reads_dot (name_of g) (store_after g).widths id start end f row.key c.conflict_free.all r row.of c.conflict_free.are read) a

  asks_within : AsksWithin wants g id (base_time start) (base_time end)
  asks_within r wanted =
      let a = asks start end metric filters r wanted in
      let h = hours_within start end r.time a.within in
      (ap (id_of g Metric) a.metric_is ∙ metric_known, h.0, h.1)

  asks_picked : AsksOfWanted (picked_by picks) wants g
  asks_picked key r is has of wanted = by_row key is has r.tags of.tags_are ∙ (asks start end metric filters r wanted).passed

  pub stands_in : (h : History) (length_now : ℕ) → first length_now h ≡ g → ScanCovers → IsLawful h → InOrder h length_now (looks ++ own) → (begin : Left) → IsStart (store_after h).widths id (base_time start) (base_time end) begin → Scanned (picked_by picks) begin own founds
      → (asked : List NameOf) → AllResolved (first length_now h) asked → PartStands (is_wanted start end metric filters) asked (record { own = looks ++ own; shown = readings_in metric series }) length_now h
  stands_in h n same covering lawful order begin starts whole asked resolved =
      let conflict_free_h = subst (λ (x : History). NoConflict (store_after x).widths (name_of x) wants (looks ++ own)) (sym same) conflict_free in
      let within_h = subst (λ (x : History). AsksWithin wants x id (base_time start) (base_time end)) (sym same) asks_within in
      let picked_h = subst (λ (x : History). AsksOfWanted (picked_by picks) wants x) (sym same) asks_picked in
      let to = λ (r : Reading) (c : Contains (readings_in metric series) r). subst (λ (x : History). Chosen wants (ShowsReading (store_after x).widths (name_of x) (looks ++ own)) r) (sym same) (shown_to r c) in
      let from = λ (r : Reading) (c : Chosen wants (ShowsReading (store_after (first n h)).widths (name_of (first n h)) (looks ++ own)) r). shown_from r (subst (λ (x : History). Chosen wants (ShowsReading (store_after x).widths (name_of x) (looks ++ own)) r) same c) in
      let covers : OwnCovers wants (looks ++ own) n h =
      covering (picked_by picks) h n id (base_time start) (base_time end) begin (looks ++ own) founds wants lawful order starts (scan_after (picked_by picks) begin looks own founds reads whole) (by_series start end metric filters) within_h picked_h conflict_free_h in
      record {
        resolved = resolved;
        shown = λ r. (to r, from r);
        conflict_free = conflict_free_h;
        covers = record {
          one = λ a b x y m. covers.one a b (to a x) (to b y) m;
          within = λ r c. covers.within r (to r c);
          each = λ r c. let w = covers.each r c in (w.0, from w.0 w.1, w.2);
        };
      }

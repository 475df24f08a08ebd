-- Rows of points that are compacted one after the other by a caller that is alone.
use Rattle.std.proofs.Common.{◌≡◌, ℕ, ◌+◌, ◌^◌, ◌<◌, ◌≤◌, true, List, [], ◌∷◌, length, refl, sym, ap, subst, ◌∙◌, arith}
use Rattle.std.specs.Prelude.{Option, None, Some, Ok}
use Rattle.std.specs.Option.{option_map_or}
use Rattle.std.specs.Int.{w64, from_be_bytes, to_be_bytes}
use Rattle.std.proofs.lemmas.Nat.{from_be_bytes-to_be_bytes_8}
use Rattle.tsd_base.specs.declared.kinds.Kind.{Kind}
use Rattle.tsd_base.specs.declared.kinds.Kind.TheVariants.{Metric}
use Rattle.row_key.specs.declared.tables.Table.TheVariants.{Points}
use Rattle.row_key.specs.IdWidths.{most_ids}
use Rattle.qual_codec.specs.declared.cells.Cell.{Cell}
use Rattle.cell_model.specs.declared.row.Row.{Row}
use Rattle.cell_model.specs.declared.row.Found.{Found}
use Rattle.cell_model.specs.declared.events.Placed.{Placed}
use Rattle.cell_model.specs.declared.events.Step.TheVariants.{Read}
use Rattle.cell_model.specs.declared.events.Reply.TheVariants.{Next, Shown}
use Rattle.cell_model.specs.Deeds.{MadeSo, Since, placed}
use Rattle.cell_model.specs.History.{History, first, len, store_after}
use Rattle.cell_model.specs.History.History.{Then}
use Rattle.cell_model.specs.KindWidths.{Widths, greatest}
use Rattle.cell_model.specs.Lawful.{IsLawful}
use Rattle.cell_model.specs.Machine.{after, counter_of, counter_row, kind_qual, reply_of}
use Rattle.cell_model.specs.Seen.{Fits, InEach, IsPossible, Seen, Stepped}
use Rattle.cell_model.specs.Store.{Store, cells_of, next_row_of, value_among, value_at}
use Rattle.cell_model.proofs.CallerLemmas.{greatest_fits, value_among-cells_of}
use Rattle.cell_laws.proofs.CallerLemmas.{base_widths, first_lawful, nothing_made, same_kind, since_joined, sound_after, step_made}
use Rattle.point_lines.proofs.CallerLemmas.{base_of_first, follow, read_keeps}
use Rattle.row_scan.specs.Scans.{IsStart, Left, TurnMade, behind}
use Rattle.row_scan.proofs.CallerLemmas.{found_key}
use Rattle.import_job.specs.Changes.{Changes, CompactsAll, CompactsMetric, CompactsRow, CountsMetrics}
use Rattle.import_job.proofs.AllMetrics.{CompactsTo, all_compacted, none_yet, one_more}
use Rattle.import_job.proofs.CompactedRow.{alone_follows}
use Rattle.import_job.proofs.Walks.{WalkedTo, walk_begins, walk_ends, walk_on}

-- ---- the counter of metrics
no_value : {v : List ℕ} → ◌≡◌ {A = Option (List ℕ)} None (Some v) → ⊥
no_value e = cc

-- what a counter's cell has
record CountedIn (s : Store) (value : List ℕ) : Type 0 where
  number : ℕ
  value_is : value ≡ to_be_bytes w64 number
  most : number ≤ greatest s.widths Metric

counted_in : (h : History) (value : List ℕ) → IsLawful h → value_at (store_after h) counter_row (kind_qual Metric) ≡ Some value → CountedIn (store_after h) value
counted_in h value lawful is =
    let c = (sound_after h lawful).counters (kind_qual Metric) value is in
    record { number = c.number; value_is = c.value_is; most = subst (λ (k : Kind). c.number ≤ greatest (store_after h).widths k) (sym (same_kind Metric c.kind c.is_kind)) c.most }

pub counter_most : (h : History) → IsLawful h → counter_of (store_after h) Metric ≤ greatest (store_after h).widths Metric
counter_most h lawful = at (value_at (store_after h) counter_row (kind_qual Metric)) refl
  where
    at : (o : Option (List ℕ)) → value_at (store_after h) counter_row (kind_qual Metric) ≡ o → counter_of (store_after h) Metric ≤ greatest (store_after h).widths Metric
    at None e = let none : counter_of (store_after h) Metric ≡ 0 = ap (λ o. option_map_or (from_be_bytes w64) o 0) e in omega (arith, none)
    at (Some value) e =
        let c = counted_in h value lawful e in
        let most = c.most in
        let fits = greatest_fits (store_after h).widths Metric in
        let is : counter_of (store_after h) Metric ≡ c.number = ap (λ o. option_map_or (from_be_bytes w64) o 0) (e ∙ ap Some c.value_is) ∙ from_be_bytes-to_be_bytes_8 c.number (omega (arith, most, fits)) in
        omega (arith, most, is)

-- a read of the counters' row shows it
shown_cells : (a b : List Cell) → Shown a ≡ Shown b → a ≡ b
shown_cells a b e = cc

pub counted : (old new : Seen) (row : Row) (cells : List Cell) (count : ℕ) → old.alone ≡ true → row ≡ counter_row → Stepped old (Read row) (Shown cells) new → IsPossible new
    → ((value : List ℕ) → value_among cells (kind_qual Metric) ≡ Some value → length value ≡ 8 → from_be_bytes w64 value < 2 ^ 32 → count ≡ from_be_bytes w64 value) → (value_among cells (kind_qual Metric) ≡ None → count ≡ 0)
    → Changes (CountsMetrics count) old new
counted old new row cells count alone row_is step possible some none =
    let d : Placed = placed new.length (record { caller = old.caller; step = Read row; reply = Shown cells }) in
    let made = step_made old new (Read row) (Shown cells) step possible in
    record {
      since = made.since;
      so = λ h lawful fits.
          let g : History = first old.length h in
          let whole = alone_follows old new (d ∷ []) h made alone fits in
          let legal = (subst IsLawful whole (first_lawful h new.length lawful)).2 in
          let shown : cells ≡ cells_of (store_after g) counter_row = shown_cells cells (cells_of (store_after g) row) legal ∙ ap (cells_of (store_after g)) row_is in
          (ap store_after whole ∙ read_keeps g d.entry row refl, at g (first_lawful h old.length lawful) shown (value_at (store_after g) counter_row (kind_qual Metric)) refl);
    }
  where
    among : (g : History) → cells ≡ cells_of (store_after g) counter_row → value_at (store_after g) counter_row (kind_qual Metric) ≡ value_among cells (kind_qual Metric)
    among g shown = value_among-cells_of (store_after g) counter_row (kind_qual Metric) ∙ ap (λ cs. value_among cs (kind_qual Metric)) (sym shown)

    at : (g : History) → IsLawful g → cells ≡ cells_of (store_after g) counter_row → (o : Option (List ℕ)) → value_at (store_after g) counter_row (kind_qual Metric) ≡ o → counter_of (store_after g) Metric ≡ count
    at g lawful shown None e = ap (λ o. option_map_or (from_be_bytes w64) o 0) e ∙ sym (none (sym (among g shown) ∙ e))
    at g lawful shown (Some value) e =
        let c = counted_in g value lawful e in
        let most = c.most in
        let fits = greatest_fits (store_after g).widths Metric in
        let number : from_be_bytes w64 value ≡ c.number = ap (from_be_bytes w64) c.value_is ∙ from_be_bytes-to_be_bytes_8 c.number (omega (arith, most, fits)) in
        ap (λ o. option_map_or (from_be_bytes w64) o 0) e ∙ sym (some value (sym (among g shown) ∙ e) (ap length c.value_is) (omega (arith, number, most, fits)))

-- ---- metric by metric
pub record MetricsTo (count done : ℕ) (old now : Seen) : Type 0 where
  pub since : Since old now
  pub possible : IsPossible now
  pub counts : InEach now (λ h. counter_of (store_after (first old.length h)) Metric ≡ count)
  pub so : InEach now (λ h. CompactsTo done (store_after (first old.length h)) (store_after (first now.length h)))

pub metrics_begin : (count : ℕ) (old now : Seen) → Changes (CountsMetrics count) old now → IsPossible now → MetricsTo count 0 old now
metrics_begin count old now c possible = record {
  since = c.since;
  possible = possible;
  counts = λ h lawful fits. (c.so h lawful fits).1;
  so = λ h lawful fits. none_yet (store_after (first old.length h)) (store_after (first now.length h)) (c.so h lawful fits).0;
}

pub metrics_on : (count done : ℕ) (old now new : Seen) → MetricsTo count done old now → Changes (CompactsMetric (done + 1)) now new → IsPossible new → MetricsTo count (done + 1) old new
metrics_on count done old now new m c possible = record {
  since = since_joined old now new m.since c.since;
  possible = possible;
  counts = λ h lawful fits. m.counts h lawful (c.since.extends.fits h fits);
  so = λ h lawful fits.
      one_more (store_after (first old.length h)) (store_after (first now.length h)) (store_after (first new.length h)) done (m.so h lawful (c.since.extends.fits h fits)) (c.so h lawful fits);
}

pub metrics_end : (count done : ℕ) (old now : Seen) → count ≤ done → MetricsTo count done old now → Changes CompactsAll old now
metrics_end count done old now le m = record {
  since = m.since;
  so = λ h lawful fits.
      all_compacted (first old.length h) (first now.length h) count done le (first_lawful h old.length lawful) (first_lawful h now.length lawful) (m.counts h lawful fits) (m.so h lawful fits);
}

-- each of the metrics is an id
pub metric_fits : (count done : ℕ) (old now : Seen) → done < count → MetricsTo count done old now → done + 1 ≤ most_ids now.base.widths.metric
metric_fits count done old now lt m =
    let p = m.possible in
    let g : History = first old.length p.history in
    let most = counter_most g (first_lawful p.history old.length p.lawful) in
    let is = m.counts p.history p.lawful p.fits in
    let wide : (store_after g).widths ≡ now.base.widths = sym (base_widths g) ∙ ap (λ (s : Store). s.widths) (base_of_first p.history old.length ∙ p.fits.base) in
    let same : greatest (store_after g).widths Metric ≡ most_ids now.base.widths.metric = ap (λ (w : Widths). most_ids w.metric) wide in
    omega (arith, lt, most, is, same)

-- ---- the rows of a metric
pub record RowsTo (metric : ℕ) (old now : Seen) (left : Left) : Type 0 where
  pub since : Since old now
  pub possible : IsPossible now
  pub start : Left
  pub starts : IsStart old.base.widths metric 0 4294967295 start
  pub widths : left.widths ≡ old.base.widths
  pub to_is : left.to ≡ start.to
  pub walked : InEach now (λ h. WalkedTo (store_after (first old.length h)) (store_after (first now.length h)) start.from start.to left.from)

pub rows_begin : (metric : ℕ) (s : Seen) (start : Left) → IsPossible s → IsStart s.base.widths metric 0 4294967295 start → RowsTo metric s s start
rows_begin metric s start possible starts = record {
  since = (nothing_made s).since;
  possible = possible;
  start = start;
  starts = starts;
  widths = starts.widths_are;
  to_is = refl;
  walked = λ h lawful fits. walk_begins (store_after (first s.length h)) start.from start.to;
}

found_is : (a b : Option Found) → Next a ≡ Next b → a ≡ b
found_is a b e = cc

-- what a turn found, in each history that fits what was seen behind it
pub turn_next : (left : Left) (o : Option Found) (old new : Seen) (h : History) → old.alone ≡ true → (made : MadeSo old (TurnMade left (Ok o)) new) → IsLawful h → Fits new h
    → (next_row_of (store_after (first old.length h)) Points left.from left.to ≡ o) × (store_after (first new.length h) ≡ store_after (first old.length h))
turn_next left o old new h alone (list, made, (d, list_is, next)) lawful fits =
    let g : History = first old.length h in
    let whole : first new.length h ≡ Then g d.entry = alone_follows old new list h made alone fits ∙ ap (follow g) list_is in
    let legal = (subst IsLawful whole (first_lawful h new.length lawful)).2 in (
      sym (found_is o (next_row_of (store_after g) Points left.from left.to) (sym next.1 ∙ legal ∙ ap (reply_of (store_after g) (len g + 1)) next.0)),
      ap store_after whole ∙ ap (after (store_after g) (len g + 1)) next.0,
    )

-- the row that a turn found is one of points
pub turn_points : (left : Left) (f : Found) (old new : Seen) → old.alone ≡ true → MadeSo old (TurnMade left (Ok (Some f))) new → IsPossible new → f.row.table ≡ Points
turn_points left f old new alone made p =
    let next = turn_next left (Some f) old new p.history alone made p.lawful p.fits in
    (found_key p.history old.length left.from left.to f p.lawful next.0).between.in_points

module _ (metric : ℕ) (old now mid : Seen) (left : Left) (alone : old.alone ≡ true) (r : RowsTo metric old now left) where
  alone_now : now.alone ≡ true
  alone_now = r.since.alone ∙ alone

  pub rows_on : (f : Found) (new : Seen) → MadeSo now (TurnMade left (Ok (Some f))) mid → Changes (CompactsRow f.row) mid new → IsPossible new → RowsTo metric old new (behind left f.row)
  rows_on f new turn c possible = record {
    since = since_joined old mid new (since_joined old now mid r.since turn.1.since) c.since;
    possible = possible;
    start = r.start;
    starts = r.starts;
    widths = r.widths;
    to_is = r.to_is;
    walked = λ h lawful fits.
        let fits_mid = c.since.extends.fits h fits in
        let next = turn_next left (Some f) now mid h alone_now turn lawful fits_mid in
        let walked = r.walked h lawful (turn.1.since.extends.fits h fits_mid) in
        let found : next_row_of (store_after (first now.length h)) Points left.from r.start.to ≡ Some f = ap (next_row_of (store_after (first now.length h)) Points left.from) (sym r.to_is) ∙ next.0 in
        let one = subst (λ (s : Store). CompactsRow f.row s (store_after (first new.length h))) next.1 (c.so h lawful fits) in
        walk_on h now.length (store_after (first old.length h)) r.start.from r.start.to left.from lawful walked f found (store_after (first new.length h)) one;
  }

  pub rows_end : MadeSo now (TurnMade left (Ok None)) mid → Changes (CompactsMetric metric) old mid
  rows_end turn = record {
    since = since_joined old now mid r.since turn.1.since;
    so = λ h lawful fits.
        let fits_now = turn.1.since.extends.fits h fits in
        let next = turn_next left None now mid h alone_now turn lawful fits in
        let walked = r.walked h lawful fits_now in
        let none : next_row_of (store_after (first now.length h)) Points left.from r.start.to ≡ None = ap (next_row_of (store_after (first now.length h)) Points left.from) (sym r.to_is) ∙ next.0 in
        let wide : old.base.widths ≡ (store_after (first old.length h)).widths = sym (ap (λ (s : Store). s.widths) (base_of_first h old.length ∙ (r.since.extends.fits h fits_now).base)) ∙ base_widths (first old.length h) in
        let starts = subst (λ (w : Widths). IsStart w metric 0 4294967295 r.start) wide r.starts in
        subst (λ (s : Store). CompactsMetric metric (store_after (first old.length h)) s) (sym next.1)
        (walk_ends h now.length (store_after (first old.length h)) r.start.from r.start.to left.from lawful walked metric r.start h old.length lawful refl starts refl refl none);
  }

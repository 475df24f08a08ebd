-- What the rows of a series that were read say of what was accepted.
use Rattle.std.proofs.Common.{◌≡◌, inl, inr, ℕ, ◌+◌, ◌-◌, ◌*◌, ◌≤◌, false, List, [], ◌∷◌, refl, sym, ap, subst, ◌∙◌, arith}
use Rattle.std.specs.Prelude.{ℤ, Contains, Some}
use Rattle.std.proofs.lemmas.List.Elements.{Contains-append_left, Contains-append_right}
use Rattle.list_lemmas.proofs.ListMembers.{not_in, split}
use Rattle.tsd_base.specs.declared.kinds.Kind.{Kind}
use Rattle.tsd_base.specs.declared.kinds.Kind.TheVariants.{Metric, TagKey, TagValue}
use Rattle.tsd_base.specs.TagList.{Pair}
use Rattle.row_key.specs.declared.widths.Widths.{Widths}
use Rattle.row_key.specs.declared.keys.RowKey.{RowKey}
use Rattle.row_key.specs.Key.{IsKey, key_bytes}
use Rattle.row_key.proofs.CallerLemmas.{one_key}
use Rattle.qual_codec.specs.declared.cells.Cell.{Cell}
use Rattle.qual_codec.specs.declared.cells.Dot.{Dot}
use Rattle.qual_codec.specs.CellDots.{HoldsDots}
use Rattle.qual_codec.specs.Merge.{AreDots}
use Rattle.qual_codec.proofs.CallerLemmas.{dot_in, one_dots}
use Rattle.cell_model.specs.declared.row.Found.{Found}
use Rattle.cell_model.specs.declared.events.Placed.{Placed}
use Rattle.cell_model.specs.Store.{cells_of}
use Rattle.cell_model.specs.History.{History, first, store_after, entry_at}
use Rattle.cell_model.specs.IdRows.{id_of, name_of}
use Rattle.cell_model.specs.Lawful.{IsLawful}
use Rattle.cell_model.specs.Layout.{base_time}
use Rattle.cell_model.specs.Readings.{Reading, Meets, Named, IsNamed, DotReads, Accepted, point_row}
use Rattle.cell_model.specs.Seen.{Seen, Fits}
use Rattle.cell_model.specs.Deeds.{Made}
use Rattle.cell_laws.proofs.CallerLemmas.{first_lawful, names_back, made_stands, deeds_each}
use Rattle.row_scan.specs.RowReadings.{RowReads}
use Rattle.row_scan.proofs.CallerLemmas.{IsOf, StoodRow, row_stood, one_row, dot_offset, cell_at, ShownCell, shown_accepted}
use Rattle.uid_table.specs.Shown.{HasShown}
use Rattle.uid_table.specs.ShownKeys.{IdsShown}
use Rattle.uid_table.specs.PlacedPoints.{key_at}
use Rattle.series_meta.specs.HourWalks.{ReadsRow}
use Rattle.series_meta.specs.SeriesRows.{IsShownKey}
use Rattle.series_meta.specs.LatestPoints.{Asking, HadTime}
use Rattle.series_meta.proofs.HourSteps.{shown_cells}
use Rattle.series_meta.proofs.ReadRows.{stood, shown_reading}

-- the data points of one of the cells are among those of all
pub cell_dots : (cells : List Cell) (all : List Dot) (c : Cell) (dots : List Dot) (d : Dot) → AreDots cells all → Contains cells c → HoldsDots c.qual c.value dots → Contains dots d → Contains all d
cell_dots [] all c dots d are i has k = absurd (not_in c i)
cell_dots (x ∷ cells) all c dots d (first_, rest, is, are, parts) i has k = subst (λ (l : List Dot). Contains l d) (sym parts) (elim (split x c cells i) [
  | inl same ↦
      let mine : HoldsDots x.qual x.value dots = subst (λ (y : Cell). HoldsDots y.qual y.value dots) (sym same) has in
      Contains-append_left first_ rest d (subst (λ (l : List Dot). Contains l d) (one_dots x.qual x.value dots first_ mine is) k)
  | inr later ↦ Contains-append_right first_ rest d (cell_dots cells rest c dots d are later has k)
])

-- in a history that fits what was seen when the request ended
module _ (q : Asking) (begin : ℕ) (mid new : Seen) (own : List Placed) (h : History) (lawful : IsLawful h) (fits : Fits new h) (made : Made mid own new) (early : begin ≤ mid.length) where
  abbrev end : ℕ
  end = new.length

  abbrev g : History
  g = first end h

  abbrev W : Widths
  W = (store_after g).widths

  g_lawful : IsLawful g
  g_lawful = first_lawful h end lawful

  -- where an entry stands
  pub record Stands (p : Placed) : Type 0 where
    pub from_on : begin ≤ p.place - 1
    pub up_to : p.place - 1 ≤ end
    pub at : entry_at h p.place ≡ Some p.entry

  stands : (p : Placed) → Contains own p → Stands p
  stands p c =
      let o = (made_stands mid new own h made fits).each p c in
      let d = deeds_each h mid.caller mid.length new.length p (subst (λ (l : List Placed). Contains l p) (sym (made.made h fits)) c) in
      let above = d.above in
      let high = o.0 in
      record { from_on = omega (arith, above, early); up_to = omega (arith, high); at = o.1 }

  early_end : begin ≤ end
  early_end = let le = made.since.extends.length in omega (arith, le, early)

  module _ (key : RowKey) (is_key : IsKey W key) (k : IsShownKey mid q.metric q.tags q.now key) (g_fits : Fits new g) where
    now_is : (kind : Kind) (name : List ℕ) (id : ℕ) → HasShown mid kind name id → IsOf g kind id × (name_of g kind id ≡ Some name) × (id_of g kind name ≡ Some id)
    now_is kind name id s =
        let known = s.stands new made.since.extends g g_lawful g_fits in
        let back = names_back g kind name id g_lawful s.is_name known in
        (record { name = name; is_name = s.is_name; id_is = known; name_is = back }, back, known)

    ids_are : (t : Pair) (i : ℕ × ℕ) → IdsShown mid t i → IsNamed (name_of g) i t
    ids_are t i s = ((now_is TagKey t.0 i.0 s.0).1, (now_is TagValue t.1 i.1 s.1).1)

    pub named : Named (name_of g) key.pairs.items q.tags
    named = record {
      rising = k.are_tags.rising;
      each = λ i c. let w = k.pairs.each_pair i c in (w.0, w.1, ids_are w.0 i w.2);
      back = λ t c. let w = k.pairs.each_tag t c in (w.0, w.1, ids_are t w.0 w.2);
    }

    pub metric_known : id_of g Metric q.metric ≡ Some key.metric
    metric_known = (now_is Metric q.metric key.metric k.metric_shown).2

    row : (base : ℕ) → IsKey W (key_at key base) → StoodRow g (key_bytes W (key_at key base))
    row base is = record {
      key = key_at key base;
      is_key = is;
      row_is = refl;
      metric = (now_is Metric q.metric key.metric k.metric_shown).0;
      tags = λ i c. let w = k.pairs.each_pair i c in ((now_is TagKey w.0.0 i.0 w.2.0).0, (now_is TagValue w.0.1 i.1 w.2.1).0);
    }

    -- a data point of the row of the series at this offset reads so
    reads_as : (base : ℕ) (d : Dot) (time : ℕ) (value : ℤ) → IsKey W (key_at key base) → time ≡ base * 1000 + d.item.offset → value ≡ d.value
        → DotReads W (name_of g) (key_bytes W (key_at key base)) d (record { metric = q.metric; tags = q.tags; time = time; value = value })
    reads_as base d time value is time_is value_is = record {
      key = key_at key base;
      is_key = is;
      row_is = refl;
      metric_is = (now_is Metric q.metric key.metric k.metric_shown).1;
      tags_are = named;
      time_is = time_is;
      value_is = value_is;
    }

    -- what a read of the row showed, as a row that was found
    abbrev found : (base : ℕ) → List Cell → Found
    found base cells = record { row = point_row (key_bytes W (key_at key base)); cells = cells }

    cells_were : (base : ℕ) (dots : List Dot) (p : Placed) → Contains own p → (r : ReadsRow W (key_at key base) dots p) → r.cells ≡ cells_of (store_after (first (p.place - 1) h)) (point_row (key_bytes W (key_at key base)))
    cells_were base dots p c r = shown_cells h p (point_row (key_bytes W (key_at key base))) r.cells lawful (stands p c).at r.did.0 r.did.1

    -- each time of the series in this hour that was accepted at the beginning is one of the data points
    pub time_shown : (base : ℕ) (dots : List Dot) (p : Placed) (time : ℕ) → IsKey W (key_at key base) → Contains own p → ReadsRow W (key_at key base) dots p → HadTime q (first begin h) time → base_time time ≡ base
        → (d : Dot) × Contains dots d × (time ≡ base * 1000 + d.item.offset)
    time_shown base dots p time is c r had hour =
        let st = stood h begin end had.reading lawful early_end had.accepted in
        let s = st.0 in
        let x = st.1 in
        let m = st.2 in
        let d0 : Dot = record { item = record { offset = time - base * 1000; fine = false; len = 1 }; value = s.value } in
        let mine : Reading = record { metric = q.metric; tags = q.tags; time = time; value = s.value } in
        let meets : Meets s mine = record { metric = sym m.metric ∙ had.metric_is; tags = sym m.tags ∙ had.tags_are; time = sym m.time ∙ had.time_is } in
        let same : x.row ≡ key_bytes W (key_at key base) =
        one_row g x.row (key_bytes W (key_at key base)) x.reads.dot d0 s mine (row_stood h begin end x.row x.qual x.value lawful early_end x.stands) (row base is)
        (dot_offset x.qual x.value x.reads.dots x.reads.dot x.reads.reads x.reads.among) (omega (arith, hour)) x.reads.dot_reads (reads_as base d0 time s.value is (omega (arith, hour)) refl) meets in
        let at = stands p c in
        let w = shown_reading h begin end (p.place - 1) s (found base r.cells) lawful x at.from_on (ap point_row (sym same)) (cells_were base dots p c r) in
        let reads = w.1.reads in
        let d = reads.dot_reads in
        let one : d.key ≡ key_at key base = one_key W d.key (key_at key base) d.is_key is (sym d.row_is) in (
          reads.dot,
          cell_dots r.cells dots w.1.cell reads.dots reads.dot r.are_dots w.1.among reads.reads reads.among,
          sym had.time_is ∙ m.time ∙ w.2.time ∙ d.time_is ∙ ap (λ (y : RowKey). y.base * 1000 + reads.dot.item.offset) one,
        )

    -- and each data point was accepted by the end
    pub dot_accepted : (base : ℕ) (dots : List Dot) (p : Placed) (d : Dot) (time : ℕ) (value : ℤ) → IsKey W (key_at key base) → Contains own p → ReadsRow W (key_at key base) dots p → Contains dots d → time ≡ base * 1000 + d.item.offset → value ≡ d.value
        → Accepted g (record { metric = q.metric; tags = q.tags; time = time; value = value })
    dot_accepted base dots p d time value is c r among time_is value_is =
        let w = dot_in r.cells dots d r.are_dots among in
        let at = stands p c in
        let f = found base r.cells in
        let reads : RowReads W (name_of g) f (record { metric = q.metric; tags = q.tags; time = time; value = value }) = record {
          cell = w.cell;
          among = w.among;
          reads = record { dots = w.dots; reads = w.are; dot = d; among = w.has; dot_reads = reads_as base d time value is time_is value_is };
        } in
        let shown : ShownCell h end f w.cell = record {
          when = p.place - 1;
          up_to = at.up_to;
          stands = cell_at (store_after (first (p.place - 1) h)) (point_row (key_bytes W (key_at key base))) w.cell (subst (λ (l : List Cell). Contains l w.cell) (cells_were base dots p c r) w.among);
        } in
        shown_accepted h end f (record { metric = q.metric; tags = q.tags; time = time; value = value }) lawful reads shown

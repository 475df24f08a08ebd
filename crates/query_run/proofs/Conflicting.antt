-- The first row with a conflict, as the entries of a sub query tell it.
use Rattle.std.proofs.Common.{◌≡◌, ◌⊎◌, inl, inr, ℕ, ◌+◌, ◌-◌, ◌*◌, ◌<◌, ◌≤◌, List, [], ◌∷◌, ◌++◌, refl, sym, ap, subst, ◌∙◌, arith, append_assoc}
use Rattle.std.specs.Prelude.{ℤ, Contains, Option, None, Some, IsTrue}
use Rattle.std.proofs.lemmas.List.Elements.{Contains-append_left, Contains-append_right}
use Rattle.tsd_base.specs.declared.kinds.Kind.{Kind}
use Rattle.tsd_base.specs.declared.kinds.Kind.TheVariants.{Metric, TagKey}
use Rattle.tsd_base.specs.TagList.{Pair}
use Rattle.row_key.specs.declared.widths.Widths.{Widths}
use Rattle.row_key.specs.declared.keys.RowKey.{RowKey}
use Rattle.row_key.specs.Key.{IsKey, key_bytes}
use Rattle.qual_codec.specs.declared.cells.Dot.{Dot}
use Rattle.cell_model.specs.declared.row.Row.{Row}
use Rattle.cell_model.specs.declared.row.Found.{Found}
use Rattle.cell_model.specs.declared.events.Placed.{Placed}
use Rattle.cell_model.specs.Store.{value_at}
use Rattle.cell_model.specs.History.{History, first, store_after}
use Rattle.cell_model.specs.IdRows.{id_of, name_of}
use Rattle.cell_model.specs.Layout.{base_time}
use Rattle.cell_model.specs.Lawful.{IsLawful}
use Rattle.cell_model.specs.Readings.{Reading, Named, CellReads, point_row}
use Rattle.cell_model.specs.Seen.{Seen, Fits}
use Rattle.cell_model.specs.Deeds.{Made, InOrder, before_first}
use Rattle.row_scan.specs.Scans.{IsRowOf, HasCell, IsWanted}
use Rattle.qual_codec.specs.Merge.{values_at, first_conflict}
use Rattle.metric_scan.specs.Parts.{HasConflict, ShowsRowsBelow, FirstConflict}
use Rattle.query_run.specs.AskedQueries.{is_wanted}
use Rattle.metric_scan.specs.RowNames.{IdOf, AreReads}
use Rattle.query_run.specs.RowDots.{IsIn}
use Rattle.query_text.specs.declared.queries.Filter.{Filter}
use Rattle.row_scan.specs.RowReadings.{ShowsRow}
use Rattle.metric_scan.specs.Walks.{Picks, KeyOf, Counted, picked_by}
use Rattle.query_run.specs.Collection.{RowConflicts, FoundConflict}
use Rattle.query_run.proofs.Lower as lower
use Rattle.metric_scan.proofs.TagNames.{tags_exist}
use Rattle.query_run.proofs.RowReadings.{PicksBy, asks, is_asked, hours_within, ReadsDot, dot_reads, conflict_free_row, same_dots}
use Rattle.query_run.proofs.Standing.{shown_behind, shown_after}

-- ---- a row that was found stood

pub record StoodFound (h : History) (now : ℕ) (f : Found) : Type 0 where
  pub when : ℕ
  pub up_to : when ≤ now
  pub has : HasCell (store_after (first when h)) f.row

pub found_stood : (spare : ℕ) (widths : Widths) (id start end : ℕ) (old new : Seen) (own : List Placed) (founds : List Found) (ids : List IdOf) (h : History) → Counted spare widths id start end own founds ids → Made old own new → IsLawful h → Fits new h → (f : Found) → Contains founds f → StoodFound h new.length f
found_stood spare widths id start end old new own founds ids h c made lawful fits f i =
    let w = c.by f i in
    let at = (lower.made_stands old new own h made fits).each w.0 w.2 in
    let place = w.0.place in
    let within = at.0 in
    record { when = w.0.place - 1; up_to = omega (arith, within); has = lower.next_has (store_after (first (w.0.place - 1) h)) w.1.from w.1.to f (lower.placed_next h w.0 w.1 (Some f) lawful at.1 w.3) }

pub row_names : (h : History) (now : ℕ) (widths : Widths) (id start end : ℕ) (f : Found) (key : RowKey) → IsLawful h → StoodFound h now f → KeyOf widths id start end f key → lower.StoodRow (first now h) (key_bytes widths key)
row_names h now widths id start end f key lawful s of =
    let has = s.has in
    lower.row_stood h s.when now (key_bytes widths key) has.0 has.1 lawful s.up_to (subst (λ (r : Row). value_at (store_after (first s.when h)) r has.0 ≡ Some has.1) of.row_is has.2)

-- ---- the reading at the conflict

same_Some : {X : Type 0} (x y : X) → ◌≡◌ {A = Option X} (Some x) (Some y) → x ≡ y
same_Some x y e = cc

none_some : {X : Type 0} (x : X) → ◌≡◌ {A = Option X} None (Some x) → ⊥
none_some x e = cc

-- a conflict has a value
first_value : (vs : List ℤ) (c : ℤ × ℤ) → first_conflict vs ≡ Some c → (v : ℤ) × Contains vs v
first_value [] c e = absurd (none_some c e)
first_value (v ∷ vs) c e = (v, lower.here v vs)

one_key_each : (g : History) (key : RowKey) (s : lower.StoodRow g (key_bytes (store_after g).widths key)) → IsKey (store_after g).widths key → (p q : ℕ × ℕ) (name : List ℕ) → Contains key.pairs.items p → Contains key.pairs.items q → name_of g TagKey p.0 ≡ Some name → name_of g TagKey q.0 ≡ Some name → p.0 ≡ q.0
one_key_each g key s is p q name c d x y =
    let same = lower.one_key (store_after g).widths key s.key is s.is_key s.row_is in
    let a = (s.tags p (subst (λ (k : RowKey). Contains k.pairs.items p) same c)).0 in
    let b = (s.tags q (subst (λ (k : RowKey). Contains k.pairs.items q) same d)).0 in
    let an : a.name ≡ name = same_Some a.name name (sym a.name_is ∙ x) in
    let bn : b.name ≡ name = same_Some b.name name (sym b.name_is ∙ y) in
    same_Some p.0 q.0 (sym a.id_is ∙ ap (id_of g TagKey) (an ∙ sym bn) ∙ b.id_is)

stood_tags : (g : History) (key : RowKey) → lower.StoodRow g (key_bytes (store_after g).widths key) → IsKey (store_after g).widths key → (tags : List Pair) × Named (name_of g) key.pairs.items tags
stood_tags g key s is =
    tags_exist (name_of g) key.pairs.items (one_key_each g key s is) is.rising (λ p c.
    let same = lower.one_key (store_after g).widths key s.key is s.is_key s.row_is in
    let t = s.tags p (subst (λ (k : RowKey). Contains k.pairs.items p) same c) in
    ((t.0.name, t.1.name), (t.0.name_is, t.1.name_is)))

pub has_conflict : (picks : Picks) (g : History) (start end : ℕ) (metric : List ℕ) (filters : List Filter) (id : ℕ) (f : Found) (time : ℕ) (a b : ℤ) → name_of g Metric id ≡ Some metric → (r : RowConflicts picks (store_after g).widths id start end f time a b) → lower.StoodRow g (key_bytes (store_after g).widths r.key) → PicksBy picks filters (name_of g) r.key
    → HasConflict (store_after g).widths (name_of g) (is_wanted start end metric filters) f time a b
has_conflict picks g start end metric filters id f time a b named r s by =
    let c = r.conflict in
    let v = first_value (values_at c.offset c.all) (a, b) c.values in
    let d = lower.value_dot c.all c.offset v.0 v.1 in
    let tags = stood_tags g r.key s r.of.is_key in
    let reading : Reading = record { metric = metric; tags = tags.0; time = time; value = d.dot.value } in
    let reads : ReadsDot (name_of g) r.key c.all reading = record {
      dot = d.dot;
      there = d.among;
      metric_is = ap (name_of g Metric) r.of.metric_is ∙ named;
      tags_are = tags.1;
      time_is = c.time_is ∙ ap (λ n. r.key.base * 1000 + n) (sym d.offset_is);
      value_is = refl;
    } in
    record {
      key = r.key;
      is_key = r.of.is_key;
      row_is = r.of.row_is;
      offset = c.offset;
      time_is = c.time_is;
      dots = c.all;
      are_dots = c.are;
      values = c.values;
      reading = reading;
      reads = dot_reads (name_of g) (store_after g).widths id start end f r.key c.all reading r.of c.are reads;
      at_time = refl;
      asked = is_asked start end metric filters reading refl c.within (sym (by tags.0 tags.1) ∙ r.picked);
    }

-- and none of its conflicts is earlier
pub least_conflict : (picks : Picks) (widths : Widths) (names : Kind → ℕ → Option (List ℕ)) (start end : ℕ) (metric : List ℕ) (filters : List Filter) (id : ℕ) (f : Found) (time : ℕ) (a b : ℤ) → RowConflicts picks widths id start end f time a b → (t : ℕ) (c d : ℤ) → HasConflict widths names (is_wanted start end metric filters) f t c d → time ≤ t
least_conflict picks widths names start end metric filters id f time a b r t c d x = at (below_or t time)
  where
    below_or : (m n : ℕ) → (m < n) ⊎ (n ≤ m)
    below_or m n = grind arith

    keys : x.key ≡ r.key
    keys = lower.one_key widths x.key r.key x.is_key r.of.is_key (ap (λ (w : Row). w.bytes) (sym x.row_is ∙ r.of.row_is))

    t_is : t ≡ r.key.base * 1000 + x.offset
    t_is = x.time_is ∙ ap (λ (k : RowKey). k.base * 1000 + x.offset) keys

    within : IsIn start end t
    within = subst (IsIn start end) x.at_time (asks start end metric filters x.reading x.asked).within

    at : (t < time) ⊎ (time ≤ t) → time ≤ t
    at (inl lt) =
        let e = r.conflict.time_is in
        let i = t_is in
        let lower_offset : x.offset < r.conflict.offset = omega (arith, lt, e, i) in
        let low = within.0 in
        let none = r.conflict.least x.offset (omega (arith, low, i)) lower_offset in
        let dots = same_dots f.cells x.dots r.conflict.all x.are_dots r.conflict.are in
        absurd (none_some (c, d) (sym none ∙ ap (λ (l : List Dot). first_conflict (values_at x.offset l)) (sym dots) ∙ x.values))
    at (inr le) = le

-- ---- the first of all

-- the row of a reading that is wanted, of a cell that was there, is one of the metric in these hours, and is asked for
asked_row : (picks : Picks) (h : History) (from now start end : ℕ) (metric : List ℕ) (filters : List Filter) (id : ℕ) (row qual value : List ℕ) (r : Reading) → IsLawful h → from ≤ now → id_of (first now h) Metric metric ≡ Some id
    → ((key : RowKey) → IsKey (store_after (first now h)).widths key → HasCell (store_after (first now h)) (point_row (key_bytes (store_after (first now h)).widths key)) → PicksBy picks filters (name_of (first now h)) key) → value_at (store_after (first from h)) (point_row row) qual ≡ Some value
    → CellReads (store_after (first now h)).widths (name_of (first now h)) row qual value r → IsTrue (is_wanted start end metric filters r)
    → IsRowOf (store_after (first now h)).widths id (base_time start) (base_time end) (point_row row) × IsWanted (store_after (first now h)).widths (picked_by picks) (point_row row)
asked_row picks h from now start end metric filters id row qual value r lawful le known by is c wants =
    let d = c.dot_reads in
    let a = asks start end metric filters r wants in
    let w = hours_within start end r.time a.within in
    let hour = lower.hour_is r.time d.key.base c.dot.item.offset d.is_key.hour (lower.dot_offset qual value c.dots c.dot c.reads c.among) d.time_is in
    let its = lower.metric_id (first now h) row c.dot r (lower.row_stood h from now row qual value lawful le is) d in
    let still = subst (λ (b : List ℕ). HasCell (store_after (first now h)) (point_row b)) d.row_is (lower.row_stays h from now (point_row row) lawful refl le (qual, value, is)) in (
      record {
        key = d.key;
        is_key = d.is_key;
        row_is = ap point_row d.row_is;
        metric_is = same_Some d.key.metric id (sym its ∙ ap (id_of (first now h) Metric) a.metric_is ∙ known);
        from_on = subst (λ n. base_time start ≤ n) hour w.0;
        up_to = subst (λ n. n ≤ base_time end) hour w.1;
      },
      record { key = d.key; is_key = d.is_key; row_is = ap point_row d.row_is; wanted = by d.key d.is_key still r.tags d.tags_are ∙ a.passed },
    )

-- in a history that has these entries: reads, and then those of a scan that was broken off by the conflict
module _ (picks : Picks) (h : History) (now start end : ℕ) (metric : List ℕ) (filters : List Filter) (id : ℕ) (looks own : List Placed) (time : ℕ) (a b : ℤ) (lawful : IsLawful h) (order : InOrder h now (looks ++ own)) (reads : AreReads looks) (f : FoundConflict picks (store_after (first now h)).widths id start end own time a b)
    (by_row : (key : RowKey) → IsKey (store_after (first now h)).widths key → HasCell (store_after (first now h)) (point_row (key_bytes (store_after (first now h)).widths key)) → PicksBy picks filters (name_of (first now h)) key) where
  abbrev from : ℕ
  from = before_first (looks ++ own) now

  last_in : Contains own f.at
  last_in = subst (λ (l : List Placed). Contains l f.at) (sym f.cut) (Contains-append_right f.earlier (f.at ∷ f.later) f.at (lower.here f.at f.later))

  earlier_in : (p : Placed) → Contains f.earlier p → Contains own p
  earlier_in p c = subst (λ (l : List Placed). Contains l p) (sym f.cut) (Contains-append_left f.earlier (f.at ∷ f.later) p c)

  stand : lower.StandAbove h from now (looks ++ own)
  stand = lower.own_stands h now (looks ++ own) lawful order (let w = Contains-append_right looks own f.at last_in in let lt = w.1 in omega (arith, lt))

  early : from ≤ now
  early = let s = stand.each f.at (Contains-append_right looks own f.at last_in) in let low = s.1 in let high = s.2 in omega (arith, low, high)

  all_below : id_of (first now h) Metric metric ≡ Some id → ShowsRowsBelow (store_after (first from h)) (store_after (first now h)).widths (name_of (first now h)) (is_wanted start end metric filters) (looks ++ f.earlier) f.found.row
  all_below known row qual value r is c wants less =
      let of = asked_row picks h from now start end metric filters id row qual value r lawful early known by_row is c wants in
      let w = f.passed h from lawful (λ q i. let s = stand.each q (Contains-append_right looks own q i) in (s.0, s.1)) (point_row row) of.0 of.1 (qual, value, is) less in
      (w.0, shown_after looks f.earlier w.0 w.1, w.2)

  pub first_conflict_of : name_of (first now h) Metric id ≡ Some metric → id_of (first now h) Metric metric ≡ Some id → lower.StoodRow (first now h) (key_bytes (store_after (first now h)).widths f.conflict.key)
      → ((found : Found) (key : RowKey) → ShowsRow own found → KeyOf (store_after (first now h)).widths id start end found key → PicksBy picks filters (name_of (first now h)) key)
      → FirstConflict (store_after (first from h)) (store_after (first now h)).widths (name_of (first now h)) (is_wanted start end metric filters) (looks ++ own) time a b
  first_conflict_of named known s by = record {
    earlier = looks ++ f.earlier;
    at = f.at;
    later = f.later;
    cut = ap (λ (l : List Placed). looks ++ l) f.cut ∙ sym (append_assoc looks f.earlier (f.at ∷ f.later));
    conflict_free = λ found shows.
        let w = shown_behind looks f.earlier found reads shows in
        let c = f.conflict_free w.placed found w.among w.reply in
        conflict_free_row picks (name_of (first now h)) (store_after (first now h)).widths id start end metric filters found c (by found c.key (record { placed = w.placed; among = earlier_in w.placed w.among; reply = w.reply }) c.of);
    found = f.found;
    reply = f.reply;
    passed = all_below known;
    conflict = has_conflict picks (first now h) start end metric filters id f.found time a b named f.conflict s (by f.found f.conflict.key (record { placed = f.at; among = last_in; reply = f.reply }) f.conflict.of);
    least = least_conflict picks (store_after (first now h)).widths (name_of (first now h)) start end metric filters id f.found time a b f.conflict;
  }

-- What is counted of the rows that were gone through, and of one more.
use Rattle.std.proofs.Common.{◌≡◌, inl, inr, ℕ, ◌+◌, ◌*◌, ◌<◌, Bool, true, false, List, [], ◌∷◌, ◌++◌, length, refl, sym, ap, subst, ◌∙◌, arith}
use Rattle.std.specs.Prelude.{Contains, None, Ok, Err}
use Rattle.std.proofs.lemmas.List.Elements.{Contains-append_left, Contains-append_right, Contains-append_cases}
use Rattle.std.specs.BTreeMap.{get}
use Rattle.list_lemmas.specs.BytesOrder.{bytes_cmp}
use Rattle.list_lemmas.proofs.ListMembers.{here, split, not_in, map_in, in_map}
use Rattle.std.specs.declared.cmp.Ordering.TheVariants.{Less}
use Rattle.row_key.specs.declared.keys.RowKey.{RowKey}
use Rattle.row_key.specs.declared.widths.Widths.{Widths}
use Rattle.row_key.specs.Key.{key_bytes}
use Rattle.cell_model.specs.declared.row.Row.{Row}
use Rattle.cell_model.specs.declared.row.Found.{Found}
use Rattle.cell_model.specs.declared.events.Placed.{Placed}
use Rattle.cell_model.specs.declared.answers.RowsFault.{RowsFault}
use Rattle.cell_model.specs.declared.answers.RowsFault.TheVariants as broken
use Rattle.cell_model.specs.Seen.{Seen}
use Rattle.span_merge.specs.Spans.{pairs_cmp}
use Rattle.metric_scan.specs.declared.fault.AskFault.TheVariants as ask
use Rattle.metric_scan.specs.declared.metric_rows.MetricRows.{MetricRows}
use Rattle.metric_scan.specs.declared.row_turn.RowTurn.TheVariants as turn
use Rattle.metric_scan.specs.AskFaults.{ask_fault}
use Rattle.metric_scan.specs.Walks.{Picks, KeyOf, RowRange, HasWalked, IsUnderWay, picks_of, names_of}
use Rattle.metric_scan.specs.RowTurns.{TurnedTo, TurnSays}
use Rattle.query_run.proofs.WalkLemmas.{Going, going_from, under_way, turn_is, picks_still, given_up, hours_rise, hour_before, are_offsets}
use Rattle.series_meta.specs.RowCounts.{CountsOffsets}
use Rattle.series_meta.specs.SeriesCounts.{CountsMore, CountsRow}
use Rattle.series_meta.specs.SeriesTimes.{Times, TimeIsFrom, RowIsTold, AreTimes, IsCount, HasCounts, IsBreak, CountSays}
use Rattle.series_meta.specs.declared.series_counts.SeriesCounts.{SeriesCounts}
use Rattle.series_meta.proofs.TimeLists.{Pairs, row_times, row_times_rise, row_times_length, behind_of, behind_here, behind_keeps, behind_cases, behind_rises, count_more, count_none, none_behind}

-- ---- times of the rows

never : (b : Bool) → b ≡ true → b ≡ false → ⊥
never true e n = cc
never false e n = cc

module _ (picks : Picks) (widths : Widths) (id start end : ℕ) where
  pub times_none : AreTimes picks widths id start end [] (λ q. [])
  times_none = record { rising = λ q i j d lt within. absurd (omega (arith, within)); from = λ q t c. absurd (not_in t c); rows = λ f c. absurd (not_in f c) }

  from_more : (founds more : List Found) (q : Pairs) (t : ℕ) → ((f : Found) → Contains founds f → Contains more f) → TimeIsFrom picks widths id start end founds q t → TimeIsFrom picks widths id start end more q t
  from_more founds more q t within w = record { found = w.found; among = within w.found w.among; key = w.key; of = w.of; picked = w.picked; pairs_are = w.pairs_are; dots = w.dots; are = w.are; dot = w.dot; there = w.there; time_is = w.time_is }

  module _ (founds : List Found) (times : Times) (a : AreTimes picks widths id start end founds times) (f : Found) (key : RowKey) (of : KeyOf widths id start end f key) where
    earlier : (g : Found) → Contains founds g → Contains (founds ++ f ∷ []) g
    earlier g c = Contains-append_left founds (f ∷ []) g c

    last : Contains (founds ++ f ∷ []) f
    last = Contains-append_right founds (f ∷ []) f (here f [])

    -- a row that isn't picked
    pub times_past : picks key.pairs.items ≡ false → AreTimes picks widths id start end (founds ++ f ∷ []) times
    times_past fails = record {
      rising = a.rising;
      from = λ q t c. from_more founds (founds ++ f ∷ []) q t earlier (a.from q t c);
      rows = λ g c. elim (Contains-append_cases founds (f ∷ []) g c) [
        | inl old ↦ a.rows g old
        | inr new ↦ elim (split f g [] new) [
          | inl same ↦ subst (RowIsTold picks widths id start end times) same (record { key = key; of = of; told = λ picked. absurd (never (picks key.pairs.items) picked fails) })
          | inr none ↦ absurd (not_in g none)
        ]
      ];
    }

    -- a row that is picked, above those before it
    module _ (picked : picks key.pairs.items ≡ true) (above : (g : Found) → Contains founds g → bytes_cmp g.row.bytes f.row.bytes ≡ Less) (count : ℕ) (counts : CountsOffsets f.cells count) where
      abbrev pub more : List ℕ
      more = row_times key.base counts.offsets

      abbrev pub longer : Times
      longer = behind_of times key.pairs.items more

      before : (q : Pairs) (x y : ℕ) → key.pairs.items ≡ q → Contains (times q) x → Contains more y → x < y
      before q x y same c d =
          let w = a.from q x c in
          let rows = above w.found w.among in
          let bytes : bytes_cmp (key_bytes widths w.key) (key_bytes widths key) ≡ Less = subst (λ (r : Row × Row). bytes_cmp r.0.bytes r.1.bytes ≡ Less) (λ i. (w.of.row_is i, of.row_is i)) rows in
          let base = hours_rise widths w.key key w.of.is_key of.is_key (w.of.metric_is ∙ sym of.metric_is) (w.pairs_are ∙ sym same) bytes in
          let low = hour_before w.key.base key.base w.dot.item.offset base (are_offsets w.found.cells w.dots w.are w.dot w.there) w.of.is_key.hour of.is_key.hour in
          let is = w.time_is in
          let m = map_in (λ o. key.base * 1000 + o) counts.offsets y d in
          let high = m.2 in
          omega (arith, is, low, high)

      new_from : (y : ℕ) → Contains more y → TimeIsFrom picks widths id start end (founds ++ f ∷ []) key.pairs.items y
      new_from y d =
          let m = map_in (λ o. key.base * 1000 + o) counts.offsets y d in
          let e = counts.are.each m.0 m.1 in
          record { found = f; among = last; key = key; of = of; picked = picked; pairs_are = refl; dots = counts.dots; are = counts.are_dots; dot = e.0; there = e.1; time_is = sym m.2 ∙ ap (λ o. key.base * 1000 + o) (sym e.2) }

      kept : (g : Found) → RowIsTold picks widths id start end times g → RowIsTold picks widths id start end longer g
      kept g r = record {
        key = r.key;
        of = r.of;
        told = λ p. let w = r.told p in record { dots = w.dots; are = w.are; told = λ d c. behind_keeps times key.pairs.items r.key.pairs.items more (r.key.base * 1000 + d.item.offset) (w.told d c) };
      }

      mine : RowIsTold picks widths id start end longer f
      mine = record {
        key = key;
        of = of;
        told = λ p. record {
          dots = counts.dots;
          are = counts.are_dots;
          told = λ d c.
              let o = in_map (λ o. key.base * 1000 + o) counts.offsets d.item.offset (counts.are.there d c) in
              subst (λ (l : List ℕ). Contains l (key.base * 1000 + d.item.offset)) (sym (behind_here times key.pairs.items more)) (Contains-append_right (times key.pairs.items) more (key.base * 1000 + d.item.offset) o);
        };
      }

      pub times_more : AreTimes picks widths id start end (founds ++ f ∷ []) longer
      times_more = record {
        rising = λ q. behind_rises times key.pairs.items q more (a.rising q) (row_times_rise key.base counts.offsets counts.are.rising) (before q);
        from = λ q t c. elim (behind_cases times key.pairs.items q more t c) [
          | inl old ↦ from_more founds (founds ++ f ∷ []) q t earlier (a.from q t old)
          | inr new ↦ subst (λ (p : Pairs). TimeIsFrom picks widths id start end (founds ++ f ∷ []) p t) new.0 (new_from t new.1)
        ];
        rows = λ g c. elim (Contains-append_cases founds (f ∷ []) g c) [
          | inl old ↦ kept g (a.rows g old)
          | inr new ↦ elim (split f g [] new) [ inl same ↦ subst (RowIsTold picks widths id start end longer) same mine | inr none ↦ absurd (not_in g none) ]
        ];
      }

      -- and they are counted
      pub counts_more : (old new : SeriesCounts) → HasCounts id times old → CountsMore old key count new → HasCounts id longer new
      counts_more old new h (inl (none, same)) =
          let is = counts.count_is in
          let len = row_times_length key.base counts.offsets in
          let empty : length more ≡ 0 = omega (arith, is, len, none) in
          subst (HasCounts id longer) (sym same) (record {
            each = λ q. count_none times key.pairs.items q more (get pairs_cmp old.counts q) empty (h.each q);
            metric = λ q some. let e = none_behind times key.pairs.items q more empty in h.metric q (omega (arith, some, e));
          })
      counts_more old new h (inr (some, metric, adds)) =
          let is = counts.count_is in
          let len = row_times_length key.base counts.offsets in
          record {
            each = λ q. count_more times key.pairs.items q more count (get pairs_cmp old.counts q) (get pairs_cmp new.counts q) (omega (arith, is, len)) some (h.each q) (adds q);
            metric = λ q s. metric ∙ of.metric_is;
          }

-- ---- turn by turn

-- the rows were gone through so far, and the times of their series are counted
pub record Counting (r : RowRange) (picks : Picks) (rows : MetricRows) (series : SeriesCounts) (now : Seen) : Type 0 where
  pub own : List Placed
  pub founds : List Found
  pub going : Going r picks own founds rows now
  pub times : Times
  pub are : AreTimes picks r.begun.base.widths r.id r.start r.end founds times
  pub counts : HasCounts r.id times series

pub counting_begins : (r : RowRange) (rows : MetricRows) (series : SeriesCounts) (now : Seen) → HasWalked r [] [] rows now → ((q : Pairs) → get pairs_cmp series.counts q ≡ None) → Counting r (picks_of rows) rows series now
counting_begins r rows series now walked none = record {
  own = [];
  founds = [];
  going = going_from r [] [] rows now walked;
  times = λ q. [];
  are = times_none (picks_of rows) r.begun.base.widths r.id r.start r.end;
  counts = record { each = λ q. subst (IsCount []) (sym (none q)) refl; metric = λ q some. absurd (omega (arith, some)) };
}

module _ (r : RowRange) (picks : Picks) (rows : MetricRows) (series : SeriesCounts) (now : Seen) (c : Counting r picks rows series now) where
  abbrev W : Widths
  W = r.begun.base.widths

  pub counting_under_way : IsUnderWay rows now
  counting_under_way = under_way r picks c.own c.founds rows now c.going

  -- no row is left
  pub counted_all : (after : MetricRows) (new : Seen) → TurnSays rows now (Ok turn.End) after new → CountSays r picks (Ok series) (names_of after) new
  counted_all after new says =
      let t = turn_is r picks c.own c.founds rows now c.going (Ok turn.End) after new says in
      record { own = c.own ++ t.at ∷ []; founds = c.founds; all = t.all; times = c.times; are = c.are; counts = c.counts }

  -- a row was passed over
  pub counted_past : (after : MetricRows) (new : Seen) → TurnSays rows now (Ok turn.Passed) after new → Counting r picks after series new
  counted_past after new says =
      let t = turn_is r picks c.own c.founds rows now c.going (Ok turn.Passed) after new says in
      record {
        own = c.own ++ t.at ∷ [];
        founds = c.founds ++ t.found ∷ [];
        going = record { picks_are = picks_still r picks c.own c.founds rows now c.going (Ok turn.Passed) after new says; walked = t.walked };
        times = c.times;
        are = times_past picks W r.id r.start r.end c.founds c.times c.are t.found t.key t.of t.fails;
        counts = c.counts;
      }

  breaks : (e : RowsFault) → IsBreak (ask_fault e)
  breaks broken.OutOfMemory = tt
  breaks broken.Stopped = tt

  -- the turn failed
  pub count_cut : (e : RowsFault) (after : MetricRows) (new : Seen) → TurnSays rows now (Err e) after new → CountSays r picks (Err (ask_fault e)) (names_of after) new
  count_cut e after new says = (breaks e, turn_is r picks c.own c.founds rows now c.going (Err e) after new says)

  pub count_given_up : CountSays r picks (Err ask.OutOfMemory) (names_of rows) now
  count_given_up = (tt, (c.own, c.founds, given_up r c.own c.founds picks rows.scan (names_of rows) now c.going.walked))

  -- a row is picked
  module _ (key : RowKey) (found : Found) (after : MetricRows) (new : Seen) (says : TurnSays rows now (Ok (turn.Picked key found)) after new) where
    pub picked : TurnedTo r c.own c.founds picks after.scan (names_of after) key found new
    picked = turn_is r picks c.own c.founds rows now c.going (Ok (turn.Picked key found)) after new says

    going_on : Going r picks (c.own ++ picked.at ∷ picked.reads) (c.founds ++ found ∷ []) after new
    going_on = record { picks_are = picks_still r picks c.own c.founds rows now c.going (Ok (turn.Picked key found)) after new says; walked = picked.walked }

    pub counted_more : (more : SeriesCounts) → CountsRow series key found.cells more → Counting r picks after more new
    counted_more more t = record {
      own = c.own ++ picked.at ∷ picked.reads;
      founds = c.founds ++ found ∷ [];
      going = going_on;
      times = longer picks W r.id r.start r.end c.founds c.times c.are found key picked.of picked.picked picked.above t.count t.counts;
      are = times_more picks W r.id r.start r.end c.founds c.times c.are found key picked.of picked.picked picked.above t.count t.counts;
      counts = counts_more picks W r.id r.start r.end c.founds c.times c.are found key picked.of picked.picked picked.above t.count t.counts series more c.counts t.more;
    }

    -- there was no memory for it
    pub count_lost : CountSays r picks (Err ask.OutOfMemory) (names_of after) new
    count_lost = (tt, (c.own ++ picked.at ∷ picked.reads, c.founds ++ found ∷ [], given_up r (c.own ++ picked.at ∷ picked.reads) (c.founds ++ found ∷ []) picks after.scan (names_of after) new picked.walked))

-- What is collected of the rows that were gone through, and of one more.
use Rattle.std.proofs.Common.{◌≡◌, ◌≤◌, ℕ, Bool, true, false, List, [], ◌∷◌, ◌++◌, length, refl, sym, ap, subst, ◌∙◌}
use Rattle.std.specs.Prelude.{◌&&◌, All, Contains, Option, Result, Ok, Err}
use Rattle.std.proofs.lemmas.List.{length-map}
use Rattle.std.proofs.lemmas.List.Elements.{Contains-append_right}
use Rattle.tsd_base.specs.declared.kinds.Kind.TheVariants.{TagValue}
use Rattle.row_key.specs.declared.keys.RowKey.{RowKey}
use Rattle.row_key.specs.declared.widths.Widths.{Widths}
use Rattle.cell_model.specs.declared.row.Row.{Row}
use Rattle.cell_model.specs.declared.row.Found.{Found}
use Rattle.cell_model.specs.declared.events.Placed.{Placed}
use Rattle.cell_model.specs.declared.answers.RowsFault.{RowsFault}
use Rattle.cell_model.specs.declared.answers.RowsFault.TheVariants as broken
use Rattle.cell_model.specs.History.{History}
use Rattle.cell_model.specs.Calls.{Leaves}
use Rattle.cell_model.specs.IdRows.{name_of}
use Rattle.cell_model.specs.Seen.{Seen, IsPossible, InEach}
use Rattle.tsd_base.specs.declared.kinds.Down.{Down}
use Rattle.span_merge.specs.Spans.{Span, KeptSpan, KeepsSpans}
use Rattle.query_text.specs.declared.queries.Filter.{Filter}
use Rattle.metric_scan.specs.declared.fault.AskFault.{AskFault}
use Rattle.metric_scan.specs.declared.fault.AskFault.TheVariants.{TooManyBuckets, BadFilter, Unknown, Duplicate, Overflow, OutOfMemory, Stopped}
use Rattle.metric_scan.specs.declared.id_filter.IdFilter.{IdFilter}
use Rattle.metric_scan.specs.declared.metric_rows.MetricRows.{MetricRows}
use Rattle.metric_scan.specs.declared.row_turn.RowTurn.{RowTurn}
use Rattle.metric_scan.specs.declared.row_turn.RowTurn.TheVariants as turn
use Rattle.query_run.specs.declared.value_judges.ValueJudge.{ValueJudge}
use Rattle.metric_scan.specs.AskFaults.{ask_fault, is_stop}
use Rattle.metric_scan.specs.IdFilters.{passes}
use Rattle.metric_scan.specs.RowNames.{ids_of}
use Rattle.query_run.specs.ValueJudges.{suits, AreAmong, IsJudgedBy, HaveJudged, HaveValues, AreFresh, filters_of}
use Rattle.metric_scan.specs.Walks.{Picks, RowRange, HasWalked, IsUnderWay, names_of}
use Rattle.metric_scan.specs.RowTurns.{TurnedTo, TurnSays}
use Rattle.query_run.specs.Collection.{picks_in, StandsBehind, MayTake, TakesRow, TakesIf, CanTake, PickedTaken, TakesPicked, Gathered, ConflictOf, WasCut, LeftSays}
use Rattle.query_run.proofs.Lower as lower
use Rattle.query_run.proofs.Contents.{stands_behind, gathered_none, gathered_left, gathered_taken, row_conflict_free}
use Rattle.query_run.proofs.FewerRows.{shows_fewer}
use Rattle.query_run.proofs.RowsTaken.{no_stop_if}
use Rattle.metric_scan.proofs.TagNames.{value_in}
use Rattle.metric_scan.proofs.WalkSteps.{counted_wider, given_up}
use Rattle.metric_scan.proofs.WalkTurns.{Going, going_from, under_way, turn_is, picks_still}

-- ---- what judges its values

-- the judges are those of the filters, and judged by the names that each lawful history has
pub record Judging (list : List IdFilter) (filters : List Filter) (rows : MetricRows) (judges : List ValueJudge) (now : Seen) : Type 0 where
  pub list_is : rows.filters.items ≡ list
  pub filters_are : filters_of judges ≡ filters
  pub judged : InEach now (λ g. All (IsJudgedBy (name_of g)) judges)

pub judging_begins : (rows : MetricRows) (judges : List ValueJudge) (wanted : List Filter) (now : Seen) → AreFresh wanted judges → Judging rows.filters.items (filters_of judges) rows judges now
judging_begins rows judges wanted now fresh = record { list_is = refl; filters_are = refl; judged = λ g lawful fits. fresh.judged (name_of g) }

module _ (list : List IdFilter) (filters : List Filter) (rows : MetricRows) (judges : List ValueJudge) (now : Seen) (j : Judging list filters rows judges now) where
  pub judging_past : (result : Result RowTurn RowsFault) (after : MetricRows) (new : Seen) → TurnSays rows now result after new → Judging list filters after judges new
  judging_past result after new says = record { list_is = says.filters_are ∙ j.list_is; filters_are = j.filters_are; judged = λ g lawful fits. j.judged g lawful (says.extends.fits g fits) }

  -- as many as there are filters by ids
  pub as_many : length filters ≡ length list → (result : Result RowTurn RowsFault) (after : MetricRows) (new : Seen) → TurnSays rows now result after new → length judges ≡ length after.filters.items
  as_many same result after new says = sym (length-map judges (λ (x : ValueJudge). x.judge)) ∙ ap length j.filters_are ∙ same ∙ sym (ap length (says.filters_are ∙ j.list_is))

  module _ (result : Result RowTurn RowsFault) (after : MetricRows) (new : Seen) (says : TurnSays rows now result after new) (names_are : InEach new (λ g. AreAmong (names_of after) (name_of g))) (more : List ValueJudge) (answer : Bool) (pairs : List (ℕ × ℕ))
      (h : HaveJudged (names_of after) judges more answer (λ all. suits all (filters_of judges) after.filters.items pairs)) where
    pub judging_more : Judging list filters after more new
    judging_more = record { list_is = says.filters_are ∙ j.list_is; filters_are = h.same ∙ j.filters_are; judged = λ g lawful fits. (h.by (name_of g) (names_are g lawful fits) (j.judged g lawful (says.extends.fits g fits))).0 }

    pub suits_so : (asked : List (ℕ × ℕ)) → pairs ≡ asked → InEach new (λ g. suits (name_of g) filters list asked ≡ answer)
    suits_so asked same g lawful fits =
        let answer_is = (h.by (name_of g) (names_are g lawful fits) (j.judged g lawful (says.extends.fits g fits))).1 in
        sym (answer_is ∙ (λ i. suits (name_of g) (j.filters_are i) ((says.filters_are ∙ j.list_is) i) (same i)))

-- ---- what is collected

-- of what is kept these are the series, whatever lawful history fits what was seen
pub record Collecting (r : RowRange) (list : List IdFilter) (filters : List Filter) (how : Option Down) (rows : MetricRows) (kept : List KeptSpan) (now : Seen) : Type 0 where
  pub own : List Placed
  pub founds : List Found
  pub going : Going r (passes list) own founds rows now
  pub series : List Span
  pub keeps : KeepsSpans how kept series
  pub content : InEach now (λ g. Gathered (picks_in list filters g) r.begun.base.widths r.id r.start r.end founds series)

pub collect_begins : (r : RowRange) (filters : List Filter) (how : Option Down) (rows : MetricRows) (kept : List KeptSpan) → kept ≡ [] → HasWalked r [] [] rows r.begun → Collecting r rows.filters.items filters how rows kept r.begun
collect_begins r filters how rows kept none walked = record {
  own = [];
  founds = [];
  going = going_from r [] [] rows r.begun walked;
  series = [];
  keeps = subst (λ (l : List KeptSpan). KeepsSpans how l []) (sym none) tt;
  content = λ g lawful fits. gathered_none (picks_in rows.filters.items filters g) r.begun.base.widths r.id r.start r.end;
}

module _ (r : RowRange) (list : List IdFilter) (filters : List Filter) (how : Option Down) (rows : MetricRows) (kept : List KeptSpan) (now : Seen) (c : Collecting r list filters how rows kept now) where
  abbrev W : Widths
  W = r.begun.base.widths

  abbrev picks : Picks
  picks = passes list

  pub collect_under_way : IsUnderWay rows now
  collect_under_way = under_way r picks c.own c.founds rows now c.going

  -- no row is left
  pub collected_all : (after : MetricRows) (new : Seen) → TurnSays rows now (Ok turn.End) after new → LeftSays r list filters how (Ok tt) after kept new
  collected_all after new says =
      let t = turn_is r picks c.own c.founds rows now c.going (Ok turn.End) after new says in
      record {
        spans = c.series;
        keeps = c.keeps;
        collected = record {
          own = c.own ++ t.at ∷ [];
          founds = c.founds;
          all = t.all;
          content = λ g lawful fits. c.content g lawful (says.extends.fits g fits);
        };
      }

  -- a row was passed over
  pub collected_past : (after : MetricRows) (new : Seen) → TurnSays rows now (Ok turn.Passed) after new → Collecting r list filters how after kept new
  collected_past after new says =
      let t = turn_is r picks c.own c.founds rows now c.going (Ok turn.Passed) after new says in
      record {
        own = c.own ++ t.at ∷ [];
        founds = c.founds ++ t.found ∷ [];
        going = record { picks_are = picks_still r picks c.own c.founds rows now c.going (Ok turn.Passed) after new says; walked = t.walked };
        series = c.series;
        keeps = c.keeps;
        content = λ g lawful fits.
            gathered_left (picks_in list filters g) W r.id r.start r.end c.founds t.found t.key c.series (c.content g lawful (says.extends.fits g fits)) t.of (ap (λ b. b && suits (name_of g) filters list t.key.pairs.items) t.fails);
      }

  cut_by : (e : RowsFault) (own : List Placed) (new : Seen) → InEach new (λ g. ConflictOf (picks_in list filters g) W r.id r.start r.end own (ask_fault e))
  cut_by broken.OutOfMemory own new g lawful fits = tt
  cut_by broken.Stopped own new g lawful fits = tt

  -- the turn failed
  pub collect_cut : (e : RowsFault) (after : MetricRows) (new : Seen) → TurnSays rows now (Err e) after new → WasCut r list filters (ask_fault e) new
  collect_cut e after new says =
      let t = turn_is r picks c.own c.founds rows now c.going (Err e) after new says in
      record { own = t.0; founds = t.1; ids = t.2.ids; made = t.2.made; counted = t.2.counted; cause = cut_by e t.0 new }

  pub collect_given_up : WasCut r list filters OutOfMemory now
  collect_given_up =
      let t = given_up r c.own c.founds picks rows.scan (names_of rows) now c.going.walked in
      record { own = c.own; founds = c.founds; ids = t.ids; made = t.made; counted = t.counted; cause = λ g lawful fits. tt }

  -- a row is picked
  module _ (key : RowKey) (found : Found) (after : MetricRows) (new : Seen) (says : TurnSays rows now (Ok (turn.Picked key found)) after new) where
    pub picked : TurnedTo r c.own c.founds picks after.scan (names_of after) key found new
    picked = turn_is r picks c.own c.founds rows now c.going (Ok (turn.Picked key found)) after new says

    pub picked_behind : IsPossible now → StandsBehind c.series key
    picked_behind p = stands_behind (picks_in list filters p.history) W r.id r.start r.end c.founds c.series found key (c.content p.history p.lawful p.fits) picked.of picked.above

    pub picked_may : IsPossible now → MayTake how kept key
    picked_may p = record { spans = c.series; keeps = c.keeps; behind = picked_behind p }

    -- its values have names, which are those of each lawful history that fits
    pub picked_values : (pairs : List (ℕ × ℕ)) → pairs ≡ key.pairs.items → HaveValues (names_of after) pairs
    picked_values pairs same p i =
        let row = picked.walked.named found (Contains-append_right c.founds (found ∷ []) found (lower.here found [])) in
        let its : row.key ≡ key = lower.one_key W row.key key row.of.is_key picked.of.is_key (ap (λ (x : Row). x.bytes) (sym row.of.row_is ∙ picked.of.row_is)) in
        row.named (subst (λ (k : RowKey). passes list k.pairs.items ≡ true) (sym its) picked.picked) (TagValue, p.1) (subst (λ (k : RowKey). Contains (ids_of k.pairs.items) (TagValue, p.1)) (sym its) (value_in key.pairs.items p (subst (λ (l : List (ℕ × ℕ)). Contains l p) same i)))

    pub picked_names : InEach new (λ g. AreAmong (names_of after) (name_of g))
    picked_names g lawful fits kind id name e = ((picked.walked.shown kind id name e).stands new (lower.itself new) g lawful fits).0

    before : InEach new (λ g. Gathered (picks_in list filters g) W r.id r.start r.end c.founds c.series)
    before g lawful fits = c.content g lawful (says.extends.fits g fits)

    still : Going r picks (c.own ++ picked.at ∷ picked.reads) (c.founds ++ found ∷ []) after new
    still = record { picks_are = picks_still r picks c.own c.founds rows now c.going (Ok (turn.Picked key found)) after new says; walked = picked.walked }

    -- by the names of its values it passes, or doesn't
    abbrev Suits : Bool → Type 0
    Suits answer = InEach new (λ g. suits (name_of g) filters list key.pairs.items ≡ answer)

    picks_so : (g : History) (answer : Bool) → suits (name_of g) filters list key.pairs.items ≡ answer → picks_in list filters g key.pairs.items ≡ answer
    picks_so g answer e = ap (λ b. b && suits (name_of g) filters list key.pairs.items) picked.picked ∙ e

    collected_unsuited : Suits false → Collecting r list filters how after kept new
    collected_unsuited no_suit = record {
      own = c.own ++ picked.at ∷ picked.reads;
      founds = c.founds ++ found ∷ [];
      going = still;
      series = c.series;
      keeps = c.keeps;
      content = λ g lawful fits. gathered_left (picks_in list filters g) W r.id r.start r.end c.founds found key c.series (before g lawful fits) picked.of (picks_so g false (no_suit g lawful fits));
    }

    collected_more : (more : List KeptSpan) → Suits true → TakesRow how key found.cells r.start r.end c.series (Ok tt) more → Collecting r list filters how after more new
    collected_more more fit t = record {
      own = c.own ++ picked.at ∷ picked.reads;
      founds = c.founds ++ found ∷ [];
      going = still;
      series = t.added.more;
      keeps = t.added.keeps;
      content = λ g lawful fits. gathered_taken (picks_in list filters g) how W r.id r.start r.end c.founds found key c.series more (before g lawful fits) picked.of (picks_so g true (fit g lawful fits)) t;
    }

    refused : (fault : AskFault) → InEach new (λ g. ConflictOf (picks_in list filters g) W r.id r.start r.end (c.own ++ picked.at ∷ picked.reads) fault) → WasCut r list filters fault new
    refused fault cause = record {
      own = c.own ++ picked.at ∷ picked.reads;
      founds = c.founds ++ found ∷ [];
      ids = picked.walked.ids;
      made = picked.walked.made;
      counted = counted_wider W r.id r.start r.end (c.own ++ picked.at ∷ picked.reads) (c.founds ++ found ∷ []) picked.walked.ids picked.walked.counted;
      cause = cause;
    }

    -- its values weren't judged
    pub collect_unjudged : WasCut r list filters OutOfMemory new
    collect_unjudged = refused OutOfMemory (λ g lawful fits. tt)

    collect_refused_at : (fault : AskFault) (more : List KeptSpan) → Suits true → TakesRow how key found.cells r.start r.end c.series (Err fault) more → WasCut r list filters fault new
    collect_refused_at (Duplicate time a b) more fit t = refused (Duplicate time a b) (λ g lawful fits. record {
      earlier = c.own;
      at = picked.at;
      later = picked.reads;
      cut = refl;
      conflict_free = λ p f i e. row_conflict_free (picks_in list filters g) W r.id r.start r.end c.series f ((before g lawful fits).rows f (c.going.walked.counted.shows p f i e));
      found = found;
      reply = picked.reply;
      reads = picked.are_reads;
      passed = shows_fewer list filters g W r.id r.start r.end (c.own ++ picked.at ∷ picked.reads) c.own found.row picked.passed;
      conflict = record { key = key; of = picked.of; picked = picks_so g true (fit g lawful fits); conflict = t };
    })
    collect_refused_at OutOfMemory more fit t = refused OutOfMemory (λ g lawful fits. tt)
    collect_refused_at (TooManyBuckets count) more fit t = absurd t
    collect_refused_at (BadFilter index) more fit t = absurd t
    collect_refused_at (Unknown kind name) more fit t = absurd t
    collect_refused_at (Overflow time) more fit t = absurd t
    collect_refused_at Stopped more fit t = absurd t

    -- so it is of what was taken, where the row is asked for
    pub collected_next : (answer : Bool) (more : List KeptSpan) → Suits answer → TakesIf answer how key found.cells r.start r.end c.series (Ok tt) kept more → Collecting r list filters how after more new
    collected_next true more fit t = collected_more more fit t
    collected_next false more fit same = subst (λ (l : List KeptSpan). Collecting r list filters how after l new) (sym same) (collected_unsuited fit)

    pub refused_next : (answer : Bool) (fault : AskFault) (more : List KeptSpan) → Suits answer → TakesIf answer how key found.cells r.start r.end c.series (Err fault) kept more → WasCut r list filters fault new
    refused_next true fault more fit t = collect_refused_at fault more fit t
    refused_next false fault more fit t = absurd t

    -- what is taken of it
    module _ (judges : List ValueJudge) (j : Judging list filters rows judges now) (p : IsPossible now) where
      pub picked_can : length filters ≡ length list → CanTake after judges how kept key found.cells r.start r.end
      picked_can same = record {
        as_many = as_many list filters rows judges now j same (Ok (turn.Picked key found)) after new says;
        named = picked_values key.pairs.items refl;
        reads = picked.cells_read;
        from_on = picked.of.from_on;
        up_to = picked.of.up_to;
        behind = picked_may p;
      }

      module _ (more_judges : List ValueJudge) (more : List KeptSpan) where
        fit : (answer : Bool) → HaveJudged (names_of after) judges more_judges answer (λ all. suits all (filters_of judges) after.filters.items key.pairs.items) → Suits answer
        fit answer judged = suits_so list filters rows judges now j (Ok (turn.Picked key found)) after new says picked_names more_judges answer key.pairs.items judged key.pairs.items refl

        pub picked_next : PickedTaken after judges how key found.cells r.start r.end (Ok tt) more_judges kept more → Collecting r list filters how after more new
        picked_next t = collected_next t.asked more (fit t.asked t.judged) (t.takes c.series c.keeps (picked_behind p))

        pub picked_judging : PickedTaken after judges how key found.cells r.start r.end (Ok tt) more_judges kept more → Judging list filters after more_judges new
        picked_judging t = judging_more list filters rows judges now j (Ok (turn.Picked key found)) after new says picked_names more_judges t.asked key.pairs.items t.judged

        picked_fault : (fault : AskFault) → PickedTaken after judges how key found.cells r.start r.end (Err fault) more_judges kept more → WasCut r list filters fault new
        picked_fault fault t = refused_next t.asked fault more (fit t.asked t.judged) (t.takes c.series c.keeps (picked_behind p))

        pub picked_refused : (fault : AskFault) → TakesPicked after judges how key found.cells r.start r.end (Err fault) more_judges kept more → WasCut r list filters fault new
        picked_refused (Duplicate time a b) t = picked_fault (Duplicate time a b) t
        picked_refused OutOfMemory t = collect_unjudged
        picked_refused (TooManyBuckets count) t = picked_fault (TooManyBuckets count) t
        picked_refused (BadFilter index) t = picked_fault (BadFilter index) t
        picked_refused (Unknown kind name) t = picked_fault (Unknown kind name) t
        picked_refused (Overflow time) t = picked_fault (Overflow time) t
        picked_refused Stopped t = picked_fault Stopped t

-- what is taken of a row tells no stop
module _ (r : RowRange) (list : List IdFilter) (filters : List Filter) (how : Option Down) (rows after : MetricRows) (kept more : List KeptSpan) (judges more_judges : List ValueJudge) (now new : Seen) (key : RowKey) (found : Found) (c : Collecting r list filters how rows kept now) (says : TurnSays rows now (Ok (turn.Picked key found)) after new) (p : IsPossible now) where
  pub no_stop_taken : {T : Type 0} (fault : AskFault) (first last : ℕ) → TakesPicked after judges how key found.cells r.start r.end (Err fault) more_judges kept more → first ≤ last → Leaves {T = T} is_stop (Err fault) new first last
  no_stop_taken (Duplicate time a b) first last t le = record { possible = tt; grows = le; rose = tt }
  no_stop_taken OutOfMemory first last t le = record { possible = tt; grows = le; rose = tt }
  no_stop_taken (TooManyBuckets count) first last t le = record { possible = tt; grows = le; rose = tt }
  no_stop_taken (BadFilter index) first last t le = record { possible = tt; grows = le; rose = tt }
  no_stop_taken (Unknown kind name) first last t le = record { possible = tt; grows = le; rose = tt }
  no_stop_taken (Overflow time) first last t le = record { possible = tt; grows = le; rose = tt }
  no_stop_taken Stopped first last t le =
      no_stop_if t.asked how key found.cells r.start r.end c.series kept more Stopped new first last (t.takes c.series c.keeps (picked_behind r list filters how rows kept now c key found after new says p)) le

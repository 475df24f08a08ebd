-- A picked row, whose values were judged.
use Rattle.std.proofs.Common.{◌≡◌, ℕ, Bool, true, false, List, sym, subst}
use Rattle.std.specs.Prelude.{Option, Result, Ok, Err}
use Rattle.row_key.specs.declared.keys.RowKey.{RowKey}
use Rattle.qual_codec.specs.declared.cells.Cell.{Cell}
use Rattle.tsd_base.specs.declared.kinds.Down.{Down}
use Rattle.span_merge.specs.Spans.{Span, KeptSpan, KeepsSpans}
use Rattle.metric_scan.specs.declared.fault.AskFault.{AskFault}
use Rattle.metric_scan.specs.declared.fault.AskFault.TheVariants.{TooManyBuckets, BadFilter, Unknown, Duplicate, Overflow, OutOfMemory, Stopped}
use Rattle.metric_scan.specs.declared.id_filter.IdFilter.{IdFilter}
use Rattle.metric_scan.specs.declared.metric_rows.MetricRows.{MetricRows}
use Rattle.metric_scan.specs.declared.row_names.IdNames.{IdNames}
use Rattle.query_run.specs.declared.value_judges.ValueJudge.{ValueJudge}
use Rattle.metric_scan.specs.RowNames.{known}
use Rattle.query_run.specs.ValueJudges.{suits, HaveJudged, HaveValues, filters_of}
use Rattle.metric_scan.specs.Walks.{names_of}
use Rattle.query_run.specs.Collection.{StandsBehind, TakesRow, PickedTaken, TakesPicked}
use Rattle.query_run.proofs.RowsTaken.{taken_if, left_if}

-- the values have names among those that were lent
pub values_lent : (rows : MetricRows) (given : IdNames) (pairs lent : List (ℕ × ℕ)) → given ≡ rows.names → lent ≡ pairs → HaveValues (names_of rows) pairs → HaveValues (known given) lent
values_lent rows given pairs lent names same have = subst (λ (n : IdNames). HaveValues (known n) lent) (sym names) (subst (HaveValues (names_of rows)) (sym same) have)

-- by the names and the filters that were lent
judged_so : (given held : IdNames) (listed list : List IdFilter) (judges more : List ValueJudge) (answer : Bool) (pairs : List (ℕ × ℕ)) → given ≡ held → listed ≡ list → HaveJudged (known given) judges more answer (λ all. suits all (filters_of judges) listed pairs)
    → HaveJudged (known held) judges more answer (λ all. suits all (filters_of judges) list pairs)
judged_so given held listed list judges more answer pairs names same h =
    subst (λ (n : IdNames). HaveJudged (known n) judges more answer (λ all. suits all (filters_of judges) list pairs)) names (subst (λ (l : List IdFilter). HaveJudged (known given) judges more answer (λ all. suits all (filters_of judges) l pairs)) same h)

module _ (rows : MetricRows) (before after : List ValueJudge) (how : Option Down) (key : RowKey) (cells : List Cell) (start end : ℕ) (given : IdNames) (listed : List IdFilter) (pairs : List (ℕ × ℕ)) (answer : Bool) (names : given ≡ rows.names) (same : listed ≡ rows.filters.items) (lent : pairs ≡ key.pairs.items)
    (judged : HaveJudged (known given) before after answer (λ all. suits all (filters_of before) listed pairs)) where
  judged_here : HaveJudged (names_of rows) before after answer (λ all. suits all (filters_of before) rows.filters.items key.pairs.items)
  judged_here = subst (λ (l : List (ℕ × ℕ)). HaveJudged (names_of rows) before after answer (λ all. suits all (filters_of before) rows.filters.items l)) lent (judged_so given rows.names listed rows.filters.items before after answer pairs names same judged)

  pub picked_left : answer ≡ false → (old : List KeptSpan) → TakesPicked rows before how key cells start end (Ok tt) after old old
  picked_left fails old = record { asked = answer; judged = judged_here; takes = λ spans keeps behind. left_if answer how key cells start end spans old fails }

  taken : (result : Result (Unit {0}) AskFault) (old kept : List KeptSpan) → answer ≡ true → ((spans : List Span) → KeepsSpans how old spans → StandsBehind spans key → TakesRow how key cells start end spans result kept) → PickedTaken rows before how key cells start end result after old kept
  taken result old kept is takes = record { asked = answer; judged = judged_here; takes = λ spans keeps behind. taken_if answer how key cells start end spans result old kept is (takes spans keeps behind) }

  pub picked_took : answer ≡ true → (result : Result (Unit {0}) AskFault) (old kept : List KeptSpan) → ((spans : List Span) → KeepsSpans how old spans → StandsBehind spans key → TakesRow how key cells start end spans result kept) → TakesPicked rows before how key cells start end result after old kept
  picked_took is (Ok x) old kept takes = taken (Ok x) old kept is takes
  picked_took is (Err (Duplicate time a b)) old kept takes = taken (Err (Duplicate time a b)) old kept is takes
  picked_took is (Err OutOfMemory) old kept takes = tt
  picked_took is (Err (TooManyBuckets count)) old kept takes = taken (Err (TooManyBuckets count)) old kept is takes
  picked_took is (Err (BadFilter index)) old kept takes = taken (Err (BadFilter index)) old kept is takes
  picked_took is (Err (Unknown kind name)) old kept takes = taken (Err (Unknown kind name)) old kept is takes
  picked_took is (Err (Overflow time)) old kept takes = taken (Err (Overflow time)) old kept is takes
  picked_took is (Err Stopped) old kept takes = taken (Err Stopped) old kept is takes

-- One row that was found, and what is taken of it.
use Rattle.std.proofs.Common.{◌≡◌, ℕ, inl, inr, ◌+◌, ◌*◌, ◌<◌, ◌≤◌, List, [], ◌∷◌, length, refl, sym, ap, subst, arith}
use Rattle.std.specs.Prelude.{ℤ, Bool, true, false, All, OnOk, Option, Result, Ok, Err}
use Rattle.std.specs.List.{AllByRecursion}
use Rattle.std.proofs.lemmas.List.Elements.{recursion_from_All}
use Rattle.row_key.specs.declared.keys.RowKey.{RowKey}
use Rattle.tsd_base.specs.declared.kinds.Down.{Down}
use Rattle.tsd_base.specs.Dots.{IsAboveAll}
use Rattle.qual_codec.specs.declared.cells.Cell.{Cell}
use Rattle.cell_model.specs.Seen.{Seen}
use Rattle.span_merge.specs.Spans.{Span, KeptSpan, KeepsSpans, HasAdded, added, dots_of}
use Rattle.metric_scan.specs.declared.fault.AskFault.{AskFault}
use Rattle.metric_scan.specs.declared.fault.AskFault.TheVariants.{TooManyBuckets, BadFilter, Unknown, Duplicate, Overflow, OutOfMemory, Stopped}
use Rattle.cell_model.specs.Calls.{Leaves}
use Rattle.metric_scan.specs.AskFaults.{is_stop}
use Rattle.query_run.specs.RowDots.{HasDots, DotsAsked}
use Rattle.query_run.specs.Collection.{StandsBehind, AddsKept, RowTaken, TakesRow, TakesIf}
use Rattle.query_run.proofs.Lower as lower

-- ---- a fault of its points

pub dots_failed : (how : Option Down) (key : RowKey) (cells : List Cell) (start end : ℕ) (spans : List Span) (kept : List KeptSpan) (fault : AskFault) → DotsAsked cells key.base start end (Err fault) → TakesRow how key cells start end spans (Err fault) kept
dots_failed how key cells start end spans kept (Duplicate time a b) asked = asked
dots_failed how key cells start end spans kept OutOfMemory asked = tt
dots_failed how key cells start end spans kept (TooManyBuckets count) asked = absurd asked
dots_failed how key cells start end spans kept (BadFilter index) asked = absurd asked
dots_failed how key cells start end spans kept (Unknown kind name) asked = absurd asked
dots_failed how key cells start end spans kept (Overflow time) asked = absurd asked
dots_failed how key cells start end spans kept Stopped asked = absurd asked

-- ---- all was taken

pub row_taken : (how : Option Down) (key : RowKey) (cells : List Cell) (start end : ℕ) (pairs : List (ℕ × ℕ)) (dots : List (ℕ × ℤ)) (spans : List Span) (kept : List KeptSpan) → pairs ≡ key.pairs.items → HasDots cells key.base start end dots → AddsKept how spans pairs dots kept → RowTaken how key cells start end spans kept
row_taken how key cells start end pairs dots spans kept same has adds = record { dots = dots; has = has; added = subst (λ (l : List (ℕ × ℕ)). AddsKept how spans l dots kept) same adds }

-- ---- the points are above those of earlier hours

above_more : (low time : ℕ) (dots : List (ℕ × ℤ)) → low ≤ time → AllByRecursion (λ (d : ℕ × ℤ). d.0 < low) dots → IsAboveAll time dots
above_more low time [] le all = tt
above_more low time (d ∷ dots) le all = let first = all.0 in (omega (arith, first, le), above_more low time dots le all.1)

pub may_add : (key : RowKey) (cells : List Cell) (start end : ℕ) (pairs : List (ℕ × ℕ)) (spans : List Span) (dots : List (ℕ × ℤ)) → StandsBehind spans key → pairs ≡ key.pairs.items → HasDots cells key.base start end dots → All (λ d. IsAboveAll d.0 (dots_of spans pairs)) dots
may_add key cells start end pairs spans dots behind same has =
    lower.all_of (λ d. IsAboveAll d.0 (dots_of spans pairs)) dots (λ d c.
    let w = has.each d c in
    let time : d.0 ≡ key.base * 1000 + w.0.item.offset = ap (λ (x : ℕ × ℤ). x.0) w.2 in
    subst (λ (l : List (ℕ × ℕ)). IsAboveAll d.0 (dots_of spans l)) (sym same)
    (above_more (key.base * 1000) d.0 (dots_of spans key.pairs.items) (omega (arith, time)) (recursion_from_All (λ (x : ℕ × ℤ). x.0 < key.base * 1000) (dots_of spans key.pairs.items) behind)))

-- ---- what is kept of them

pub on_ok : {A E P Q : Type 0} (r : Result A E) → (P → Q) → OnOk r P → OnOk r Q
on_ok (Ok x) f p = f p
on_ok (Err e) f p = p

pub adds_none : (how : Option Down) (kept : List KeptSpan) (pairs : List (ℕ × ℕ)) (dots : List (ℕ × ℤ)) → length dots ≡ 0 → (spans : List Span) → KeepsSpans how kept spans → AddsKept how spans pairs dots kept
adds_none how kept pairs dots none spans keeps = record { more = spans; adds = inl (empty dots none, refl); keeps = keeps }
  where
    empty : (l : List (ℕ × ℤ)) → length l ≡ 0 → l ≡ []
    empty [] e = refl
    empty (d ∷ l) e = absurd (omega (arith, e))

pub adds_some : (how : Option Down) (kept new : List KeptSpan) (pairs : List (ℕ × ℕ)) (dots : List (ℕ × ℤ)) → 1 ≤ length dots → HasAdded how kept pairs dots new → (spans : List Span) → KeepsSpans how kept spans → All (λ d. IsAboveAll d.0 (dots_of spans pairs)) dots → AddsKept how spans pairs dots new
adds_some how kept new pairs dots some has spans keeps above = record { more = added spans pairs dots; adds = inr (some, refl); keeps = has spans keeps above }

-- it is no stop
no_stop : {T : Type 0} (how : Option Down) (key : RowKey) (cells : List Cell) (start end : ℕ) (spans : List Span) (kept : List KeptSpan) (fault : AskFault) (seen : Seen) (before now : ℕ) → TakesRow how key cells start end spans (Err fault) kept → before ≤ now → Leaves {T = T} is_stop (Err fault) seen before now
no_stop how key cells start end spans kept (Duplicate time a b) seen before now t le = record { possible = tt; grows = le; rose = tt }
no_stop how key cells start end spans kept OutOfMemory seen before now t le = record { possible = tt; grows = le; rose = tt }
no_stop how key cells start end spans kept (TooManyBuckets count) seen before now t le = absurd t
no_stop how key cells start end spans kept (BadFilter index) seen before now t le = absurd t
no_stop how key cells start end spans kept (Unknown kind name) seen before now t le = absurd t
no_stop how key cells start end spans kept (Overflow time) seen before now t le = absurd t
no_stop how key cells start end spans kept Stopped seen before now t le = absurd t

pub no_stop_if : {T : Type 0} (answer : Bool) (how : Option Down) (key : RowKey) (cells : List Cell) (start end : ℕ) (spans : List Span) (old kept : List KeptSpan) (fault : AskFault) (seen : Seen) (before now : ℕ) → TakesIf answer how key cells start end spans (Err fault) old kept → before ≤ now → Leaves {T = T} is_stop (Err fault) seen before now
no_stop_if true how key cells start end spans old kept fault seen before now t le = no_stop how key cells start end spans kept fault seen before now t le
no_stop_if false how key cells start end spans old kept fault seen before now t le = absurd t

-- ---- it was asked for, or not

pub taken_if : (answer : Bool) (how : Option Down) (key : RowKey) (cells : List Cell) (start end : ℕ) (spans : List Span) (result : Result (Unit {0}) AskFault) (old kept : List KeptSpan) → answer ≡ true → TakesRow how key cells start end spans result kept → TakesIf answer how key cells start end spans result old kept
taken_if answer how key cells start end spans result old kept is t = subst (λ (b : Bool). TakesIf b how key cells start end spans result old kept) (sym is) t

pub left_if : (answer : Bool) (how : Option Down) (key : RowKey) (cells : List Cell) (start end : ℕ) (spans : List Span) (old : List KeptSpan) → answer ≡ false → TakesIf answer how key cells start end spans (Ok tt) old old
left_if answer how key cells start end spans old is = subst (λ (b : Bool). TakesIf b how key cells start end spans (Ok tt) old old) (sym is) refl

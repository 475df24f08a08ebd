-- Facts hold as long as nothing that was seen is lost.
use Rattle.std.proofs.Common.{◌≡◌, ◌⊎◌, inl, inr, ℕ, Bool, true, false, List, [], ◌∷◌, ◌++◌, ◌≤◌, length, take, drop, subst, sym, ap, ◌∙◌}
use Rattle.std.specs.Str.{bytes_eq}
use Rattle.std.proofs.lemmas.List.{take-append-drop, length-take-le}
use Rattle.std.proofs.lemmas.Slice.Eq.{slice_eq-Decides}
use Rattle.std.proofs.lemmas.Bool.Decides.{Decides-eqb}
use Rattle.cell_model.specs.Ranges.{SameMetric}
use Rattle.cell_model.specs.KindWidths.{Widths}
use Rattle.std.specs.Prelude.{Contains, Option, None, Some, if◌then◌else◌}
use Rattle.qual_codec.specs.declared.cells.Cell.{Cell as RowCell}
use Rattle.tsd_base.specs.declared.kinds.Kind.{Kind}
use Rattle.tsd_base.specs.Points.{DataPoint}
use Rattle.cell_model.specs.declared.row.Row.{Row}
use Rattle.cell_model.specs.declared.row.Found.{Found}
use Rattle.row_key.specs.declared.tables.Table.{Table}
use Rattle.cell_model.specs.declared.answers.Bumped.{Bumped}
use Rattle.cell_model.specs.declared.answers.Bumped.TheVariants.{Full, Given as GivenId}
use Rattle.cell_model.specs.declared.answers.Claimed.{Claimed as Answer}
use Rattle.cell_model.specs.declared.answers.Claimed.TheVariants.{Done, Held}
use Rattle.cell_model.specs.declared.events.Entry.{Entry}
use Rattle.cell_model.specs.declared.events.Step.TheVariants.{Read, NextRow, Bump, Claim as ClaimStep, PutPoint, PutMerged}
use Rattle.cell_model.specs.declared.events.Reply.TheVariants.{Shown, Next, BumpReply, ClaimReply, Written}
use Rattle.cell_model.specs.Lawful.{given}
use Rattle.cell_model.specs.Seen.{Seen, Saw, KnowsCell, Stepped}
use Rattle.cell_model.specs.Seen.Shows.{by_read, by_next, by_claim, by_held, by_point, by_merged}
use Rattle.test_rows.specs.declared.fact.Fact.{Fact}
use Rattle.test_rows.specs.declared.fact.Fact.TheVariants.{Cell, Claim, Given}
use Rattle.test_rows.specs.Facts.{Holds, AllHold, IsShown, ShowsAll, ShowsClaim, ShowsFound, ShowsBump}
use Rattle.list_lemmas.proofs.ListMembers.{not_in, here, there as behind, split}

pub nothing_holds : (s : Seen) → AllHold s []
nothing_holds s f c = absurd (not_in f c)

-- what is in a list with one more is that one, or was there before
pub last_or_before : {X : Type 0} (xs : List X) (x y : X) → Contains (xs ++ x ∷ []) y → (x ≡ y) ⊎ Contains xs y
last_or_before [] x y c = split x y [] c
last_or_before {X = X} (z ∷ xs) x y c = at (split z y (xs ++ x ∷ []) c) (last_or_before xs x y)
  where
    at : (z ≡ y) ⊎ Contains (xs ++ x ∷ []) y → (Contains (xs ++ x ∷ []) y → (x ≡ y) ⊎ Contains xs y) → (x ≡ y) ⊎ Contains (z ∷ xs) y
    at (inl same) go = inr (subst (λ (w : X). Contains (z ∷ xs) w) same (here z xs))
    at (inr more) go = elim (go more) [ inl same ↦ inl same | inr before ↦ inr (behind z y xs before) ]

-- and one more
holds_too : (s : Seen) (facts : List Fact) (fact : Fact) → AllHold s facts → Holds s fact → AllHold s (facts ++ fact ∷ [])
holds_too s facts fact all one f c = at (last_or_before facts fact f c)
  where
    at : (fact ≡ f) ⊎ Contains facts f → Holds s f
    at (inl same) = subst (Holds s) same one
    at (inr before) = all f before

-- and one more where there was memory for it
pub holds_noted : (s : Seen) (facts new : List Fact) (fact : Fact) (pushed : Bool) → new ≡ (if pushed then facts ++ fact ∷ [] else facts) → AllHold s facts → Holds s fact → AllHold s new
holds_noted s facts new fact true is all one = subst (AllHold s) (sym is) (holds_too s facts fact all one)
holds_noted s facts new fact false is all one = subst (AllHold s) (sym is) all

-- what was seen stays seen
pub cell_kept : (s t : Seen) (row : Row) (qual value : List ℕ) → ((place : ℕ) (e : Entry) → Saw s place e → Saw t place e) → KnowsCell s row qual value → KnowsCell t row qual value
cell_kept s t row qual value kept k = (k.0, k.1, kept k.0 k.1 k.2, k.3)

holds_kept : (s t : Seen) (f : Fact) → ((place : ℕ) (e : Entry) → Saw s place e → Saw t place e) → Holds s f → Holds t f
holds_kept s t (Cell row qual value version) kept h = cell_kept s t row qual value kept h
holds_kept s t (Claim row qual value) kept h = (h.0, h.1, kept h.0 _ h.2)
holds_kept s t (Given caller kind id) kept h = (h.0, kept h.0 _ h.1)

pub all_kept : (s t : Seen) (facts : List Fact) → ((place : ℕ) (e : Entry) → Saw s place e → Saw t place e) → AllHold s facts → AllHold t facts
all_kept s t facts kept all f c = holds_kept s t f kept (all f c)

-- what a step shows
pub read_shows : (s t : Seen) (row : Row) (cells : List RowCell) → Stepped s (Read row) (Shown cells) t → ShowsAll t row cells
read_shows s t row cells step qual value is = (t.length, _, step.stepped, by_read is)

pub next_shows : (s t : Seen) (table : Table) (from to : List ℕ) (found : Option Found) → Stepped s (NextRow table from to) (Next found) t → ShowsFound t found
next_shows s t table from to None step = tt
next_shows s t table from to (Some found) step = λ qual value is. (t.length, _, step.stepped, by_next is)

pub bump_shows : (s t : Seen) (kind : Kind) (bumped : Bumped) (caller : ℕ) → Stepped s (Bump kind) (BumpReply bumped) t → caller ≡ s.caller → ShowsBump t caller kind bumped
bump_shows s t kind Full caller step is = tt
bump_shows s t kind (GivenId id) caller step is = (t.length, subst (λ (n : ℕ). Saw t t.length (given n kind id)) (sym is) step.stepped)

pub claim_shows : (s t : Seen) (row : Row) (qual value : List ℕ) (answer : Answer) → Stepped s (ClaimStep row qual value) (ClaimReply answer) t → ShowsClaim t row qual value answer
claim_shows s t row qual value Done step = ((t.length, _, step.stepped, by_claim), (t.length, s.caller, step.stepped))
claim_shows s t row qual value (Held held) step = (t.length, _, step.stepped, by_held)

pub point_shows : (s t : Seen) (point : DataPoint) (row : Row) (qual value at list : List ℕ) → Stepped s (PutPoint point row qual value) Written t → at ≡ qual → list ≡ value → KnowsCell t row at list
point_shows s t point row qual value at list step at_is is = subst (λ (q : List ℕ). KnowsCell t row q list) (sym at_is) (subst (KnowsCell t row qual) (sym is) (t.length, _, step.stepped, by_point))

pub merge_shows : (s t : Seen) (row : Row) (qual value at list : List ℕ) → Stepped s (PutMerged row qual value) Written t → at ≡ qual → list ≡ value → KnowsCell t row at list
merge_shows s t row qual value at list step at_is is = subst (λ (q : List ℕ). KnowsCell t row q list) (sym at_is) (subst (KnowsCell t row qual) (sym is) (t.length, _, step.stepped, by_merged))

-- a cell that the facts show is known
pub shown_known : (s : Seen) (facts : List Fact) (row : Row) (qual value : List ℕ) → AllHold s facts → IsShown facts row qual value → KnowsCell s row qual value
shown_known s facts row qual value all shown = all _ shown.among

-- two byte strings with one front of so many bytes are of one metric
pub same_metric : (w : Widths) (from to : List ℕ) (r : Bool) → r ≡ bytes_eq (take w.metric from) (take w.metric to) → w.metric ≤ length from → r ≡ true → SameMetric w from to
same_metric w from to r tested long holds =
    let same = (slice_eq-Decides Decides-eqb (take w.metric from) (take w.metric to) r tested).0 holds in
    record {
      metric = take w.metric from;
      from_rest = drop w.metric from;
      to_rest = drop w.metric to;
      whole = length-take-le w.metric from long;
      from_is = sym (take-append-drop w.metric from);
      to_is = sym (take-append-drop w.metric to) ∙ ap (λ (front : List ℕ). front ++ drop w.metric to) (sym same);
    }

-- Reading lines one after the other.
use Rattle.std.proofs.Common.{◌≡◌, ℕ, ◌+◌, ◌^◌, ◌<◌, ◌≤◌, false, List, [], ◌∷◌, ◌++◌, length, take, drop, refl, sym, ap, subst, ◌∙◌, append_assoc, append-nil, add-zero, arith, cond, lt-ltb, length-append}
use Rattle.std.specs.Prelude.{codes, Option, Some, None, Result, Ok, Err}
use Rattle.point_lines.specs.NameIds.{Names}
use Rattle.batch_run.specs.declared.input.BadLine.{BadLine}
use Rattle.std.specs.Io.KnownBytes.{Appends, Consumes}
use Rattle.std.proofs.KnownBytes.{Appends-nil, Consumes-nil, Appends-trans, Consumes-trans}
use Rattle.tsd_base.specs.Points.{DataPoint}
use Rattle.batch_job.specs.Pending.{Gathers, SoFar}
use Rattle.tsd_base.specs.declared.kinds.Kind.{Kind}
use Rattle.cell_model.specs.Layout.{names_of}
use Rattle.std.specs.Prelude.{is_some}
use Rattle.std.proofs.lemmas.Bool.{true≢false}
use Rattle.std.proofs.lemmas.Bool.Decides.{nat_tests}
use Rattle.batch_job.specs.NotedIds.{no_names, noted_all, exhausted_text}
use Rattle.std.specs.Global.{Vec}
use Rattle.batch_job.specs.AddedTexts.{AddsText}
use Rattle.batch_job.specs.Pending.{AddsPoint}
use Rattle.batch_job.specs.declared.point_line.LineOutcome.TheVariants as outcome
use Rattle.batch_job.specs.PointLines.{Judged, judged, judged_text, points_from, points_of, with_point, with_line, with_points}
use Rattle.point_lines.specs.LinePoints.Judged.{Blank, Taken, Refused}
use Rattle.batch_run.specs.Inputs.{IsRead, IsBad, ReadsLine, IsUnrefused, full_text, refusal}
use Rattle.batch_job.proofs.CallerLemmas.{ok_is}
use Rattle.line_stream.specs.declared.line.TheConstants.{LONGEST_LINE}
use Rattle.line_stream.specs.Lines.{Line, Splits, is_too_long, last_line, lines_of, text_of, whole_line}
use Rattle.line_stream.specs.LineReadings.{Reading}
use Rattle.line_stream.specs.Reads.{BeginsTooLong, BeginsWithLine, Finds, IsFront, NextLineIs, no_bytes, with_bytes, without_line}
use Rattle.line_stream.specs.declared.reader.InputFault.{InputFault}
use Rattle.line_stream.specs.declared.reader.NextLine.{NextLine}
use Rattle.line_stream.proofs.CallerLemmas.{lines_at_end, splits_more, splits_none, splits_with}

-- a line that is refused behind lines that were read
abbrev or_nothing : Option (List ℕ) → List ℕ
or_nothing None = []
or_nothing (Some text) = text

none_is_not_some : {text : List ℕ} → ◌≡◌ {A = Option (List ℕ)} None (Some text) → ⊥
none_is_not_some e = true≢false (sym (ap is_some e))

full_line : (p : DataPoint) (number : ℕ) (r : Result Names Kind) (text : List ℕ) (rest : Names → Result (List DataPoint) (ℕ × List ℕ)) → full_text r ≡ Some text → with_point p number r rest ≡ Err (number, text)
full_line p number (Ok names) text rest e = absurd (none_is_not_some e)
full_line p number (Err kind) text rest e = ap (λ o. Err (number, or_nothing o)) e

refused_line : (names : Names) (j : Judged) (number : ℕ) (text : List ℕ) (rest : Names → Result (List DataPoint) (ℕ × List ℕ)) → refusal names j ≡ Some text → with_line j number names rest ≡ Err (number, text)
refused_line names Blank number text rest e = absurd (none_is_not_some e)
refused_line names (Taken p) number text rest e = full_line p number (noted_all names (names_of p)) text rest e
refused_line names (Refused t) number text rest e = ap (λ o. Err (number, or_nothing o)) e

-- ---- one more line
with_points_twice : (xs ys : List DataPoint) (r : Result (List DataPoint) (ℕ × List ℕ)) → with_points xs (with_points ys r) ≡ with_points (xs ++ ys) r
with_points_twice xs ys (Ok zs) = ap Ok (sym (append_assoc xs ys zs))
with_points_twice xs ys (Err refusal) = refl

-- the place of what comes behind one more line
one_behind : (number : ℕ) (lines : List Line) (line : Line) → number + length lines + 1 ≡ number + length (lines ++ line ∷ [])
one_behind number lines line = let grown = length-append lines (line ∷ []) in omega (arith, grown)

-- behind lines that were read, further ones of the bytes were
pub record ReadsFurther (bytes rest : List ℕ) (lines : List Line) (c : SoFar) (count : ℕ) : Type 0 where
  pub more : List Line
  pub splits : Splits bytes more rest
  pub reads : IsRead (lines ++ more) c
  pub count_is : length (lines ++ more) ≡ count

pub refused_behind : (lines : List Line) (c : SoFar) (line : Line) (others : List Line) (bad : BadLine) → (r : IsRead lines c) → IsBad r.gathers.names line (1 + length lines) bad → points_from 1 no_names (lines ++ line ∷ others) ≡ Err (bad.number, bad.text.items)
refused_behind lines c line others bad r b =
    r.first 1 (line ∷ others)
    ∙ ap (with_points r.points) (refused_line r.gathers.names (judged line) (1 + length lines) bad.text.items (λ more. points_from (1 + length lines + 1) more others) b.0)
    ∙ ap (λ n. Err (n, bad.text.items)) (sym b.1)

pub blank_read : (line : Line) (number : ℕ) (c : SoFar) → judged line ≡ Blank → ReadsLine line number c c None
blank_read line number c is lines r = record {
  points = r.points;
  gathers = r.gathers;
  first = λ n more.
      ap (points_from n no_names) (append_assoc lines (line ∷ []) more) ∙ r.first n (line ∷ more)
      ∙ ap (λ j. with_points r.points (with_line j (n + length lines) r.gathers.names (λ names. points_from (n + length lines + 1) names more))) is
      ∙ ap (λ k. with_points r.points (points_from k r.gathers.names more)) (one_behind n lines line);
}

pub point_read : (line : Line) (number : ℕ) (old new : SoFar) (p : DataPoint) → judged line ≡ Taken p → AddsPoint old p None new → ReadsLine line number old new None
point_read line number old new p is adds lines r =
    let added = adds r.points r.gathers in
    record {
      points = r.points ++ p ∷ [];
      gathers = added.0;
      first = λ n more.
          ap (points_from n no_names) (append_assoc lines (line ∷ []) more) ∙ r.first n (line ∷ more)
          ∙ ap (λ j. with_points r.points (with_line j (n + length lines) r.gathers.names (λ names. points_from (n + length lines + 1) names more))) is
          ∙ ap (λ o. with_points r.points (with_point p (n + length lines) o (λ names. points_from (n + length lines + 1) names more))) added.1
          ∙ with_points_twice r.points (p ∷ []) (points_from (n + length lines + 1) added.0.names more)
          ∙ ap (λ k. with_points (r.points ++ p ∷ []) (points_from k added.0.names more)) (one_behind n lines line);
    }

pub point_full : (line : Line) (old new : SoFar) (p : DataPoint) (kind : Kind) (text : List ℕ) → judged line ≡ Taken p → AddsPoint old p (Some kind) new → text ≡ exhausted_text kind → (lines : List Line) → (r : IsRead lines old) → refusal r.gathers.names (judged line) ≡ Some text
point_full line old new p kind text is adds told lines r = ap (refusal r.gathers.names) is ∙ ap full_text (adds.0 r.points r.gathers) ∙ ap Some (sym told)

-- one more line was read
pub read_on : (bytes rest : List ℕ) (n : ℕ) (lines : List Line) (c d : SoFar) (count : ℕ) → BeginsWithLine LONGEST_LINE rest n → ReadsFurther bytes rest lines c count → ReadsLine (whole_line (take n rest)) (count + 1) c d None
    → ReadsFurther bytes (drop (n + 1) rest) lines d (count + 1)
read_on bytes rest n lines c d count t f one =
    let line : Line = whole_line (take n rest) in
    let regroup : (lines ++ f.more) ++ line ∷ [] ≡ lines ++ (f.more ++ line ∷ []) = append_assoc lines f.more (line ∷ []) in
    record {
      more = f.more ++ line ∷ [];
      splits = splits_more bytes rest (drop (n + 1) rest) f.more (line ∷ []) f.splits t.splits;
      reads = subst (λ (ls : List Line). IsRead ls d) regroup (one (lines ++ f.more) f.reads);
      count_is = (let grown = length-append (lines ++ f.more) (line ∷ []) in let same = ap length regroup in let was = f.count_is in omega (arith, grown, same, was));
    }

-- one more line is refused
pub refuse_on : (bytes rest : List ℕ) (n : ℕ) (c d : SoFar) (count : ℕ) (bad : BadLine) → BeginsWithLine LONGEST_LINE rest n → ReadsFurther bytes rest [] c count → ReadsLine (whole_line (take n rest)) (count + 1) c d (Some bad)
    → (more : List ℕ) → points_of (bytes ++ more) ≡ Err (bad.number, bad.text.items)
refuse_on bytes rest n c d count bad t f b more =
    let line : Line = whole_line (take n rest) in
    let others : List Line = lines_of (drop (n + 1) rest ++ more) in
    let told = b f.more f.reads in
    let is_bad : IsBad f.reads.gathers.names line (1 + length f.more) bad = (told.0, told.1 ∙ (let was = f.count_is in omega (arith, was))) in
    ap (points_from 1 no_names) (f.splits more ∙ ap (λ ls. f.more ++ ls) (t.splits more)) ∙ refused_behind f.more c line others bad f.reads is_bad

-- these bytes were taken, and all lines of them up to the bytes that aren't used up were read
pub record HasRead (taken taken' left left' : Option (List ℕ)) (c : SoFar) (r : Reading) : Type 0 where
  pub input : List ℕ
  pub takes : Appends taken taken' input
  pub leaves : Consumes left left' input
  pub size : length input ≡ r.taken
  pub longest : r.longest ≡ LONGEST_LINE
  pub reads : ReadsFurther input r.bytes [] c r.lines

-- nothing was read yet
pub nothing_read : (taken left : Option (List ℕ)) (c : SoFar) → Gathers [] c → HasRead taken taken left left c (no_bytes LONGEST_LINE)
nothing_read taken left c empty = record {
  input = [];
  takes = Appends-nil taken;
  leaves = Consumes-nil left;
  size = refl;
  longest = refl;
  reads = record {
    more = [];
    splits = splits_none [];
    reads = record {
      points = [];
      gathers = empty;
      first = λ number more. sym (no_points (points_from (number + 0) empty.names more) ∙ ap (λ n. points_from n empty.names more) (add-zero number) ∙ ap (λ names. points_from number names more) (sym (ok_is no_names empty.names empty.noted)));
    };
    count_is = refl;
  };
}
  where
    no_points : (read : Result (List DataPoint) (ℕ × List ℕ)) → with_points [] read ≡ read
    no_points (Ok points) = refl
    no_points (Err refusal) = refl

long_judged : (line : Line) → LONGEST_LINE < length line.bytes → judged line ≡ Refused (codes "line too long")
long_judged line long = ap (λ t. cond t (Refused (codes "line too long")) (judged_text (text_of line))) (lt-ltb LONGEST_LINE (length line.bytes) long)

pub short_judged : (line : Line) → length line.bytes ≤ LONGEST_LINE → judged line ≡ judged_text (text_of line)
short_judged line short = ap (λ t. cond t (Refused (codes "line too long")) (judged_text (text_of line))) fits
  where
    fits : is_too_long line.bytes ≡ false
    fits = grind (arith, nat_tests, short)

-- the next line is too long
pub too_long_further : (input rest : List ℕ) (count : ℕ) (c : SoFar) (bad : BadLine) → ReadsFurther input rest [] c count → BeginsTooLong LONGEST_LINE rest → bad.text.items ≡ codes "line too long" → bad.number ≡ count + 1
    → (more : List ℕ) → points_of (input ++ more) ≡ Err (bad.number, bad.text.items)
too_long_further input rest count c bad f long text number more =
    let b = long more in
    let count_is = f.count_is in
    ap (points_from 1 no_names) (f.splits more ∙ ap (λ ls. f.more ++ ls) b.is)
    ∙ refused_behind f.more c b.line b.others bad f.reads (ap (refusal f.reads.gathers.names) (long_judged b.line b.long) ∙ ap Some (sym text), number ∙ omega (arith, count_is))

-- further bytes were taken
taken_further : (input rest bytes : List ℕ) (count : ℕ) (c : SoFar) → ReadsFurther input rest [] c count → ReadsFurther (input ++ bytes) (rest ++ bytes) [] c count
taken_further input rest bytes count c f = record { more = f.more; splits = splits_with input rest bytes f.more f.splits; reads = f.reads; count_is = f.count_is }

pub unrefused : (input rest : List ℕ) (count : ℕ) (c : SoFar) → ReadsFurther input rest [] c count → IsFront LONGEST_LINE rest → IsUnrefused input
unrefused input rest count c f front = record { lines = f.more; rest = rest; splits = f.splits; read = (f.reads.points, ap (points_from 1 no_names) (sym (append-nil f.more)) ∙ f.reads.first 1 [] ∙ ap Ok (append-nil f.reads.points)); front = front }

pub record AllRead (input : List ℕ) (c : SoFar) : Type 0 where
  pub points : List DataPoint
  pub is : points_of input ≡ Ok points
  pub gathers : Gathers points c

pub all_read : (input rest : List ℕ) (count : ℕ) (c d : SoFar) → ReadsFurther input rest [] c count → IsFront LONGEST_LINE rest → ReadsLine (last_line rest) (count + 1) c d None → AllRead input d
all_read input rest count c d f front one =
    let all = one f.more f.reads in
    record {
      points = all.points;
      is = ap (points_from 1 no_names) (lines_at_end input rest f.more f.splits front.whole ∙ sym (append-nil (f.more ++ last_line rest ∷ []))) ∙ all.first 1 [] ∙ ap Ok (append-nil all.points);
      gathers = all.gathers;
    }

pub last_refused : (input rest : List ℕ) (count : ℕ) (c d : SoFar) (bad : BadLine) → ReadsFurther input rest [] c count → IsFront LONGEST_LINE rest → ReadsLine (last_line rest) (count + 1) c d (Some bad)
    → points_of input ≡ Err (bad.number, bad.text.items)
last_refused input rest count c d bad f front b =
    let count_is = f.count_is in
    let told = b f.more f.reads in
    ap (points_from 1 no_names) (lines_at_end input rest f.more f.splits front.whole) ∙ refused_behind f.more c (last_line rest) [] bad f.reads (told.0, told.1 ∙ omega (arith, count_is))

module _ (taken taken' taken'' left left' left'' : Option (List ℕ)) (c : SoFar) (old new : Reading) (h : HasRead taken taken' left left' c old) where
  -- the next line was looked for
  pub looked_for : (result : Result NextLine InputFault) (n : NextLineIs taken' taken'' left' left'' old result new) → HasRead taken taken'' left left'' c (with_bytes old n.more)
  looked_for result n = record {
    input = h.input ++ n.more;
    takes = Appends-trans taken taken' taken'' h.input n.more h.takes n.takes;
    leaves = Consumes-trans left left' left'' h.input n.more h.leaves n.leaves;
    size = (let grown = length-append h.input n.more in let was = h.size in omega (arith, grown, was));
    longest = h.longest;
    reads = taken_further h.input old.bytes n.more old.lines c h.reads;
  }

  -- and found
  pub found : (line : NextLine) → NextLineIs taken' taken'' left' left'' old (Ok line) new → HasRead taken taken'' left left'' c new × Finds left'' new (Ok line) × (new.taken ≤ 2 ^ 40)
  found line n = (
    subst (HasRead taken taken'' left left'' c) (sym n.keeps) (looked_for (Ok line) n),
    subst (λ (r : Reading). Finds left'' r (Ok line)) (sym n.keeps) n.finds,
    (let is = ap (λ (r : Reading). r.taken) n.keeps in let most = n.most in omega (arith, is, most)),
  )

-- a line was read
pub line_read : (taken taken' left left' : Option (List ℕ)) (c d : SoFar) (r : Reading) (end : ℕ) → HasRead taken taken' left left' c r → BeginsWithLine r.longest r.bytes end → ReadsLine (whole_line (take end r.bytes)) (r.lines + 1) c d None
    → HasRead taken taken' left left' d (without_line r end)
line_read taken taken' left left' c d r end h t one = record { input = h.input; takes = h.takes; leaves = h.leaves; size = h.size; longest = h.longest; reads = read_on h.input r.bytes end [] c d r.lines (subst (λ (n : ℕ). BeginsWithLine n r.bytes end) h.longest t) h.reads one }

-- ---- what became of the text of a line that isn't too long
pub line_blank : (line : Line) (number : ℕ) (old new : SoFar) → length line.bytes ≤ LONGEST_LINE → AddsText old (judged_text (text_of line)) outcome.Blank new → ReadsLine line number old new None
line_blank line number old new short (is, same) = subst (λ (s : SoFar). ReadsLine line number old s None) (sym same) (blank_read line number old (short_judged line short ∙ is))

pub line_taken : (line : Line) (number : ℕ) (old new : SoFar) → length line.bytes ≤ LONGEST_LINE → AddsText old (judged_text (text_of line)) outcome.Taken new → ReadsLine line number old new None
line_taken line number old new short (p, is, adds) = point_read line number old new p (short_judged line short ∙ is) adds

pub line_full : (line : Line) (number : ℕ) (old new : SoFar) (kind : Kind) (bad : BadLine) → length line.bytes ≤ LONGEST_LINE → AddsText old (judged_text (text_of line)) (outcome.Full kind) new → bad.text.items ≡ exhausted_text kind → bad.number ≡ number
    → ReadsLine line number old new (Some bad)
line_full line number old new kind bad short (p, is, adds) told counted = λ lines read. (point_full line old new p kind bad.text.items (short_judged line short ∙ is) adds told lines read, counted)

pub line_refused : (line : Line) (number : ℕ) (old new : SoFar) (text : Vec ℕ) → length line.bytes ≤ LONGEST_LINE → AddsText old (judged_text (text_of line)) (outcome.Refused text) new → ReadsLine line number old new (Some (record { number = number; text = text }))
line_refused line number old new text short (is, same) = λ lines read. (ap (refusal read.gathers.names) (short_judged line short ∙ is), refl)

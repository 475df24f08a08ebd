-- Lines that were accepted one after the other, and how an import ends.
use Rattle.std.proofs.Common.{◌≡◌, inl, inr, ⊎_elim, ℕ, ◌+◌, ◌^◌, ◌<◌, ◌≤◌, Bool, true, false, cond, List, [], ◌∷◌, ◌++◌, length, take, drop, refl, sym, ap, subst, ◌∙◌, append-nil, arith, lt-ltb, length-append}
use Rattle.std.specs.Prelude.{Option, Result, Ok, Err, codes}
use Rattle.std.specs.Io.KnownBytes.{Appends, Consumes, IsAtEnd}
use Rattle.std.proofs.KnownBytes.{Appends-nil, Appends-trans, Consumes-nil, Consumes-trans}
use Rattle.std.proofs.lemmas.Bool.{false≢true}
use Rattle.std.proofs.lemmas.Bool.Decides.{nat_tests}
use Rattle.tsd_base.specs.Points.{DataPoint, point_of}
use Rattle.tsd_hooks.specs.declared.name_patterns.Patterns.{Patterns}
use Rattle.tsd_io.specs.Causes.{Rose}
use Rattle.cell_model.specs.declared.answers.RowsFault.TheVariants as rows
use Rattle.cell_model.specs.Deeds.{Since, deeds}
use Rattle.cell_model.specs.History.{History}
use Rattle.cell_model.specs.Seen.{Seen, Fits, InEach}
use Rattle.cell_laws.proofs.CallerLemmas.{nothing_made, since_joined}
use Rattle.line_stream.specs.declared.line.TheConstants.{LONGEST_LINE}
use Rattle.line_stream.specs.declared.reader.InputFault.{InputFault}
use Rattle.line_stream.specs.declared.reader.InputFault.TheVariants as input
use Rattle.line_stream.specs.declared.reader.NextLine.{NextLine}
use Rattle.line_stream.specs.Lines.{Line, Splits, is_blank, is_too_long, last_line, lines_of, text_of, whole_line}
use Rattle.line_stream.specs.LineReadings.{Reading}
use Rattle.line_stream.specs.Reads.{BeginsTooLong, BeginsWithLine, Finds as FindsNext, IsFront, NextLineIs, no_bytes, with_bytes, without_line}
use Rattle.line_stream.proofs.CallerLemmas.{lines_at_end, splits_more, splits_none, splits_with}
use Rattle.point_lines.specs.LinePoints.{judged, judged_point, judged_text}
use Rattle.point_lines.specs.LinePoints.Judged.{Blank, Taken, Refused}
use Rattle.point_import.specs.declared.import_fault.LineFault.TheVariants.{TooLong}
use Rattle.point_import.specs.declared.import_fault.ImportFault.{ImportFault}
use Rattle.point_import.specs.declared.import_fault.ImportFault.TheVariants.{Line as BadLine, ReadFault, SessionFull, OutOfMemory, Stopped}
use Rattle.point_import.specs.ImportFaults.{ImportCause, LineCause, of_input}
use Rattle.point_import.specs.PutPoints.{PutsText}
use Rattle.point_import.specs.declared.import_point.TextOutcome.TheVariants as outcome
use Rattle.point_import.specs.ImportedLines.{Finds, ImportMade, Imports, IsBroken, IsRefused, LineMade, PutsLine, WereAccepted}
use Rattle.point_import.specs.ImportedLines.WereAccepted.{start, then_blank, then_put}

-- These bytes were taken, and all whole lines of them up to the bytes that aren't used up were accepted.
pub record HasPut (patterns : Patterns) (taken taken' left left' : Option (List ℕ)) (old now : Seen) (count : ℕ) (r : Reading) : Type 0 where
  pub input : List ℕ
  pub takes : Appends taken taken' input
  pub leaves : Consumes left left' input
  pub size : length input ≡ r.taken
  pub longest : r.longest ≡ LONGEST_LINE
  pub lines : List Line
  pub splits : Splits input lines r.bytes
  pub count_is : length lines ≡ r.lines
  pub since : Since old now
  pub accepted : InEach now (λ h. WereAccepted patterns h old.caller old.length lines count now.length)

-- nothing was taken yet
pub nothing_taken : (patterns : Patterns) (taken left : Option (List ℕ)) (s : Seen) → HasPut patterns taken taken left left s s 0 (no_bytes LONGEST_LINE)
nothing_taken patterns taken left s = record {
  input = [];
  takes = Appends-nil taken;
  leaves = Consumes-nil left;
  size = refl;
  longest = refl;
  lines = [];
  splits = splits_none [];
  count_is = refl;
  since = (nothing_made s).since;
  accepted = λ h lawful fits. start;
}

-- ---- the next line
module _ (patterns : Patterns) (taken taken' taken'' left left' left'' : Option (List ℕ)) (s now : Seen) (count : ℕ) (old new : Reading) (h : HasPut patterns taken taken' left left' s now count old) where
  -- it was looked for
  pub looked_for : (result : Result NextLine InputFault) (n : NextLineIs taken' taken'' left' left'' old result new) → HasPut patterns taken taken'' left left'' s now count (with_bytes old n.more)
  looked_for result n = record {
    input = h.input ++ n.more;
    takes = Appends-trans taken taken' taken'' h.input n.more h.takes n.takes;
    leaves = Consumes-trans left left' left'' h.input n.more h.leaves n.leaves;
    size = (let grown = length-append h.input n.more in let was = h.size in omega (arith, grown, was));
    longest = h.longest;
    lines = h.lines;
    splits = splits_with h.input old.bytes n.more h.lines h.splits;
    count_is = h.count_is;
    since = h.since;
    accepted = h.accepted;
  }

  -- and found
  pub found : (line : NextLine) → NextLineIs taken' taken'' left' left'' old (Ok line) new → HasPut patterns taken taken'' left left'' s now count new × FindsNext left'' new (Ok line) × (new.taken ≤ 2 ^ 40)
  found line n = (
    subst (HasPut patterns taken taken'' left left'' s now count) (sym n.keeps) (looked_for (Ok line) n),
    subst (λ (r : Reading). FindsNext left'' r (Ok line)) (sym n.keeps) n.finds,
    (let is = ap (λ (r : Reading). r.taken) n.keeps in let most = n.most in omega (arith, is, most)),
  )

-- ---- one more line
one_more : (patterns : Patterns) (h : History) (caller n e e2 : ℕ) (lines : List Line) (count : ℕ) (line : Line) (number more : ℕ) → WereAccepted patterns h caller n lines count e → e ≤ e2 → LineMade patterns h caller e e2 line number (Ok more)
    → WereAccepted patterns h caller n (lines ++ line ∷ []) (count + more) e2
one_more patterns h caller n e e2 lines count line number more a le (inl (none, same, blank)) =
    subst (λ (k : ℕ). WereAccepted patterns h caller n (lines ++ line ∷ []) k e2) (omega (arith, none))
    (subst (λ (k : ℕ). WereAccepted patterns h caller n (lines ++ line ∷ []) count k) (sym same) (then_blank line a blank))
one_more patterns h caller n e e2 lines count line number more a le (inr (one, (p, is, was))) =
    subst (λ (k : ℕ). WereAccepted patterns h caller n (lines ++ line ∷ []) k e2) (omega (arith, one)) (then_put line p a le is was)

module _ (patterns : Patterns) (taken taken' left left' : Option (List ℕ)) (s now : Seen) (count : ℕ) (r : Reading) (h : HasPut patterns taken taken' left left' s now count r) where
  -- what was made for a line, by the one caller
  made_for : (line : Line) (number : ℕ) (result : Result ℕ ImportFault) (new : Seen) → PutsLine patterns line number now result new → InEach new (λ g. LineMade patterns g s.caller now.length new.length line number result)
  made_for line number result new p g lawful fits = subst (λ (who : ℕ). LineMade patterns g who now.length new.length line number result) h.since.caller (p.made g lawful fits)

  accepted_more : (line : Line) (number more : ℕ) (new : Seen) → PutsLine patterns line number now (Ok more) new → InEach new (λ g. WereAccepted patterns g s.caller s.length (h.lines ++ line ∷ []) (count + more) new.length)
  accepted_more line number more new p g lawful fits =
      one_more patterns g s.caller s.length now.length new.length h.lines count line number more (h.accepted g lawful (p.since.extends.fits g fits)) p.since.extends.length (made_for line number (Ok more) new p g lawful fits)

  -- a whole line was accepted
  pub line_put : (end number more : ℕ) (new : Seen) → BeginsWithLine r.longest r.bytes end → PutsLine patterns (whole_line (take end r.bytes)) number now (Ok more) new → HasPut patterns taken taken' left left' s new (count + more) (without_line r end)
  line_put end number more new t p =
      let line : Line = whole_line (take end r.bytes) in
      record {
        input = h.input;
        takes = h.takes;
        leaves = h.leaves;
        size = h.size;
        longest = h.longest;
        lines = h.lines ++ line ∷ [];
        splits = splits_more h.input r.bytes (drop (end + 1) r.bytes) h.lines (line ∷ []) h.splits t.splits;
        count_is = (let grown = length-append h.lines (line ∷ []) in let was = h.count_is in omega (arith, grown, was));
        since = since_joined s now new h.since p.since;
        accepted = accepted_more line number more new p;
      }

  none_made : (g : History) → Fits now g → deeds g s.caller now.length now.length ≡ []
  none_made g fits = ap (λ (who : ℕ). deeds g who now.length now.length) (sym h.since.caller) ∙ (nothing_made now).made g fits

  module _ (most : r.taken ≤ 2 ^ 40) where
    size_most : length h.input ≤ 2 ^ 40
    size_most = let size = h.size in omega (arith, size, most)

    -- the input goes on
    goes_on : (new : Seen) (result : Result ℕ ImportFault) → Since now new → InEach new (λ g. ImportMade patterns g s.caller s.length new.length h.input false result) → Imports patterns taken taken' left left' s result new
    goes_on new result since made = record {
      input = h.input;
      ended = false;
      takes = h.takes;
      leaves = h.leaves;
      end = λ e. absurd (false≢true e);
      most = size_most;
      early = λ e. absurd (false≢true e);
      since = since_joined s now new h.since since;
      made = made;
    }

    no_more : Since now now
    no_more = (nothing_made now).since

    pub out_of_memory : Imports patterns taken taken' left left' s (Err OutOfMemory) now
    out_of_memory = goes_on now (Err OutOfMemory) no_more (λ g lawful fits. record {
      before = h.lines;
      count = count;
      rest = r.bytes;
      last = now.length;
      accepted = h.accepted g lawful fits;
      in_range = omega arith;
      splits = h.splits;
      begun = inl (none_made g fits);
    })

    -- there is no next line
    pub no_line : (f : InputFault) → FindsNext left' r (Err f) → Imports patterns taken taken' left left' s (Err (of_input f)) now
    no_line input.Failed f = goes_on now (Err ReadFault) no_more (λ g lawful fits. (
      record { before = h.lines; count = count; rest = r.bytes; accepted = h.accepted g lawful fits; splits = h.splits; front = subst (λ (n : ℕ). IsFront n r.bytes) h.longest f.0 },
      (let size = h.size in let some = f.1 in omega (arith, size, some)),
    ))
    no_line input.Full f = goes_on now (Err SessionFull) no_more (λ g lawful fits. (
      record { before = h.lines; count = count; rest = r.bytes; accepted = h.accepted g lawful fits; splits = h.splits; front = subst (λ (n : ℕ). IsFront n r.bytes) h.longest f.0 },
      h.size ∙ f.1,
    ))
    no_line input.OutOfMemory f = out_of_memory

    -- a line is too long
    pub too_long : (number : ℕ) → number ≡ r.lines + 1 → BeginsTooLong r.longest r.bytes → Imports patterns taken taken' left left' s (Err (BadLine number TooLong)) now
    too_long number is long = goes_on now (Err (BadLine number TooLong)) no_more (λ g lawful fits. record {
      before = h.lines;
      count = count;
      last = now.length;
      accepted = h.accepted g lawful fits;
      in_range = omega arith;
      number_is = (let counted = h.count_is in omega (arith, is, counted));
      refused = λ more none.
          let b = subst (λ (n : ℕ). BeginsTooLong n r.bytes) h.longest long more in
          (b.line, b.others, h.splits more ∙ ap (λ ls. h.lines ++ ls) b.is, (lt-ltb LONGEST_LINE (length b.line.bytes) b.long, none_made g fits));
    })

    -- the line behind those that were accepted is refused, or its put had a fault
    line_fails : (line : Line) (number : ℕ) (is : number ≡ r.lines + 1) (ended : Bool) (new : Seen) (p : Since now new) (g : History) (accepted : WereAccepted patterns g s.caller s.length h.lines count now.length)
        → ((P : Line → Type 0) → P line → Finds h.input ended h.lines P)
        → (fault : ImportFault) → LineMade patterns g s.caller now.length new.length line number (Err fault) → ImportMade patterns g s.caller s.length new.length h.input ended (Err fault)
    line_fails line number is ended new p g accepted finds (BadLine told fault) made = record {
      before = h.lines;
      count = count;
      last = now.length;
      accepted = accepted;
      in_range = p.extends.length;
      number_is = (let counted = h.count_is in let same = made.0 in omega (arith, is, counted, same));
      refused = finds (λ (l : Line). IsRefused patterns g s.caller now.length new.length l fault) made.1;
    }
    line_fails line number is ended new p g accepted finds ReadFault made = absurd made
    line_fails line number is ended new p g accepted finds SessionFull made = absurd made
    line_fails line number is ended new p g accepted finds OutOfMemory made = record {
      before = h.lines;
      count = count;
      rest = r.bytes;
      last = now.length;
      accepted = accepted;
      in_range = p.extends.length;
      splits = h.splits;
      begun = ⊎_elim (λ none. inl none) (λ broken. inr (finds (λ (l : Line). IsBroken patterns g s.caller now.length new.length l rows.OutOfMemory) broken)) made;
    }
    line_fails line number is ended new p g accepted finds Stopped made = record {
      before = h.lines;
      count = count;
      rest = r.bytes;
      last = now.length;
      accepted = accepted;
      in_range = p.extends.length;
      splits = h.splits;
      begun = ⊎_elim (λ none. inl none) (λ broken. inr (finds (λ (l : Line). IsBroken patterns g s.caller now.length new.length l rows.Stopped) broken)) made;
    }

    pub line_failed : (end number : ℕ) (new : Seen) (fault : ImportFault) → number ≡ r.lines + 1 → BeginsWithLine r.longest r.bytes end → PutsLine patterns (whole_line (take end r.bytes)) number now (Err fault) new → Imports patterns taken taken' left left' s (Err fault) new
    line_failed end number new fault is t p =
        let line : Line = whole_line (take end r.bytes) in
        goes_on new (Err fault) p.since (λ g lawful fits.
        line_fails line number is false new p.since g (h.accepted g lawful (p.since.extends.fits g fits))
        (λ P so more none. (line, lines_of (drop (end + 1) r.bytes ++ more), h.splits more ∙ ap (λ ls. h.lines ++ ls) (t.splits more), so))
        fault (made_for line number (Err fault) new p g lawful fits))

  -- ---- the last line
  module _ (front : IsFront r.longest r.bytes) (end : IsAtEnd left') (some : r.taken < 2 ^ 40) where
    size_some : length h.input < 2 ^ 40
    size_some = let size = h.size in omega (arith, size, some)

    all_lines : lines_of h.input ≡ h.lines ++ last_line r.bytes ∷ []
    all_lines = lines_at_end h.input r.bytes h.lines h.splits front.whole

    ends : (new : Seen) (result : Result ℕ ImportFault) → Since now new → InEach new (λ g. ImportMade patterns g s.caller s.length new.length h.input true result) → Imports patterns taken taken' left left' s result new
    ends new result since made = record {
      input = h.input;
      ended = true;
      takes = h.takes;
      leaves = h.leaves;
      end = λ e. end;
      most = (let size = size_some in omega (arith, size));
      early = λ e. size_some;
      since = since_joined s now new h.since since;
      made = made;
    }

    pub last_put : (number more : ℕ) (new : Seen) → PutsLine patterns (last_line r.bytes) number now (Ok more) new → Imports patterns taken taken' left left' s (Ok (count + more)) new
    last_put number more new p = ends new (Ok (count + more)) p.since (λ g lawful fits. (
      refl,
      subst (λ (ls : List Line). WereAccepted patterns g s.caller s.length ls (count + more) new.length) (sym all_lines) (accepted_more (last_line r.bytes) number more new p g lawful fits),
    ))

    pub last_failed : (number : ℕ) (new : Seen) (fault : ImportFault) → number ≡ r.lines + 1 → PutsLine patterns (last_line r.bytes) number now (Err fault) new → Imports patterns taken taken' left left' s (Err fault) new
    last_failed number new fault is p = ends new (Err fault) p.since (λ g lawful fits.
        line_fails (let size = size_some in omega (arith, size, some)) (last_line r.bytes) number is true new p.since g (h.accepted g lawful (p.since.extends.fits g fits))
        (λ P so more none. (last_line r.bytes, [], ap (λ ls. lines_of (h.input ++ ls)) (none refl) ∙ ap lines_of (append-nil h.input) ∙ all_lines, so))
        fault (made_for (last_line r.bytes) number (Err fault) new p g lawful fits))

-- the next line was looked for in vain
pub not_found : (patterns : Patterns) (taken taken' taken'' left left' left'' : Option (List ℕ)) (s now : Seen) (count : ℕ) (old new : Reading) → HasPut patterns taken taken' left left' s now count old → (f : InputFault) → NextLineIs taken' taken'' left' left'' old (Err f) new
    → Imports patterns taken taken'' left left'' s (Err (of_input f)) now
not_found patterns taken taken' taken'' left left' left'' s now count old new h f n =
    no_line patterns taken taken'' left left'' s now count (with_bytes old n.more) (looked_for patterns taken taken' taken'' left left' left'' s now count old new h (Err f) n) n.most f n.finds

-- ---- causes
pub input_cause : (faults faults' stops stops' : ℕ) (f : InputFault) → (◌≡◌ {A = Result NextLine InputFault} (Err f) (Err input.Failed) → Rose faults faults') → ImportCause faults faults' stops stops' (of_input f)
input_cause faults faults' stops stops' input.Failed rose = rose refl
input_cause faults faults' stops stops' input.Full rose = tt
input_cause faults faults' stops stops' input.OutOfMemory rose = tt

rose_longer : (a b c d : ℕ) → a ≤ b → c ≤ d → Rose b c → Rose a d
rose_longer a b c d before after rose = omega (arith, before, after, rose)

pub cause_longer : (a b c d e f g h : ℕ) (fault : ImportFault) → a ≤ b → c ≤ d → e ≤ f → g ≤ h → ImportCause b c f g fault → ImportCause a d e h fault
cause_longer a b c d e f g h (BadLine number fault) ab cd ef gh cause = tt
cause_longer a b c d e f g h ReadFault ab cd ef gh cause = rose_longer a b c d ab cd cause
cause_longer a b c d e f g h SessionFull ab cd ef gh cause = tt
cause_longer a b c d e f g h OutOfMemory ab cd ef gh cause = tt
cause_longer a b c d e f g h Stopped ab cd ef gh cause = rose_longer e f g h ef gh cause

-- ---- what a line is judged
pub fits : (line : Line) → length line.bytes ≤ LONGEST_LINE → is_too_long line.bytes ≡ false
fits line short = grind (arith, nat_tests, short)

pub short_judged : (line : Line) → length line.bytes ≤ LONGEST_LINE → judged line ≡ judged_text (text_of line)
short_judged line short = ap (λ t. cond t (Refused (codes "line too long")) (judged_text (text_of line))) (fits line short)

pub blank_judged : (line : Line) → length line.bytes ≤ LONGEST_LINE → is_blank (text_of line) ≡ true → judged line ≡ Blank
blank_judged line short blank = short_judged line short ∙ ap (λ t. cond t Blank (judged_point (point_of (text_of line)))) blank

pub point_judged : (line : Line) (p : DataPoint) → length line.bytes ≤ LONGEST_LINE → is_blank (text_of line) ≡ false → point_of (text_of line) ≡ Ok p → judged line ≡ Taken p
point_judged line p short text is = short_judged line short ∙ ap (λ t. cond t Blank (judged_point (point_of (text_of line)))) text ∙ ap judged_point is

-- the point of a line was put
pub line_taken : (patterns : Patterns) (line : Line) (number : ℕ) (old new : Seen) → length line.bytes ≤ LONGEST_LINE → is_blank (text_of line) ≡ false → PutsText patterns (text_of line) old (Ok outcome.Taken) new → PutsLine patterns line number old (Ok 1) new
line_taken patterns line number old new short text puts = record {
  since = puts.since;
  made = λ h lawful fits. let m = puts.made h lawful fits in inr (refl, (m.0, point_judged line m.0 short text m.1, m.2));
}

pub line_cause : (faults faults' a b c : ℕ) (f : ImportFault) → a ≤ b → LineCause b c f → ImportCause faults faults' a c f
line_cause faults faults' a b c (BadLine number fault) later cause = tt
line_cause faults faults' a b c ReadFault later cause = absurd cause
line_cause faults faults' a b c SessionFull later cause = tt
line_cause faults faults' a b c OutOfMemory later cause = tt
line_cause faults faults' a b c Stopped later cause = rose_longer a b c c later (omega arith) cause

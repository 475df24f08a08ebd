-- How the reading of an input ends.
use Rattle.std.proofs.Common.{◌≡◌, ℕ, ◌+◌, ◌^◌, ◌<◌, ◌≤◌, true, false, List, ◌++◌, length, take, refl, ◌∙◌, arith, subst}
use Rattle.std.specs.Prelude.{Option, Some, None, Result, Ok, Err, IfOk, IfErr, codes}
use Rattle.line_stream.specs.declared.reader.NextLine.{NextLine}
use Rattle.std.specs.Io.KnownBytes.{IsAtEnd}
use Rattle.std.proofs.lemmas.Bool.{false≢true}
use Rattle.line_stream.specs.declared.line.TheConstants.{LONGEST_LINE}
use Rattle.line_stream.specs.Lines.{last_line, whole_line}
use Rattle.line_stream.specs.LineReadings.{Reading}
use Rattle.line_stream.specs.Reads.{BeginsTooLong, BeginsWithLine, Finds, IsFront, NextLineIs, with_bytes}
use Rattle.line_stream.specs.declared.reader.InputFault.{InputFault}
use Rattle.line_stream.specs.declared.reader.InputFault.TheVariants as fault
use Rattle.batch_job.specs.Pending.{SoFar}
use Rattle.batch_run.specs.declared.run_fault.RunFault.{RunFault}
use Rattle.batch_run.specs.declared.run_fault.RunFault.TheVariants.{Failed, Full, OutOfMemory, Stopped}
use Rattle.batch_run.specs.RunFaults.{LineCause, RunCause, of_input}
use Rattle.tsd_io.specs.Causes.{Rose}
use Rattle.batch_run.specs.declared.input.BadLine.{BadLine}
use Rattle.batch_job.specs.PointLines.{points_of}
use Rattle.batch_run.specs.Inputs.{ReadsLine, ReadsInputTo}
use Rattle.batch_run.proofs.InputLemmas.{HasRead, all_read, last_refused, looked_for, refuse_on, too_long_further, unrefused}

module _ (taken taken' left left' : Option (List ℕ)) (c : SoFar) (r : Reading) (h : HasRead taken taken' left left' c r) (most : r.taken ≤ 2 ^ 40) where
  size_most : length h.input ≤ 2 ^ 40
  size_most = let s = h.size in omega (arith, s, most)

  pub out_of_memory : (d : SoFar) → ReadsInputTo taken taken' left left' d (Err OutOfMemory)
  out_of_memory d = record { input = h.input; ended = false; takes = h.takes; leaves = h.leaves; end = λ e. absurd (false≢true e); most = size_most; early = λ e. absurd (false≢true e); reads = tt }

  -- a line had no memory, or was stopped
  pub line_failed : (d : SoFar) (f : RunFault) (stops stops' : ℕ) → LineCause stops stops' f → ReadsInputTo taken taken' left left' d (Err f)
  line_failed d OutOfMemory stops stops' cause = out_of_memory d
  line_failed d Stopped stops stops' cause = record { input = h.input; ended = false; takes = h.takes; leaves = h.leaves; end = λ e. absurd (false≢true e); most = size_most; early = λ e. absurd (false≢true e); reads = tt }
  line_failed d Failed stops stops' cause = absurd cause
  line_failed d Full stops stops' cause = absurd cause

  bad_line : (d : SoFar) (bad : BadLine) → ((more : List ℕ) → points_of (h.input ++ more) ≡ Err (bad.number, bad.text.items)) → ReadsInputTo taken taken' left left' d (Ok (Some bad))
  bad_line d bad is = record { input = h.input; ended = false; takes = h.takes; leaves = h.leaves; end = λ e. absurd (false≢true e); most = size_most; early = λ e. absurd (false≢true e); reads = is }

  -- a whole line is refused
  pub line_refused : (d : SoFar) (bad : BadLine) (end : ℕ) → BeginsWithLine r.longest r.bytes end → ReadsLine (whole_line (take end r.bytes)) (r.lines + 1) c d (Some bad) → ReadsInputTo taken taken' left left' d (Ok (Some bad))
  line_refused d bad end t one = bad_line d bad (refuse_on h.input r.bytes end c d r.lines bad (subst (λ (n : ℕ). BeginsWithLine n r.bytes end) h.longest t) h.reads one)

  -- a line is too long
  pub line_too_long : (bad : BadLine) → BeginsTooLong r.longest r.bytes → bad.text.items ≡ codes "line too long" → bad.number ≡ r.lines + 1 → ReadsInputTo taken taken' left left' c (Ok (Some bad))
  line_too_long bad long text number = bad_line c bad (too_long_further h.input r.bytes r.lines c bad h.reads (subst (λ (n : ℕ). BeginsTooLong n r.bytes) h.longest long) text number)

  -- there is no next line
  pub no_line : (f : InputFault) → Finds left' r (Err f) → ReadsInputTo taken taken' left left' c (Err (of_input f))
  no_line fault.Failed f = record {
    input = h.input;
    ended = false;
    takes = h.takes;
    leaves = h.leaves;
    end = λ e. absurd (false≢true e);
    most = size_most;
    early = λ e. absurd (false≢true e);
    reads = (unrefused h.input r.bytes r.lines c h.reads (subst (λ (n : ℕ). IsFront n r.bytes) h.longest f.0), (let s = h.size in let some = f.1 in omega (arith, s, some)));
  }
  no_line fault.Full f = record {
    input = h.input;
    ended = false;
    takes = h.takes;
    leaves = h.leaves;
    end = λ e. absurd (false≢true e);
    most = size_most;
    early = λ e. absurd (false≢true e);
    reads = (unrefused h.input r.bytes r.lines c h.reads (subst (λ (n : ℕ). IsFront n r.bytes) h.longest f.0), h.size ∙ f.1);
  }
  no_line fault.OutOfMemory f = out_of_memory c

-- the next line was looked for in vain
pub not_found : (taken taken' taken'' left left' left'' : Option (List ℕ)) (c : SoFar) (old new : Reading) → HasRead taken taken' left left' c old → (f : InputFault) → NextLineIs taken' taken'' left' left'' old (Err f) new
    → ReadsInputTo taken taken'' left left'' c (Err (of_input f))
not_found taken taken' taken'' left left' left'' c old new h f n = no_line taken taken'' left left'' c (with_bytes old n.more) (looked_for taken taken' taken'' left left' left'' c old new h (Err f) n) n.most f n.finds

-- the source's end came
module _ (taken taken' left left' : Option (List ℕ)) (c d : SoFar) (r : Reading) (h : HasRead taken taken' left left' c r) (front : IsFront r.longest r.bytes) (end : IsAtEnd left') (some : r.taken < 2 ^ 40) where
  short_front : IsFront LONGEST_LINE r.bytes
  short_front = subst (λ (n : ℕ). IsFront n r.bytes) h.longest front

  size_some : length h.input < 2 ^ 40
  size_some = let s = h.size in omega (arith, s, some)

  pub ended : (last : Option BadLine) → ReadsLine (last_line r.bytes) (r.lines + 1) c d last → ReadsInputTo taken taken' left left' d (Ok last)
  ended None one =
      let all = all_read h.input r.bytes r.lines c d h.reads short_front one in
      record { input = h.input; ended = true; takes = h.takes; leaves = h.leaves; end = λ _. end; most = (let s = size_some in omega (arith, s)); early = λ _. size_some; reads = (refl, (all.points, all.is, all.gathers)) }
  ended (Some bad) one = record {
    input = h.input;
    ended = true;
    takes = h.takes;
    leaves = h.leaves;
    end = λ _. end;
    most = (let s = size_some in omega (arith, s));
    early = λ _. size_some;
    reads = last_refused h.input r.bytes r.lines c d bad h.reads short_front one;
  }

-- the last line was read, or refused, or it had no memory, or was stopped
pub last_read : (taken taken' left left' : Option (List ℕ)) (c d : SoFar) (r : Reading) (h : HasRead taken taken' left left' c r) → r.taken ≤ 2 ^ 40 → (front : IsFront r.longest r.bytes) (end : IsAtEnd left') (some : r.taken < 2 ^ 40) (result : Result (Option BadLine) RunFault)
    → IfOk result (ReadsLine (last_line r.bytes) (r.lines + 1) c d) → (stops stops' : ℕ) → IfErr result (LineCause stops stops') → ReadsInputTo taken taken' left left' d result
last_read taken taken' left left' c d r h most front end some (Ok last) one stops stops' cause = ended taken taken' left left' c d r h front end some last one
last_read taken taken' left left' c d r h most front end some (Err f) one stops stops' cause = line_failed taken taken' left left' c r h most d f stops stops' cause

-- ---- causes
pub input_cause : (faults faults' stops stops' : ℕ) (f : InputFault) → (◌≡◌ {A = Result NextLine InputFault} (Err f) (Err fault.Failed) → Rose faults faults') → RunCause faults faults' stops stops' (of_input f)
input_cause faults faults' stops stops' fault.Failed rose = rose refl
input_cause faults faults' stops stops' fault.Full rose = tt
input_cause faults faults' stops stops' fault.OutOfMemory rose = tt

-- a count that rose did so over a longer time
pub rose_longer : (a b c d : ℕ) → a ≤ b → c ≤ d → Rose b c → Rose a d
rose_longer a b c d before after rose = omega (arith, before, after, rose)

pub cause_longer : (a b c d e f g h : ℕ) (fault : RunFault) → a ≤ b → c ≤ d → e ≤ f → g ≤ h → RunCause b c f g fault → RunCause a d e h fault
cause_longer a b c d e f g h Failed ab cd ef gh cause = rose_longer a b c d ab cd cause
cause_longer a b c d e f g h Full ab cd ef gh cause = tt
cause_longer a b c d e f g h OutOfMemory ab cd ef gh cause = tt
cause_longer a b c d e f g h Stopped ab cd ef gh cause = rose_longer e f g h ef gh cause

pub line_cause : (faults faults' a b c : ℕ) (f : RunFault) → a ≤ b → LineCause b c f → RunCause faults faults' a c f
line_cause faults faults' a b c Failed later cause = absurd cause
line_cause faults faults' a b c Full later cause = absurd cause
line_cause faults faults' a b c OutOfMemory later cause = tt
line_cause faults faults' a b c Stopped later cause = rose_longer a b c c later (omega arith) cause

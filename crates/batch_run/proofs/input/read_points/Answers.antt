use Rattle.std.proofs.Common.{List, ℕ, ◌+◌, ◌∙◌, arith, refl, subst, take}
use Rattle.std.specs.Prelude.{IfOk, Ok, Option}
use Rattle.std.proofs.lemmas.Result.{err_from_is_err_and}
use Rattle.line_stream.specs.declared.line.TheConstants.{LONGEST_LINE}
use Rattle.line_stream.specs.Lines.{last_line, whole_line}
use Rattle.line_stream.specs.Reads.{NextLineIs, no_bytes}
use Rattle.line_stream.specs.declared.reader.NextLine.{NextLine}
use Rattle.line_stream.specs.declared.reader.NextLine.TheVariants.{Last, TooLong, Whole}
use Rattle.batch_run.specs.declared.input.BadLine.{BadLine}
use Rattle.batch_run.specs.Inputs.{ReadsLine}
use Rattle.batch_job.specs.Pending.{so_far}
use Rattle.batch_run.proofs.InputEnds.{input_cause, cause_longer, last_read, line_cause, line_failed, line_refused, line_too_long, not_found, out_of_memory}
use Rattle.batch_run.proofs.InputLemmas.{found, line_read, nothing_read}
use Rattle.batch_run.proofs.input.read_points.Goals as goal

pub returns-in_err-reader-clause-reads : goal.returns-in_err-reader-clause-reads
returns-in_err-reader-clause-reads g c =
    let s = g.S.Source in
    let start = nothing_read (s.taken c.args.source.now) (s.left c.args.source.now) (so_far (g.R.Rows.seen c.args.store.now.rows) c.args.gathered.now) c.requires.empty in
    let p = err_from_is_err_and c.from_residual.result c.from_residual.ensures.1 in
    rw (p.1, p.2) (out_of_memory _ _ _ _ (so_far (g.R.Rows.seen c.args.store.now.rows) c.args.gathered.now) (no_bytes LONGEST_LINE) start (omega arith) (so_far (g.R.Rows.seen c.args.store.now.rows) c.args.gathered.now))

pub loop-reader-init : goal.loop-reader-init
loop-reader-init g c =
    let s = g.S.Source in
    let start = nothing_read (s.taken c.args.source.now) (s.left c.args.source.now) (so_far (g.R.Rows.seen c.args.store.now.rows) c.args.gathered.now) c.requires.empty in
    rw c.in_ok-reader.ensures (record { read = start; longest = refl; most = omega arith; later = omega arith; grows = omega arith })

pub returns-in_err-end-clause-reads : goal.returns-in_err-end-clause-reads
returns-in_err-end-clause-reads g c =
    let s = g.S.Source in
    let p = err_from_is_err_and c.from_residual-in_err-end.result c.from_residual-in_err-end.ensures.1 in
    rw (p.1, p.2) (not_found (s.taken c.args.source.now) (s.taken c.loop-reader.source) (s.taken c.next_line.new.source) (s.left c.args.source.now) (s.left c.loop-reader.source) (s.left c.next_line.new.source) (so_far (g.R.Rows.seen c.loop-reader.store.rows) c.loop-reader.gathered) c.loop-reader.reader c.next_line.new.self c.loop-reader.invariant.read c.in_err-end.field-0.0 c.in_err-end.ensures.next)

pub returns-in_err-bad-in-Whole-clause-reads : goal.returns-in_err-bad-in-Whole-clause-reads
returns-in_err-bad-in-Whole-clause-reads g c =
    let s = g.S.Source in
    let n = subst (λ (line : NextLine). NextLineIs (s.taken c.loop-reader.source) (s.taken c.next_line.new.source) (s.left c.loop-reader.source) (s.left c.next_line.new.source) c.loop-reader.reader (Ok line) c.next_line.new.self) c.in-Whole.is c.in_ok-end.ensures.next in
    let f = found (s.taken c.args.source.now) (s.taken c.loop-reader.source) (s.taken c.next_line.new.source) (s.left c.args.source.now) (s.left c.loop-reader.source) (s.left c.next_line.new.source) (so_far (g.R.Rows.seen c.loop-reader.store.rows) c.loop-reader.gathered) c.loop-reader.reader c.next_line.new.self c.loop-reader.invariant.read (Whole c.in-Whole.end) n in
    let p = err_from_is_err_and c.from_residual-in_err-bad-in-Whole.result c.from_residual-in_err-bad-in-Whole.ensures.1 in
    rw (p.1, p.2) (line_failed (s.taken c.args.source.now) (s.taken c.next_line.new.source) (s.left c.args.source.now) (s.left c.next_line.new.source) (so_far (g.R.Rows.seen c.loop-reader.store.rows) c.loop-reader.gathered) c.next_line.new.self f.0 f.2 (so_far (g.R.Rows.seen c.read_line.new.store.rows) c.read_line.new.gathered) _ _ _ c.in_err-bad-in-Whole.ensures.cause)

pub returns-in-Some-clause-reads : goal.returns-in-Some-clause-reads
returns-in-Some-clause-reads g c =
    let s = g.S.Source in
    let n = subst (λ (line : NextLine). NextLineIs (s.taken c.loop-reader.source) (s.taken c.next_line.new.source) (s.left c.loop-reader.source) (s.left c.next_line.new.source) c.loop-reader.reader (Ok line) c.next_line.new.self) c.in-Whole.is c.in_ok-end.ensures.next in
    let f = found (s.taken c.args.source.now) (s.taken c.loop-reader.source) (s.taken c.next_line.new.source) (s.left c.args.source.now) (s.left c.loop-reader.source) (s.left c.next_line.new.source) (so_far (g.R.Rows.seen c.loop-reader.store.rows) c.loop-reader.gathered) c.loop-reader.reader c.next_line.new.self c.loop-reader.invariant.read (Whole c.in-Whole.end) n in
    let line = c.in-Whole.end in
    let read = subst (λ (number : ℕ). ReadsLine (whole_line (take line c.bytes.result.now)) number (so_far (g.R.Rows.seen c.loop-reader.store.rows) c.loop-reader.gathered) (so_far (g.R.Rows.seen c.read_line.new.store.rows) c.read_line.new.gathered) c.in_ok-bad-in-Whole.field-0) c.number.ensures c.in_ok-bad-in-Whole.ensures.reads in
    let one = subst (λ (xs : List ℕ). ReadsLine (whole_line (take line xs)) (c.next_line.new.self.lines + 1) (so_far (g.R.Rows.seen c.loop-reader.store.rows) c.loop-reader.gathered) (so_far (g.R.Rows.seen c.read_line.new.store.rows) c.read_line.new.gathered) c.in_ok-bad-in-Whole.field-0) c.bytes.ensures read in
    line_refused (s.taken c.args.source.now) (s.taken c.next_line.new.source) (s.left c.args.source.now) (s.left c.next_line.new.source) (so_far (g.R.Rows.seen c.loop-reader.store.rows) c.loop-reader.gathered) c.next_line.new.self f.0 f.2 (so_far (g.R.Rows.seen c.read_line.new.store.rows) c.read_line.new.gathered) c.in-Some.bad line f.1 (subst (λ (o : Option BadLine). ReadsLine (whole_line (take line c.next_line.new.self.bytes)) (c.next_line.new.self.lines + 1) (so_far (g.R.Rows.seen c.loop-reader.store.rows) c.loop-reader.gathered) (so_far (g.R.Rows.seen c.read_line.new.store.rows) c.read_line.new.gathered) o) c.in-Some.is one)

pub loop-reader-preserved : goal.loop-reader-preserved
loop-reader-preserved g c =
    let s = g.S.Source in
    let n = subst (λ (line : NextLine). NextLineIs (s.taken c.loop-reader.source) (s.taken c.next_line.new.source) (s.left c.loop-reader.source) (s.left c.next_line.new.source) c.loop-reader.reader (Ok line) c.next_line.new.self) c.in-Whole.is c.in_ok-end.ensures.next in
    let f = found (s.taken c.args.source.now) (s.taken c.loop-reader.source) (s.taken c.next_line.new.source) (s.left c.args.source.now) (s.left c.loop-reader.source) (s.left c.next_line.new.source) (so_far (g.R.Rows.seen c.loop-reader.store.rows) c.loop-reader.gathered) c.loop-reader.reader c.next_line.new.self c.loop-reader.invariant.read (Whole c.in-Whole.end) n in
    let line = c.in-Whole.end in
    let read = subst (λ (number : ℕ). ReadsLine (whole_line (take line c.bytes.result.now)) number (so_far (g.R.Rows.seen c.loop-reader.store.rows) c.loop-reader.gathered) (so_far (g.R.Rows.seen c.read_line.new.store.rows) c.read_line.new.gathered) c.in_ok-bad-in-Whole.field-0) c.number.ensures c.in_ok-bad-in-Whole.ensures.reads in
    let one = subst (λ (xs : List ℕ). ReadsLine (whole_line (take line xs)) (c.next_line.new.self.lines + 1) (so_far (g.R.Rows.seen c.loop-reader.store.rows) c.loop-reader.gathered) (so_far (g.R.Rows.seen c.read_line.new.store.rows) c.read_line.new.gathered) c.in_ok-bad-in-Whole.field-0) c.bytes.ensures read in
    let read = line_read (s.taken c.args.source.now) (s.taken c.next_line.new.source) (s.left c.args.source.now) (s.left c.next_line.new.source) (so_far (g.R.Rows.seen c.loop-reader.store.rows) c.loop-reader.gathered) (so_far (g.R.Rows.seen c.read_line.new.store.rows) c.read_line.new.gathered) c.next_line.new.self line f.0 f.1 (subst (λ (o : Option BadLine). ReadsLine (whole_line (take line c.next_line.new.self.bytes)) (c.next_line.new.self.lines + 1) (so_far (g.R.Rows.seen c.loop-reader.store.rows) c.loop-reader.gathered) (so_far (g.R.Rows.seen c.read_line.new.store.rows) c.read_line.new.gathered) o) c.in_default.is one) in
    let most = f.2 in
    let was = c.loop-reader.invariant.later in
    let now = c.next_line.ensures.later in
    let were = c.loop-reader.invariant.grows in
    let are = c.in_ok-bad-in-Whole.ensures.grows in
    rw c.skip_line.ensures (record { read = read; longest = f.0.longest; most = most; later = omega (arith, was, now); grows = omega (arith, were, are) })

pub returns-in-Last-clause-reads : goal.returns-in-Last-clause-reads
returns-in-Last-clause-reads g c =
    let s = g.S.Source in
    let n = subst (λ (line : NextLine). NextLineIs (s.taken c.loop-reader.source) (s.taken c.next_line.new.source) (s.left c.loop-reader.source) (s.left c.next_line.new.source) c.loop-reader.reader (Ok line) c.next_line.new.self) c.in-Last.is c.in_ok-end.ensures.next in
    let f = found (s.taken c.args.source.now) (s.taken c.loop-reader.source) (s.taken c.next_line.new.source) (s.left c.args.source.now) (s.left c.loop-reader.source) (s.left c.next_line.new.source) (so_far (g.R.Rows.seen c.loop-reader.store.rows) c.loop-reader.gathered) c.loop-reader.reader c.next_line.new.self c.loop-reader.invariant.read Last n in
    let read = subst (λ (number : ℕ). IfOk c.read_line-in-Last.result (ReadsLine (last_line c.bytes-in-Last.result.now) number (so_far (g.R.Rows.seen c.loop-reader.store.rows) c.loop-reader.gathered) (so_far (g.R.Rows.seen c.read_line-in-Last.new.store.rows) c.read_line-in-Last.new.gathered))) c.number-in-Last.ensures c.read_line-in-Last.ensures.reads in
    let one = subst (λ (xs : List ℕ). IfOk c.read_line-in-Last.result (ReadsLine (last_line xs) (c.next_line.new.self.lines + 1) (so_far (g.R.Rows.seen c.loop-reader.store.rows) c.loop-reader.gathered) (so_far (g.R.Rows.seen c.read_line-in-Last.new.store.rows) c.read_line-in-Last.new.gathered))) c.bytes-in-Last.ensures read in
    last_read (s.taken c.args.source.now) (s.taken c.next_line.new.source) (s.left c.args.source.now) (s.left c.next_line.new.source) (so_far (g.R.Rows.seen c.loop-reader.store.rows) c.loop-reader.gathered) (so_far (g.R.Rows.seen c.read_line-in-Last.new.store.rows) c.read_line-in-Last.new.gathered) c.next_line.new.self f.0 f.2 f.1.0 f.1.1 f.1.2 c.read_line-in-Last.result one _ _ c.read_line-in-Last.ensures.cause

pub returns-in_err-too_long-in-TooLong-clause-reads : goal.returns-in_err-too_long-in-TooLong-clause-reads
returns-in_err-too_long-in-TooLong-clause-reads g c =
    let s = g.S.Source in
    let n = subst (λ (line : NextLine). NextLineIs (s.taken c.loop-reader.source) (s.taken c.next_line.new.source) (s.left c.loop-reader.source) (s.left c.next_line.new.source) c.loop-reader.reader (Ok line) c.next_line.new.self) c.in-TooLong.is c.in_ok-end.ensures.next in
    let f = found (s.taken c.args.source.now) (s.taken c.loop-reader.source) (s.taken c.next_line.new.source) (s.left c.args.source.now) (s.left c.loop-reader.source) (s.left c.next_line.new.source) (so_far (g.R.Rows.seen c.loop-reader.store.rows) c.loop-reader.gathered) c.loop-reader.reader c.next_line.new.self c.loop-reader.invariant.read TooLong n in
    let p = err_from_is_err_and c.from_residual-in_err-too_long-in-TooLong.result c.from_residual-in_err-too_long-in-TooLong.ensures.1 in
    rw (p.1, p.2) (out_of_memory (s.taken c.args.source.now) (s.taken c.next_line.new.source) (s.left c.args.source.now) (s.left c.next_line.new.source) (so_far (g.R.Rows.seen c.loop-reader.store.rows) c.loop-reader.gathered) c.next_line.new.self f.0 f.2 (so_far (g.R.Rows.seen c.loop-reader.store.rows) c.loop-reader.gathered))

pub returns-in-TooLong-clause-reads : goal.returns-in-TooLong-clause-reads
returns-in-TooLong-clause-reads g c =
    let s = g.S.Source in
    let n = subst (λ (line : NextLine). NextLineIs (s.taken c.loop-reader.source) (s.taken c.next_line.new.source) (s.left c.loop-reader.source) (s.left c.next_line.new.source) c.loop-reader.reader (Ok line) c.next_line.new.self) c.in-TooLong.is c.in_ok-end.ensures.next in
    let f = found (s.taken c.args.source.now) (s.taken c.loop-reader.source) (s.taken c.next_line.new.source) (s.left c.args.source.now) (s.left c.loop-reader.source) (s.left c.next_line.new.source) (so_far (g.R.Rows.seen c.loop-reader.store.rows) c.loop-reader.gathered) c.loop-reader.reader c.next_line.new.self c.loop-reader.invariant.read TooLong n in
    let bad = c.in_ok-too_long-in-TooLong.ensures in
    line_too_long (s.taken c.args.source.now) (s.taken c.next_line.new.source) (s.left c.args.source.now) (s.left c.next_line.new.source) (so_far (g.R.Rows.seen c.loop-reader.store.rows) c.loop-reader.gathered) c.next_line.new.self f.0 f.2 c.in_ok-too_long-in-TooLong.field-0 f.1 bad.0 (bad.1 ∙ c.number-in-TooLong.ensures)

pub returns-in_err-end-clause-cause : goal.returns-in_err-end-clause-cause
returns-in_err-end-clause-cause g c =
    let s = g.S.Source in
    let p = err_from_is_err_and c.from_residual-in_err-end.result c.from_residual-in_err-end.ensures.1 in
    rw (p.1, p.2)
    (cause_longer (s.faults c.args.source.now) (s.faults c.loop-reader.source) (s.faults c.next_line.new.source) (s.faults c.next_line.new.source) (g.R.Rows.stops c.args.store.now.rows) (g.R.Rows.stops c.loop-reader.store.rows) (g.R.Rows.stops c.loop-reader.store.rows) (g.R.Rows.stops c.loop-reader.store.rows)
    _ c.loop-reader.invariant.later (omega arith) c.loop-reader.invariant.grows (omega arith)
    (input_cause (s.faults c.loop-reader.source) (s.faults c.next_line.new.source) (g.R.Rows.stops c.loop-reader.store.rows) (g.R.Rows.stops c.loop-reader.store.rows) c.in_err-end.field-0.0 c.in_err-end.ensures.failed))

pub returns-in_err-bad-in-Whole-clause-cause : goal.returns-in_err-bad-in-Whole-clause-cause
returns-in_err-bad-in-Whole-clause-cause g c =
    let p = err_from_is_err_and c.from_residual-in_err-bad-in-Whole.result c.from_residual-in_err-bad-in-Whole.ensures.1 in
    rw (p.1, p.2) (line_cause _ _ (g.R.Rows.stops c.args.store.now.rows) (g.R.Rows.stops c.loop-reader.store.rows) (g.R.Rows.stops c.read_line.new.store.rows) _ c.loop-reader.invariant.grows c.in_err-bad-in-Whole.ensures.cause)

use Rattle.std.proofs.Common.{List, ℕ, ◌+◌, arith, ap, refl, rules, sym, subst, take, Fits, w64}
use Rattle.std.specs.Prelude.{Result, Ok, Err, IfErr}
use Rattle.std.proofs.lemmas.Result.{err_from_is_err_and}
use Rattle.line_stream.specs.declared.line.TheConstants.{LONGEST_LINE}
use Rattle.line_stream.specs.LineReadings.{Reading}
use Rattle.line_stream.specs.Lines.{last_line, whole_line}
use Rattle.line_stream.specs.Reads.{NextLineIs, no_bytes}
use Rattle.line_stream.specs.declared.reader.NextLine.{NextLine}
use Rattle.line_stream.specs.declared.reader.NextLine.TheVariants.{Last, TooLong, Whole}
use Rattle.point_import.specs.ImportFaults.{ImportCause}
use Rattle.point_import.specs.ImportedLines.{Imports, PutsLine}
use Rattle.point_import.specs.declared.import_fault.ImportFault.{ImportFault}
use Rattle.point_import.proofs.AcceptedLines.{found, last_failed, last_put, line_cause, line_failed, line_put, not_found, nothing_taken, out_of_memory, too_long}
use Rattle.point_import.proofs.source_import.import_by.Goals as goal
use Rattle.point_import.proofs.source_import.import_by.Goals.{in-Ok-import_line, in-Err-import_line}

pub returns-in_err-reader-clause-imports : goal.returns-in_err-reader-clause-imports
returns-in_err-reader-clause-imports g c =
    let s = g.S.Source in
    let patterns = c.args.rule.now.patterns in
    let old = g.R.Rows.seen c.args.names.now.rows in
    let start = nothing_taken patterns (s.taken c.args.source.now) (s.left c.args.source.now) old in
    let p = err_from_is_err_and c.from_residual.result c.from_residual.ensures.1 in
    rw (p.1, p.2) (out_of_memory patterns (s.taken c.args.source.now) (s.taken c.args.source.now) (s.left c.args.source.now) (s.left c.args.source.now) old old 0 (no_bytes LONGEST_LINE) start (omega arith))

pub loop-reader-init : goal.loop-reader-init
loop-reader-init g c =
    let s = g.S.Source in
    let start = nothing_taken c.args.rule.now.patterns (s.taken c.args.source.now) (s.left c.args.source.now) (g.R.Rows.seen c.args.names.now.rows) in
    rw c.in_ok-reader.ensures (record { put = start; longest = refl; few = omega arith; most = omega arith; later = omega arith; grows = omega arith })

pub returns-in_err-end-clause-imports : goal.returns-in_err-end-clause-imports
returns-in_err-end-clause-imports g c =
    let s = g.S.Source in
    let patterns = c.args.rule.now.patterns in
    let old = g.R.Rows.seen c.args.names.now.rows in
    let now = g.R.Rows.seen c.loop-reader.names.rows in
    let p = err_from_is_err_and c.from_residual-in_err-end.result c.from_residual-in_err-end.ensures.1 in
    rw (p.1, p.2) (not_found patterns (s.taken c.args.source.now) (s.taken c.loop-reader.source) (s.taken c.next_line.new.source) (s.left c.args.source.now) (s.left c.loop-reader.source) (s.left c.next_line.new.source) old now c.loop-reader.count c.loop-reader.reader c.next_line.new.self c.loop-reader.invariant.put c.in_err-end.field-0.0 c.in_err-end.ensures.next)

pub overflow_add-count : goal.overflow_add-count
overflow_add-count g c =
    let few = c.loop-reader.invariant.few in
    let same = ap (λ (r : Reading). r.lines) c.in_ok-end.ensures.next.keeps in
    let number = c.number.ensures in
    let fits : Fits w64 c.number.result = search rules in
    let more = c.in-Ok.ensures.few in
    omega (arith, few, same, number, fits, more)

pub returns-in-Err-clause-imports : goal.returns-in-Err-clause-imports
returns-in-Err-clause-imports g c =
    let s = g.S.Source in
    let patterns = c.args.rule.now.patterns in
    let old = g.R.Rows.seen c.args.names.now.rows in
    let now = g.R.Rows.seen c.loop-reader.names.rows in
    let n = subst (λ (line : NextLine). NextLineIs (s.taken c.loop-reader.source) (s.taken c.next_line.new.source) (s.left c.loop-reader.source) (s.left c.next_line.new.source) c.loop-reader.reader (Ok line) c.next_line.new.self) c.in-Whole.is c.in_ok-end.ensures.next in
    let f = found patterns (s.taken c.args.source.now) (s.taken c.loop-reader.source) (s.taken c.next_line.new.source) (s.left c.args.source.now) (s.left c.loop-reader.source) (s.left c.next_line.new.source) old now c.loop-reader.count c.loop-reader.reader c.next_line.new.self c.loop-reader.invariant.put (Whole c.in-Whole.end) n in
    let read = subst (λ (number : ℕ). PutsLine patterns (whole_line (take c.in-Whole.end c.bytes.result.now)) number now (Err c.in-Err.fault) (g.R.Rows.seen c.import_line.new.names.rows)) c.number.ensures c.in-Err.ensures.puts in
    let one = subst (λ (xs : List ℕ). PutsLine patterns (whole_line (take c.in-Whole.end xs)) (c.next_line.new.self.lines + 1) now (Err c.in-Err.fault) (g.R.Rows.seen c.import_line.new.names.rows)) c.bytes.ensures read in
    line_failed patterns (s.taken c.args.source.now) (s.taken c.next_line.new.source) (s.left c.args.source.now) (s.left c.next_line.new.source) old now c.loop-reader.count c.next_line.new.self f.0 f.2 c.in-Whole.end (c.next_line.new.self.lines + 1) (g.R.Rows.seen c.import_line.new.names.rows) c.in-Err.fault refl f.1 one

pub returns-in-Err-clause-cause : goal.returns-in-Err-clause-cause
returns-in-Err-clause-cause g c = line_cause _ _ (g.R.Rows.stops c.args.names.now.rows) (g.R.Rows.stops c.loop-reader.names.rows) (g.R.Rows.stops c.import_line.new.names.rows) c.in-Err.fault c.loop-reader.invariant.grows c.in-Err.ensures.cause

pub loop-reader-preserved : goal.loop-reader-preserved
loop-reader-preserved g c =
    let s = g.S.Source in
    let patterns = c.args.rule.now.patterns in
    let old = g.R.Rows.seen c.args.names.now.rows in
    let now = g.R.Rows.seen c.loop-reader.names.rows in
    let n = subst (λ (line : NextLine). NextLineIs (s.taken c.loop-reader.source) (s.taken c.next_line.new.source) (s.left c.loop-reader.source) (s.left c.next_line.new.source) c.loop-reader.reader (Ok line) c.next_line.new.self) c.in-Whole.is c.in_ok-end.ensures.next in
    let f = found patterns (s.taken c.args.source.now) (s.taken c.loop-reader.source) (s.taken c.next_line.new.source) (s.left c.args.source.now) (s.left c.loop-reader.source) (s.left c.next_line.new.source) old now c.loop-reader.count c.loop-reader.reader c.next_line.new.self c.loop-reader.invariant.put (Whole c.in-Whole.end) n in
    let read = subst (λ (number : ℕ). PutsLine patterns (whole_line (take c.in-Whole.end c.bytes.result.now)) number now (Ok c.in-Ok.more) (g.R.Rows.seen c.import_line.new.names.rows)) c.number.ensures c.in-Ok.ensures.puts in
    let one = subst (λ (xs : List ℕ). PutsLine patterns (whole_line (take c.in-Whole.end xs)) (c.next_line.new.self.lines + 1) now (Ok c.in-Ok.more) (g.R.Rows.seen c.import_line.new.names.rows)) c.bytes.ensures read in
    let put = line_put patterns (s.taken c.args.source.now) (s.taken c.next_line.new.source) (s.left c.args.source.now) (s.left c.next_line.new.source) old now c.loop-reader.count c.next_line.new.self f.0 c.in-Whole.end (c.next_line.new.self.lines + 1) c.in-Ok.more (g.R.Rows.seen c.import_line.new.names.rows) f.1 one in
    let most = f.2 in
    let few = c.loop-reader.invariant.few in
    let same = ap (λ (r : Reading). r.lines) n.keeps in
    let more = c.in-Ok.ensures.few in
    let was = c.loop-reader.invariant.later in
    let later = c.next_line.ensures.later in
    let were = c.loop-reader.invariant.grows in
    let are = c.in-Ok.ensures.grows in
    rw c.skip_line.ensures (record { put = put; longest = f.0.longest; few = omega (arith, few, same, more); most = most; later = omega (arith, was, later); grows = omega (arith, were, are) })

pub overflow_add-result : goal.overflow_add-result
overflow_add-result g c =
    let few = c.loop-reader.invariant.few in
    let same = ap (λ (r : Reading). r.lines) c.in_ok-end.ensures.next.keeps in
    let number = c.number-in-Last.ensures in
    let fits : Fits w64 c.number-in-Last.result = search rules in
    let more = c.in-Ok-import_line.ensures.few in
    omega (arith, few, same, number, fits, more)

pub returns-in-Last-clause-imports : goal.returns-in-Last-clause-imports
returns-in-Last-clause-imports g c =
    let s = g.S.Source in
    let patterns = c.args.rule.now.patterns in
    let old = g.R.Rows.seen c.args.names.now.rows in
    let now = g.R.Rows.seen c.loop-reader.names.rows in
    let n = subst (λ (line : NextLine). NextLineIs (s.taken c.loop-reader.source) (s.taken c.next_line.new.source) (s.left c.loop-reader.source) (s.left c.next_line.new.source) c.loop-reader.reader (Ok line) c.next_line.new.self) c.in-Last.is c.in_ok-end.ensures.next in
    let f = found patterns (s.taken c.args.source.now) (s.taken c.loop-reader.source) (s.taken c.next_line.new.source) (s.left c.args.source.now) (s.left c.loop-reader.source) (s.left c.next_line.new.source) old now c.loop-reader.count c.loop-reader.reader c.next_line.new.self c.loop-reader.invariant.put Last n in
    let new = g.R.Rows.seen c.import_line-in-Last.new.names.rows in
    let read = subst (λ (number : ℕ). PutsLine patterns (last_line c.bytes-in-Last.result.now) number now c.import_line-in-Last.result new) c.number-in-Last.ensures c.import_line-in-Last.ensures.puts in
    let one = subst (λ (xs : List ℕ). PutsLine patterns (last_line xs) (c.next_line.new.self.lines + 1) now c.import_line-in-Last.result new) c.bytes-in-Last.ensures read in
    elim c.match-import_line-2.branch [
      | in-Ok-import_line w ↦ subst (λ (r : Result ℕ ImportFault). Imports patterns (s.taken c.args.source.now) (s.taken c.next_line.new.source) (s.left c.args.source.now) (s.left c.next_line.new.source) old r new) (sym w.result-is)
          (last_put patterns (s.taken c.args.source.now) (s.taken c.next_line.new.source) (s.left c.args.source.now) (s.left c.next_line.new.source) old now c.loop-reader.count c.next_line.new.self f.0 f.1.0 f.1.1 f.1.2 (c.next_line.new.self.lines + 1) w.in-Ok-import_line.more new (subst (λ (r : Result ℕ ImportFault). PutsLine patterns (last_line c.next_line.new.self.bytes) (c.next_line.new.self.lines + 1) now r new) w.in-Ok-import_line.is one))
      | in-Err-import_line w ↦ subst (λ (r : Result ℕ ImportFault). Imports patterns (s.taken c.args.source.now) (s.taken c.next_line.new.source) (s.left c.args.source.now) (s.left c.next_line.new.source) old r new) (sym w.result-is)
          (last_failed patterns (s.taken c.args.source.now) (s.taken c.next_line.new.source) (s.left c.args.source.now) (s.left c.next_line.new.source) old now c.loop-reader.count c.next_line.new.self f.0 f.1.0 f.1.1 f.1.2 (c.next_line.new.self.lines + 1) new w.in-Err-import_line.fault refl (subst (λ (r : Result ℕ ImportFault). PutsLine patterns (last_line c.next_line.new.self.bytes) (c.next_line.new.self.lines + 1) now r new) w.in-Err-import_line.is one))
    ]

pub returns-in-Last-clause-cause : goal.returns-in-Last-clause-cause
returns-in-Last-clause-cause g c =
    elim c.match-import_line-2.branch [
      | in-Ok-import_line w ↦ subst (λ (r : Result ℕ ImportFault). IfErr r (ImportCause (g.S.Source.faults c.args.source.now) (g.S.Source.faults c.next_line.new.source) (g.R.Rows.stops c.args.names.now.rows) (g.R.Rows.stops c.import_line-in-Last.new.names.rows))) (sym w.result-is) tt
      | in-Err-import_line w ↦ subst (λ (r : Result ℕ ImportFault). IfErr r (ImportCause (g.S.Source.faults c.args.source.now) (g.S.Source.faults c.next_line.new.source) (g.R.Rows.stops c.args.names.now.rows) (g.R.Rows.stops c.import_line-in-Last.new.names.rows))) (sym w.result-is)
          (line_cause _ _ (g.R.Rows.stops c.args.names.now.rows) (g.R.Rows.stops c.loop-reader.names.rows) (g.R.Rows.stops c.import_line-in-Last.new.names.rows) w.in-Err-import_line.fault c.loop-reader.invariant.grows w.in-Err-import_line.ensures.cause)
    ]

pub returns-in-TooLong-clause-imports : goal.returns-in-TooLong-clause-imports
returns-in-TooLong-clause-imports g c =
    let s = g.S.Source in
    let patterns = c.args.rule.now.patterns in
    let old = g.R.Rows.seen c.args.names.now.rows in
    let now = g.R.Rows.seen c.loop-reader.names.rows in
    let n = subst (λ (line : NextLine). NextLineIs (s.taken c.loop-reader.source) (s.taken c.next_line.new.source) (s.left c.loop-reader.source) (s.left c.next_line.new.source) c.loop-reader.reader (Ok line) c.next_line.new.self) c.in-TooLong.is c.in_ok-end.ensures.next in
    let f = found patterns (s.taken c.args.source.now) (s.taken c.loop-reader.source) (s.taken c.next_line.new.source) (s.left c.args.source.now) (s.left c.loop-reader.source) (s.left c.next_line.new.source) old now c.loop-reader.count c.loop-reader.reader c.next_line.new.self c.loop-reader.invariant.put TooLong n in
    too_long patterns (s.taken c.args.source.now) (s.taken c.next_line.new.source) (s.left c.args.source.now) (s.left c.next_line.new.source) old now c.loop-reader.count c.next_line.new.self f.0 f.2 c.number-in-TooLong.result c.number-in-TooLong.ensures f.1

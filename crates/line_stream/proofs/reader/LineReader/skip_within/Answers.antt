use Rattle.std.proofs.Common.{ap, subst, sym, ◌∙◌}
use Rattle.line_stream.specs.LineReadings.{Reading}
use Rattle.line_stream.specs.Reads.{SkipsWhole, without_line}
use Rattle.line_stream.proofs.ReaderLemmas.{whole_skipped}
use Rattle.line_stream.proofs.reader.LineReader.skip_within.Goals as goal

pub returns-in-Some-clause-skips : goal.returns-in-Some-clause-skips
returns-in-Some-clause-skips c =
    let i = c.self.inside in
    let end = c.in-Some.end in
    let old : Reading = record { longest = i.longest; bytes = i.buffer; lines = i.lines; taken = i.taken } in
    let new = c.skip_line.ensures ∙ ap (λ xs. without_line (record { longest = i.longest; bytes = xs; lines = i.lines; taken = i.taken }) end) c.in-Some.ensures.same in
    subst (λ (r : Reading). SkipsWhole r c.skip_line.new.self) c.self.view_is (subst (SkipsWhole old) (sym new) (whole_skipped old end c.in-Some.ensures.end))

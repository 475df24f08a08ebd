use Rattle.std.proofs.Common.{ap, subst, sym, ◌∙◌}
use Rattle.std.specs.Prelude.{Some}
use Rattle.line_stream.specs.LineReadings.{Reading}
use Rattle.line_stream.specs.Reads.{FirstLine, front}
use Rattle.line_stream.proofs.ReaderLemmas.{first_front, first_whole}
use Rattle.line_stream.proofs.reader.LineReader.first_line.Goals.{in-Some, in-None}
use Rattle.line_stream.proofs.reader.LineReader.first_line.Goals as goal

pub returns-clause-line : goal.returns-clause-line
returns-clause-line c =
    let bytes = c.self.inside.buffer in
    let longest = c.self.inside.longest in
    subst (λ (r : Reading). FirstLine r.longest r.bytes c.match-line_end.result) c.self.view_is
    (elim c.match-line_end.branch [
      | in-Some w ↦ subst (FirstLine longest bytes) (sym (w.result-is ∙ ap Some w.line_to.ensures)) (first_whole longest bytes w.in-Some.end w.in-Some.ensures.end)
      | in-None w ↦ subst (FirstLine longest bytes) (sym (w.result-is ∙ w.front.ensures ∙ ap (front longest) (w.bytes.ensures ∙ w.in-None.ensures.same))) (first_front longest bytes w.in-None.ensures.end)
    ])

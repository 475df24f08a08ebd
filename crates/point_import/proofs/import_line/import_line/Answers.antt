use Rattle.std.proofs.Common.{◌≡◌, List, ℕ, false, sym, subst, ◌∙◌}
use Rattle.std.specs.Prelude.{Ok}
use Rattle.line_stream.specs.Lines.{Line, is_blank}
use Rattle.point_import.specs.PutPoints.{PutsText}
use Rattle.point_import.specs.declared.import_point.TextOutcome.{TextOutcome}
use Rattle.point_import.specs.declared.import_point.TextOutcome.TheVariants as outcome
use Rattle.point_import.proofs.AcceptedLines.{line_taken}
use Rattle.point_import.proofs.import_line.import_line.Goals as goal

pub returns-in-Ok-Taken-clause-puts : goal.returns-in-Ok-Taken-clause-puts
returns-in-Ok-Taken-clause-puts g c =
    let line : Line = record { bytes = c.args.bytes.now; ended = c.args.ended } in
    let old = g.R.Rows.seen c.args.names.now.rows in
    let new = g.R.Rows.seen c.import_text.new.names.rows in
    let puts = subst (λ (o : TextOutcome). PutsText c.args.rule.now.patterns c.text_of-text.result.now old (Ok o) new) c.in-Ok-Taken.field-0-is c.in-Ok-Taken.ensures.puts in
    line_taken c.args.rule.now.patterns line c.args.number old new c.requires.short
    (subst (λ (text : List ℕ). is_blank text ≡ false) c.text_of-text.ensures (sym c.is_blank.ensures ∙ c.if-is_blank.false))
    (subst (λ (text : List ℕ). PutsText c.args.rule.now.patterns text old (Ok outcome.Taken) new) c.text_of-text.ensures puts)

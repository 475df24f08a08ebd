use Rattle.std.proofs.Common.{List, ℕ, subst}
use Rattle.batch_job.specs.AddedTexts.{AddsText}
use Rattle.batch_job.specs.Pending.{so_far}
use Rattle.batch_job.specs.PointLines.{judged_text}
use Rattle.batch_job.specs.declared.point_line.LineOutcome.{LineOutcome}
use Rattle.batch_job.specs.declared.point_line.LineOutcome.TheVariants as outcome
use Rattle.line_stream.specs.Lines.{Line}
use Rattle.batch_run.proofs.InputLemmas.{line_blank, line_full, line_taken}
use Rattle.batch_run.proofs.input.read_line.Goals as goal

pub returns-in-Blank-clause-reads : goal.returns-in-Blank-clause-reads
returns-in-Blank-clause-reads g c =
    let line : Line = record { bytes = c.args.bytes.now; ended = c.args.ended } in
    let old = so_far (g.R.Rows.seen c.args.store.now.rows) c.args.gathered.now in
    let new = so_far (g.R.Rows.seen c.add_text.new.store.rows) c.add_text.new.self in
    let adds = subst (λ (o : LineOutcome). AddsText old (judged_text c.text_of.result.now) o new) c.in-Blank.is c.in_ok-add_text.ensures.adds in
    line_blank line c.args.number old new c.requires.short (subst (λ (text : List ℕ). AddsText old (judged_text text) outcome.Blank new) c.text_of.ensures adds)

pub returns-in-Taken-clause-reads : goal.returns-in-Taken-clause-reads
returns-in-Taken-clause-reads g c =
    let line : Line = record { bytes = c.args.bytes.now; ended = c.args.ended } in
    let old = so_far (g.R.Rows.seen c.args.store.now.rows) c.args.gathered.now in
    let new = so_far (g.R.Rows.seen c.add_text.new.store.rows) c.add_text.new.self in
    let adds = subst (λ (o : LineOutcome). AddsText old (judged_text c.text_of.result.now) o new) c.in-Taken.is c.in_ok-add_text.ensures.adds in
    line_taken line c.args.number old new c.requires.short (subst (λ (text : List ℕ). AddsText old (judged_text text) outcome.Taken new) c.text_of.ensures adds)

pub returns-in_ok-exhausted-in-Full-clause-reads : goal.returns-in_ok-exhausted-in-Full-clause-reads
returns-in_ok-exhausted-in-Full-clause-reads g c =
    let line : Line = record { bytes = c.args.bytes.now; ended = c.args.ended } in
    let old = so_far (g.R.Rows.seen c.args.store.now.rows) c.args.gathered.now in
    let new = so_far (g.R.Rows.seen c.add_text.new.store.rows) c.add_text.new.self in
    let adds = subst (λ (o : LineOutcome). AddsText old (judged_text c.text_of.result.now) o new) c.in-Full.is c.in_ok-add_text.ensures.adds in
    let bad = c.in_ok-exhausted-in-Full.ensures in
    line_full line c.args.number old new c.in-Full.kind c.in_ok-exhausted-in-Full.field-0 c.requires.short (subst (λ (text : List ℕ). AddsText old (judged_text text) (outcome.Full c.in-Full.kind) new) c.text_of.ensures adds) bad.0 bad.1

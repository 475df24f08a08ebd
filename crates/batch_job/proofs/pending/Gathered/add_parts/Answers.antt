use Rattle.std.proofs.Common.{Bool, subst}
use Rattle.batch_job.specs.AddedTexts.{AddsKnown}
use Rattle.batch_job.proofs.AddedPoints.{text_adds}
use Rattle.batch_job.proofs.pending.Gathered.add_parts.Goals as goal

pub returns-in-Ok-true-clause-adds : goal.returns-in-Ok-true-clause-adds
returns-in-Ok-true-clause-adds g c =
    text_adds c.args.self.now c.add_next.new.self (g.R.Rows.seen c.args.store.now.rows) c.args.text.now c.args.parts.now c.requires.parts
    (subst (λ (known : Bool). AddsKnown c.args.parts.now c.args.self.now known c.add_next.new.self) c.in-Ok-true.field-0-test c.in-Ok-true.ensures.known)

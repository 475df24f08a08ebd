use Rattle.std.proofs.Common.{Bool, subst}
use Rattle.batch_job.specs.AddedTexts.{AddsKnown}
use Rattle.batch_job.proofs.AddedPoints.{text_adds}
use Rattle.batch_job.proofs.SeriesReads.{known_by}
use Rattle.batch_job.proofs.pending.Gathered.add_other.Goals as goal

pub add_read-requires-clause-known : goal.add_read-requires-clause-known
add_read-requires-clause-known g c = λ p is. known_by c.args.text.now c.args.parts.now c.text_of.result c.requires.parts c.text_of.ensures p is

pub returns-in-Ok-true-clause-adds : goal.returns-in-Ok-true-clause-adds
returns-in-Ok-true-clause-adds g c =
    text_adds c.args.self.now c.add_known.new.self (g.R.Rows.seen c.args.store.now.rows) c.args.text.now c.args.parts.now c.requires.parts
    (subst (λ (known : Bool). AddsKnown c.args.parts.now c.args.self.now known c.add_known.new.self) c.in-Ok-true.field-0-test c.in-Ok-true.ensures.known)

use Rattle.std.proofs.Common.{◌≡◌, rules, subst}
use Rattle.std.specs.Prelude.{Err}
use Rattle.uid_table.specs.IdSteps.{MadeSo, AssignMade}
use Rattle.uid_table.specs.declared.id_answers.AssignFault.TheVariants.{Exhausted}
use Rattle.batch_job.proofs.Noting.{assign_notes, assign_full, never_filtered}
use Rattle.batch_job.proofs.pending_ids.note.Goals as goal

pub returns-in-Ok-clause-notes : goal.returns-in-Ok-clause-notes
returns-in-Ok-clause-notes g c =
    assign_notes c.args.rule.now.patterns (g.R.Rows.seen c.args.store.now.rows) (g.R.Rows.seen c.assign.new.self.rows) c.args.kind c.args.name.now c.bytes.ensures.named c.in-Ok.field-0 c.in-Ok.ensures.made c.in-Ok.ensures.id

pub returns-in-Err-Exhausted-clause-notes : goal.returns-in-Err-Exhausted-clause-notes
returns-in-Err-Exhausted-clause-notes g c =
    let is : c.in-Err-Exhausted.field-0 ≡ Exhausted c.in-Err-Exhausted.kind = search rules in
    assign_full c.args.rule.now.patterns (g.R.Rows.seen c.args.store.now.rows) (g.R.Rows.seen c.assign.new.self.rows) c.args.kind c.args.name.now c.bytes.ensures.named c.in-Err-Exhausted.kind
    (subst (λ fault. MadeSo (g.R.Rows.seen c.args.store.now.rows) (AssignMade (g.R.Rows.seen c.args.store.now.rows).base.widths c.args.rule.now.patterns c.args.kind c.args.name.now (Err fault)) (g.R.Rows.seen c.assign.new.self.rows)) is c.in-Err-Exhausted.ensures.made)

pub unreachable-requires : goal.unreachable-requires
unreachable-requires g c =
    never_filtered c.args.rule.now.patterns (g.R.Rows.seen c.args.store.now.rows) (g.R.Rows.seen c.assign.new.self.rows) c.args.kind c.args.name.now c.requires.allows c.in-Err-Filtered.field-0-0
    (subst (λ fault. MadeSo (g.R.Rows.seen c.args.store.now.rows) (AssignMade (g.R.Rows.seen c.args.store.now.rows).base.widths c.args.rule.now.patterns c.args.kind c.args.name.now (Err fault)) (g.R.Rows.seen c.assign.new.self.rows)) c.in-Err-Filtered.field-0-is c.in-Err-Filtered.ensures.made)

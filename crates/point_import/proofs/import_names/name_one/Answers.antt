use Rattle.std.proofs.Common.{subst}
use Rattle.std.specs.Prelude.{Err}
use Rattle.cell_model.specs.declared.answers.RowsFault.TheVariants as rows
use Rattle.uid_table.specs.IdSteps.{MadeSo, AssignMade}
use Rattle.uid_table.specs.declared.id_answers.AssignFault.{AssignFault}
use Rattle.point_import.proofs.AskedNames.{named_fault, named_full, named_one, never_filtered}
use Rattle.point_import.proofs.import_names.name_one.Goals as goal

pub returns-in-Ok-clause-names : goal.returns-in-Ok-clause-names
returns-in-Ok-clause-names g c =
    named_one c.args.rule.now.patterns (g.R.Rows.seen c.args.names.now.rows) (g.R.Rows.seen c.assign.new.self.rows) c.args.kind c.args.name.now c.in-Ok.field-0 c.in-Ok.ensures.made c.in-Ok.ensures.id

pub returns-in-Err-Exhausted-clause-names : goal.returns-in-Err-Exhausted-clause-names
returns-in-Err-Exhausted-clause-names g c =
    named_full c.args.rule.now.patterns (g.R.Rows.seen c.args.names.now.rows) (g.R.Rows.seen c.assign.new.self.rows) c.args.kind c.args.name.now c.in-Err-Exhausted.kind
    (subst (λ (e : AssignFault). MadeSo (g.R.Rows.seen c.args.names.now.rows) (AssignMade (g.R.Rows.seen c.args.names.now.rows).base.widths c.args.rule.now.patterns c.args.kind c.args.name.now (Err e)) (g.R.Rows.seen c.assign.new.self.rows)) c.in-Err-Exhausted.field-0-is c.in-Err-Exhausted.ensures.made)

pub returns-in-Err-OutOfMemory-clause-names : goal.returns-in-Err-OutOfMemory-clause-names
returns-in-Err-OutOfMemory-clause-names g c =
    named_fault c.args.rule.now.patterns (g.R.Rows.seen c.args.names.now.rows) (g.R.Rows.seen c.assign.new.self.rows) c.args.kind c.args.name.now rows.OutOfMemory
    (subst (λ (e : AssignFault). MadeSo (g.R.Rows.seen c.args.names.now.rows) (AssignMade (g.R.Rows.seen c.args.names.now.rows).base.widths c.args.rule.now.patterns c.args.kind c.args.name.now (Err e)) (g.R.Rows.seen c.assign.new.self.rows)) c.in-Err-OutOfMemory.field-0-is c.in-Err-OutOfMemory.ensures.made)

pub returns-in-Err-Stopped-clause-names : goal.returns-in-Err-Stopped-clause-names
returns-in-Err-Stopped-clause-names g c =
    named_fault c.args.rule.now.patterns (g.R.Rows.seen c.args.names.now.rows) (g.R.Rows.seen c.assign.new.self.rows) c.args.kind c.args.name.now rows.Stopped
    (subst (λ (e : AssignFault). MadeSo (g.R.Rows.seen c.args.names.now.rows) (AssignMade (g.R.Rows.seen c.args.names.now.rows).base.widths c.args.rule.now.patterns c.args.kind c.args.name.now (Err e)) (g.R.Rows.seen c.assign.new.self.rows)) c.in-Err-Stopped.field-0-is c.in-Err-Stopped.ensures.made)

pub unreachable-requires : goal.unreachable-requires
unreachable-requires g c =
    never_filtered c.args.rule.now.patterns (g.R.Rows.seen c.args.names.now.rows) (g.R.Rows.seen c.assign.new.self.rows) c.args.kind c.args.name.now c.requires.allows c.in-Err-Filtered.field-0-0
    (subst (λ (e : AssignFault). MadeSo (g.R.Rows.seen c.args.names.now.rows) (AssignMade (g.R.Rows.seen c.args.names.now.rows).base.widths c.args.rule.now.patterns c.args.kind c.args.name.now (Err e)) (g.R.Rows.seen c.assign.new.self.rows)) c.in-Err-Filtered.field-0-is c.in-Err-Filtered.ensures.made)

use Rattle.std.proofs.Common.{subst}
use Rattle.std.specs.Prelude.{Err}
use Rattle.uid_table.specs.declared.id_answers.AssignFault.{AssignFault}
use Rattle.uid_table.specs.IdSteps.{MadeSo, AssignMade}
use Rattle.point_put.specs.Admissions.{admission}
use Rattle.point_put.proofs.Asking.{assigned_ok, assigned_filtered, assigned_without, assigned_full, assigned_memory, assigned_stopped}
use Rattle.point_put.proofs.put_ids.assigned.Goals as goal

pub returns-in-Ok-clause-asked : goal.returns-in-Ok-clause-asked
returns-in-Ok-clause-asked g c = assigned_ok (admission c.args.config.now c.args.rule.now.patterns) _ _ c.args.kind c.args.name.now c.in-Ok.answer c.id.result c.requires c.in-Ok.ensures.made c.in-Ok.ensures.id

pub returns-in_default-clause-asked : goal.returns-in_default-clause-asked
returns-in_default-clause-asked g c =
    let made = subst (λ (e : AssignFault). MadeSo (g.R.Rows.seen c.args.names.now.rows) (AssignMade (g.R.Rows.seen c.args.names.now.rows).base.widths c.args.rule.now.patterns c.args.kind c.args.name.now (Err e)) (g.R.Rows.seen c.assign.new.self.rows)) c.in-Err-Filtered.field-0-is c.in-Err-Filtered.ensures.made in
    assigned_without (admission c.args.config.now c.args.rule.now.patterns) _ _ c.args.kind c.in-Err-Filtered.kind c.args.name.now c.requires made

pub returns-in-Ok-again-clause-asked : goal.returns-in-Ok-again-clause-asked
returns-in-Ok-again-clause-asked g c =
    let made = subst (λ (e : AssignFault). MadeSo (g.R.Rows.seen c.args.names.now.rows) (AssignMade (g.R.Rows.seen c.args.names.now.rows).base.widths c.args.rule.now.patterns c.args.kind c.args.name.now (Err e)) (g.R.Rows.seen c.assign.new.self.rows)) c.in-Err-Filtered.field-0-is c.in-Err-Filtered.ensures.made in
    assigned_filtered (admission c.args.config.now c.args.rule.now.patterns) _ _ c.args.kind c.in-Err-Filtered.kind c.args.name.now _ c.in-Ok-again.ensures.same c.requires made

pub returns-in-Err-Exhausted-clause-asked : goal.returns-in-Err-Exhausted-clause-asked
returns-in-Err-Exhausted-clause-asked g c =
    let made = subst (λ (e : AssignFault). MadeSo (g.R.Rows.seen c.args.names.now.rows) (AssignMade (g.R.Rows.seen c.args.names.now.rows).base.widths c.args.rule.now.patterns c.args.kind c.args.name.now (Err e)) (g.R.Rows.seen c.assign.new.self.rows)) c.in-Err-Exhausted.field-0-is c.in-Err-Exhausted.ensures.made in
    assigned_full (admission c.args.config.now c.args.rule.now.patterns) _ _ c.args.kind c.in-Err-Exhausted.kind c.args.name.now c.requires made

pub returns-in-Err-OutOfMemory-clause-asked : goal.returns-in-Err-OutOfMemory-clause-asked
returns-in-Err-OutOfMemory-clause-asked g c =
    let made = subst (λ (e : AssignFault). MadeSo (g.R.Rows.seen c.args.names.now.rows) (AssignMade (g.R.Rows.seen c.args.names.now.rows).base.widths c.args.rule.now.patterns c.args.kind c.args.name.now (Err e)) (g.R.Rows.seen c.assign.new.self.rows)) c.in-Err-OutOfMemory.field-0-is c.in-Err-OutOfMemory.ensures.made in
    assigned_memory (admission c.args.config.now c.args.rule.now.patterns) _ _ c.args.kind c.args.name.now c.requires made

pub returns-in-Err-Stopped-clause-asked : goal.returns-in-Err-Stopped-clause-asked
returns-in-Err-Stopped-clause-asked g c =
    let made = subst (λ (e : AssignFault). MadeSo (g.R.Rows.seen c.args.names.now.rows) (AssignMade (g.R.Rows.seen c.args.names.now.rows).base.widths c.args.rule.now.patterns c.args.kind c.args.name.now (Err e)) (g.R.Rows.seen c.assign.new.self.rows)) c.in-Err-Stopped.field-0-is c.in-Err-Stopped.ensures.made in
    assigned_stopped (admission c.args.config.now c.args.rule.now.patterns) _ _ c.args.kind c.args.name.now c.requires made

use Rattle.std.proofs.Common.{subst}
use Rattle.std.specs.Prelude.{Err}
use Rattle.uid_table.specs.declared.id_answers.ResolveFault.{ResolveFault}
use Rattle.uid_table.specs.IdSteps.{MadeSo, ResolveMade}
use Rattle.point_put.specs.Admissions.{admission}
use Rattle.point_put.proofs.Asking.{resolved_ok, resolved_unknown, resolved_without, resolved_memory, resolved_stopped}
use Rattle.point_put.proofs.put_ids.resolved.Goals as goal

pub returns-in-Ok-clause-asked : goal.returns-in-Ok-clause-asked
returns-in-Ok-clause-asked g c = resolved_ok (admission c.args.config.now c.args.rule.now.patterns) _ _ c.args.kind c.args.name.now c.in-Ok.id c.in-Ok.ensures.made c.in-Ok.ensures.id

pub returns-in_default-clause-asked : goal.returns-in_default-clause-asked
returns-in_default-clause-asked g c =
    let made = subst (λ (e : ResolveFault). MadeSo (g.R.Rows.seen c.args.names.now.rows) (ResolveMade (g.R.Rows.seen c.args.names.now.rows).base.widths c.args.kind c.args.name.now (Err e)) (g.R.Rows.seen c.resolve.new.self.rows)) c.in-Err-Unknown.field-0-is c.in-Err-Unknown.ensures.made in
    resolved_without (admission c.args.config.now c.args.rule.now.patterns) _ _ c.args.kind c.in-Err-Unknown.kind c.args.name.now made

pub returns-in-Ok-again-clause-asked : goal.returns-in-Ok-again-clause-asked
returns-in-Ok-again-clause-asked g c =
    let made = subst (λ (e : ResolveFault). MadeSo (g.R.Rows.seen c.args.names.now.rows) (ResolveMade (g.R.Rows.seen c.args.names.now.rows).base.widths c.args.kind c.args.name.now (Err e)) (g.R.Rows.seen c.resolve.new.self.rows)) c.in-Err-Unknown.field-0-is c.in-Err-Unknown.ensures.made in
    resolved_unknown (admission c.args.config.now c.args.rule.now.patterns) _ _ c.args.kind c.in-Err-Unknown.kind c.args.name.now _ c.in-Ok-again.ensures.same c.requires made

pub returns-in-Err-OutOfMemory-clause-asked : goal.returns-in-Err-OutOfMemory-clause-asked
returns-in-Err-OutOfMemory-clause-asked g c =
    let made = subst (λ (e : ResolveFault). MadeSo (g.R.Rows.seen c.args.names.now.rows) (ResolveMade (g.R.Rows.seen c.args.names.now.rows).base.widths c.args.kind c.args.name.now (Err e)) (g.R.Rows.seen c.resolve.new.self.rows)) c.in-Err-OutOfMemory.field-0-is c.in-Err-OutOfMemory.ensures.made in
    resolved_memory (admission c.args.config.now c.args.rule.now.patterns) _ _ c.args.kind c.args.name.now made

pub returns-in-Err-Stopped-clause-asked : goal.returns-in-Err-Stopped-clause-asked
returns-in-Err-Stopped-clause-asked g c =
    let made = subst (λ (e : ResolveFault). MadeSo (g.R.Rows.seen c.args.names.now.rows) (ResolveMade (g.R.Rows.seen c.args.names.now.rows).base.widths c.args.kind c.args.name.now (Err e)) (g.R.Rows.seen c.resolve.new.self.rows)) c.in-Err-Stopped.field-0-is c.in-Err-Stopped.ensures.made in
    resolved_stopped (admission c.args.config.now c.args.rule.now.patterns) _ _ c.args.kind c.args.name.now made

use Rattle.std.proofs.Common.{subst}
use Rattle.std.specs.Prelude.{Ok}
use Rattle.uid_table.specs.IdSteps.{MadeSo, LookMade}
use Rattle.uid_table.proofs.Making.{assign_made}
use Rattle.uid_table.proofs.assign.look_or_give.Goals as goal

pub returns-in-None-clause-made : goal.returns-in-None-clause-made
returns-in-None-clause-made g c = assign_made _ _ _ c.args.rule.now.patterns c.args.kind c.args.row.now.bytes c.give_allowed.result (subst (λ o. MadeSo (g.R.Rows.seen c.args.rows.now) (LookMade (g.R.Rows.seen c.args.rows.now).base.widths c.args.kind c.args.row.now.bytes (Ok o)) (g.R.Rows.seen c.look.new.rows)) c.in-None.is c.in_ok-shown.ensures.made) c.give_allowed.ensures.made

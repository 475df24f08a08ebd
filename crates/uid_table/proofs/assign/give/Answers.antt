use Rattle.std.proofs.Common.{subst}
use Rattle.cell_model.specs.declared.answers.Bumped.{Bumped}
use Rattle.cell_model.specs.declared.events.Step.TheVariants.{Bump}
use Rattle.cell_model.specs.declared.events.Reply.TheVariants.{BumpReply}
use Rattle.cell_model.specs.Seen.{Stepped}
use Rattle.std.specs.Prelude.{Ok, Err}
use Rattle.uid_table.specs.IdSteps.{MadeSo, GiveMade}
use Rattle.uid_table.proofs.Making.{give_made, give_full, give_stopped, passed_on}
use Rattle.uid_table.proofs.assign.give.Goals as goal

pub bind-requires-clause-given : goal.bind-requires-clause-given
bind-requires-clause-given g c = (_, subst (λ (b : Bumped). Stepped (g.R.Rows.seen c.args.rows.now) (Bump c.args.kind) (BumpReply b) (g.R.Rows.seen c.bump.new.self)) c.in-Ok-Given.field-0-is c.in-Ok-Given.ensures.ok)

pub returns-in_err-bound-in-Ok-Given-clause-made : goal.returns-in_err-bound-in-Ok-Given-clause-made
returns-in_err-bound-in-Ok-Given-clause-made g c =
    let bumped = subst (λ (b : Bumped). Stepped (g.R.Rows.seen c.args.rows.now) (Bump c.args.kind) (BumpReply b) (g.R.Rows.seen c.bump.new.self)) c.in-Ok-Given.field-0-is c.in-Ok-Given.ensures.ok in
    let made = give_made _ _ _ c.args.kind c.args.name.now.bytes _ (Err c.in_err-bound-in-Ok-Given.field-0.0) bumped c.in-Ok-Given.ensures.possible c.in_err-bound-in-Ok-Given.ensures.made in
    passed_on (λ r. MadeSo (g.R.Rows.seen c.args.rows.now) (GiveMade (g.R.Rows.seen c.args.rows.now).base.widths c.args.kind c.args.name.now.bytes r) (g.R.Rows.seen c.bind.new.rows)) c.in_err-bound-in-Ok-Given.field-0.0 c.from_residual.result c.from_residual.ensures.1 made

pub returns-in_ok-bound-in-Ok-Given-clause-made : goal.returns-in_ok-bound-in-Ok-Given-clause-made
returns-in_ok-bound-in-Ok-Given-clause-made g c =
    let bumped = subst (λ (b : Bumped). Stepped (g.R.Rows.seen c.args.rows.now) (Bump c.args.kind) (BumpReply b) (g.R.Rows.seen c.bump.new.self)) c.in-Ok-Given.field-0-is c.in-Ok-Given.ensures.ok in
    give_made _ _ _ c.args.kind c.args.name.now.bytes _ (Ok c.in_ok-bound-in-Ok-Given.bound) bumped c.in-Ok-Given.ensures.possible c.in_ok-bound-in-Ok-Given.ensures.made

pub returns-in-Ok-Full-clause-made : goal.returns-in-Ok-Full-clause-made
returns-in-Ok-Full-clause-made g c =
    let bumped = subst (λ (b : Bumped). Stepped (g.R.Rows.seen c.args.rows.now) (Bump c.args.kind) (BumpReply b) (g.R.Rows.seen c.bump.new.self)) c.in-Ok-Full.field-0-is c.in-Ok-Full.ensures.ok in
    give_full _ _ c.args.kind c.args.name.now.bytes bumped c.in-Ok-Full.ensures.possible

pub returns-in-Err-clause-made : goal.returns-in-Err-clause-made
returns-in-Err-clause-made g c = give_stopped _ _ c.args.kind c.args.name.now.bytes c.in-Err.ensures.err c.in-Err.ensures.lives

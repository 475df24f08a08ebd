use Rattle.std.proofs.Common.{◌≡◌, subst, rules}
use Rattle.std.specs.Prelude.{Some}
use Rattle.cell_model.specs.Seen.{Waited}
use Rattle.cell_model.specs.declared.events.Step.TheVariants.{Read}
use Rattle.cell_model.specs.declared.events.Reply.TheVariants.{Shown}
use Rattle.cell_solo.specs.Turns.{sight}
use Rattle.weave_rows.specs.DaemonPlays.{IsAtWork}
use Rattle.weave_rows.proofs.Working.{if_ok, mid_waits, working}
use Rattle.weave_rows.proofs.Waiting.{wait_step}
use Rattle.weave_rows.proofs.daemon_rows.DaemonRowsRows.read.Goals as goal

pub invariant_of-self : goal.invariant_of-self
invariant_of-self g c =
    let is : c.self.inside.inner ≡ Some (c.in-Some.loom, c.in-Some.field-0-1) = search rules in
    working g.J.Beginning.history g.J.Beginning.caller g.N.NextDaemon.depth c.in-Some.loom c.read.new.self c.in-Some.field-0-1 c.in-Some.field-0-1 (Read c.args.row.now) Shown c.read.result
    (subst (IsAtWork g.J.Beginning.history g.J.Beginning.caller g.N.NextDaemon.depth) is c.self.invariant) c.read.ensures.steps c.read.ensures.stays

pub returns-clause-ok : goal.returns-clause-ok
returns-clause-ok g c =
    let is : c.self.inside.inner ≡ Some (c.in-Some.loom, c.in-Some.field-0-1) = search rules in
    if_ok c.read.result (λ v steps. wait_step _ _ _ _ _ (mid_waits (c.args.self.now.loom.play) c.may_step.new.self _ _ c.in-Some.loom c.in-Some.field-0-1 c.in-Ok.ensures.waited c.self.view_is is) steps.stepped) c.read.ensures.steps

use Rattle.std.proofs.Common.{◌≡◌, subst, rules}
use Rattle.std.specs.Prelude.{Some}
use Rattle.cell_model.specs.Seen.{Waited}
use Rattle.cell_model.specs.declared.events.Step.TheVariants.{DropCells}
use Rattle.cell_model.specs.declared.events.Reply.TheVariants.{Removed}
use Rattle.cell_solo.specs.Turns.{sight}
use Rattle.weave_rows.specs.DaemonPlays.{IsAtWork}
use Rattle.weave_rows.proofs.Working.{if_ok, mid_waits, working_sure}
use Rattle.weave_rows.proofs.Waiting.{drop_waits, wait_step}
use Rattle.weave_rows.proofs.daemon_rows.DaemonRowsRows.drop_cells.Goals as goal

pub drop_cells-requires-clause-knows : goal.drop_cells-requires-clause-knows
drop_cells-requires-clause-knows g c =
    let is : c.self.inside.inner ≡ Some (c.in-Some.loom, c.in-Some.field-0-1) = search rules in
    drop_waits (sight c.args.self.now.loom.play) (sight c.in-Some.loom.play) c.args.row c.args.which (mid_waits (c.args.self.now.loom.play) c.may_step.new.self _ _ c.in-Some.loom c.in-Some.field-0-1 c.in-Ok.ensures.waited c.self.view_is is) c.requires.knows

pub invariant_of-self : goal.invariant_of-self
invariant_of-self g c =
    let is : c.self.inside.inner ≡ Some (c.in-Some.loom, c.in-Some.field-0-1) = search rules in
    working_sure g.J.Beginning.history g.J.Beginning.caller g.N.NextDaemon.depth c.in-Some.loom c.drop_cells.new.self c.in-Some.field-0-1 c.in-Some.field-0-1 (DropCells c.args.row c.args.which) Removed c.drop_cells.result
    (subst (IsAtWork g.J.Beginning.history g.J.Beginning.caller g.N.NextDaemon.depth) is c.self.invariant) c.drop_cells.ensures.steps c.drop_cells.ensures.never

pub returns-clause-ok : goal.returns-clause-ok
returns-clause-ok g c =
    let is : c.self.inside.inner ≡ Some (c.in-Some.loom, c.in-Some.field-0-1) = search rules in
    if_ok c.drop_cells.result (λ v steps. wait_step _ _ _ _ _ (mid_waits (c.args.self.now.loom.play) c.may_step.new.self _ _ c.in-Some.loom c.in-Some.field-0-1 c.in-Ok.ensures.waited c.self.view_is is) steps.stepped) c.drop_cells.ensures.steps

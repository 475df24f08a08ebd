use Rattle.std.proofs.Common.{◌≡◌, subst, rules}
use Rattle.std.specs.Prelude.{Some}
use Rattle.cell_model.specs.Seen.{Waited}
use Rattle.cell_model.specs.declared.events.Step.TheVariants.{NextRow}
use Rattle.cell_model.specs.declared.events.Reply.TheVariants.{Next}
use Rattle.cell_solo.specs.Turns.{sight}
use Rattle.weave_rows.specs.DaemonPlays.{IsAtWork}
use Rattle.weave_rows.proofs.Working.{if_ok, mid_waits, working}
use Rattle.weave_rows.proofs.Waiting.{range_waits, wait_step}
use Rattle.weave_rows.proofs.daemon_rows.DaemonRowsRows.next_row.Goals as goal

pub next_row-requires : goal.next_row-requires
next_row-requires g c =
    let is : c.self.inside.inner ≡ Some (c.in-Some.loom, c.in-Some.field-0-1) = search rules in
    record { range = range_waits (sight c.args.self.now.loom.play) (sight c.in-Some.loom.play) c.args.table c.args.from.now c.args.to.now (mid_waits (c.args.self.now.loom.play) c.may_step.new.self _ _ c.in-Some.loom c.in-Some.field-0-1 c.in-Ok.ensures.waited c.self.view_is is) c.requires.range }

pub invariant_of-self : goal.invariant_of-self
invariant_of-self g c =
    let is : c.self.inside.inner ≡ Some (c.in-Some.loom, c.in-Some.field-0-1) = search rules in
    working g.J.Beginning.history g.J.Beginning.caller g.N.NextDaemon.depth c.in-Some.loom c.next_row.new.self c.in-Some.field-0-1 c.in-Some.field-0-1 (NextRow c.args.table c.args.from.now c.args.to.now) Next c.next_row.result
    (subst (IsAtWork g.J.Beginning.history g.J.Beginning.caller g.N.NextDaemon.depth) is c.self.invariant) c.next_row.ensures.steps c.next_row.ensures.stays

pub returns-clause-ok : goal.returns-clause-ok
returns-clause-ok g c =
    let is : c.self.inside.inner ≡ Some (c.in-Some.loom, c.in-Some.field-0-1) = search rules in
    if_ok c.next_row.result (λ v steps. wait_step _ _ _ _ _ (mid_waits (c.args.self.now.loom.play) c.may_step.new.self _ _ c.in-Some.loom c.in-Some.field-0-1 c.in-Ok.ensures.waited c.self.view_is is) steps.stepped) c.next_row.ensures.steps

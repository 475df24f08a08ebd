use Rattle.std.proofs.Common.{◌≡◌, subst, rules}
use Rattle.std.specs.Prelude.{Some}
use Rattle.tsd_base.specs.Points.{data_point}
use Rattle.cell_model.specs.Seen.{Waited}
use Rattle.cell_model.specs.declared.events.Step.TheVariants.{PutPoint}
use Rattle.cell_model.specs.declared.events.Reply.TheVariants.{Written}
use Rattle.cell_solo.specs.Turns.{sight}
use Rattle.cell_solo.proofs.CallerLemmas.{on_ok}
use Rattle.weave_rows.specs.DaemonPlays.{IsAtWork}
use Rattle.weave_rows.proofs.Working.{mid_waits, working_put}
use Rattle.weave_rows.proofs.Waiting.{put_waits, wait_step}
use Rattle.weave_rows.proofs.daemon_rows.DaemonRowsRows.put_point.Goals as goal

pub put_point-requires : goal.put_point-requires
put_point-requires g c =
    let is : c.self.inside.inner ≡ Some (c.in-Some.loom, c.in-Some.field-0-1) = search rules in
    record { knows = put_waits (sight c.args.self.now.loom.play) (sight c.in-Some.loom.play) (data_point c.args.point.now) c.args.row.now c.args.qual.now c.args.value.now (mid_waits (c.args.self.now.loom.play) c.may_step.new.self _ _ c.in-Some.loom c.in-Some.field-0-1 c.in-Ok.ensures.waited c.self.view_is is) c.requires.knows }

pub invariant_of-self : goal.invariant_of-self
invariant_of-self g c =
    let is : c.self.inside.inner ≡ Some (c.in-Some.loom, c.in-Some.field-0-1) = search rules in
    working_put g.J.Beginning.history g.J.Beginning.caller g.N.NextDaemon.depth c.in-Some.loom c.put_point.new.self c.in-Some.field-0-1 c.in-Some.field-0-1 (PutPoint (data_point c.args.point.now) c.args.row.now c.args.qual.now c.args.value.now) Written c.put_point.result
    (subst (IsAtWork g.J.Beginning.history g.J.Beginning.caller g.N.NextDaemon.depth) is c.self.invariant) c.put_point.ensures.steps c.put_point.ensures.stays

pub returns-clause-ok : goal.returns-clause-ok
returns-clause-ok g c =
    let is : c.self.inside.inner ≡ Some (c.in-Some.loom, c.in-Some.field-0-1) = search rules in
    on_ok c.put_point.result (λ steps. wait_step _ _ _ _ _ (mid_waits (c.args.self.now.loom.play) c.may_step.new.self _ _ c.in-Some.loom c.in-Some.field-0-1 c.in-Ok.ensures.waited c.self.view_is is) steps.stepped) c.put_point.ensures.steps

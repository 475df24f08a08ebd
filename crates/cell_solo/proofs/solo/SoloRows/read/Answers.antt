use Rattle.std.proofs.Common.{ap, refl}
use Rattle.cell_model.specs.declared.events.Step.TheVariants.{Read}
use Rattle.cell_model.specs.declared.events.Reply.TheVariants.{Shown}
use Rattle.cell_solo.proofs.Plays.{solo_step}
use Rattle.cell_solo.proofs.solo.SoloRows.read.Goals as goal

pub invariant_of-self-2 : goal.invariant_of-self-2
invariant_of-self-2 g c =
    let s = solo_step _ _ _ _ _ _ _ _ (Read c.args.row.now) (Shown c.in_ok-cells.cells) _ c.self.invariant c.self.view_is c.add_read.ensures.list c.in_ok-reserve.ensures.list refl tt (ap Shown c.in_ok-cells.ensures) refl refl in
    s.played _

pub returns-clause-steps : goal.returns-clause-steps
returns-clause-steps g c =
    let s = solo_step _ _ _ _ _ _ _ _ (Read c.args.row.now) (Shown c.in_ok-cells.cells) _ c.self.invariant c.self.view_is c.add_read.ensures.list c.in_ok-reserve.ensures.list refl tt (ap Shown c.in_ok-cells.ensures) refl refl in
    s.steps _

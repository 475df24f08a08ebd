use Rattle.std.proofs.Common.{ap, refl}
use Rattle.cell_model.specs.declared.events.Step.TheVariants.{DropCells}
use Rattle.cell_model.specs.declared.events.Reply.TheVariants.{Removed}
use Rattle.cell_solo.proofs.Plays.{solo_step}
use Rattle.cell_solo.proofs.solo.SoloRows.drop_cells.Goals as goal

pub invariant_of-self : goal.invariant_of-self
invariant_of-self g c =
    let s = solo_step _ _ _ _ _ _ _ _ (DropCells c.args.row c.args.which) (Removed c.drop_cells-count.result) _ c.self.invariant c.self.view_is c.add_drops.ensures.list refl c.drop_cells-count.ensures.covers c.requires.knows (ap Removed c.drop_cells-count.ensures.count) c.drop_cells-count.ensures.content refl in
    s.played _

pub returns-clause-steps : goal.returns-clause-steps
returns-clause-steps g c =
    let s = solo_step _ _ _ _ _ _ _ _ (DropCells c.args.row c.args.which) (Removed c.drop_cells-count.result) _ c.self.invariant c.self.view_is c.add_drops.ensures.list refl c.drop_cells-count.ensures.covers c.requires.knows (ap Removed c.drop_cells-count.ensures.count) c.drop_cells-count.ensures.content refl in
    s.steps _

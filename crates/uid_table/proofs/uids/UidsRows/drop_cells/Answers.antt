use Rattle.cell_model.specs.declared.events.Step.TheVariants.{DropCells}
use Rattle.cell_model.specs.declared.events.Reply.TheVariants.{Removed}
use Rattle.uid_table.proofs.Keeping.{kept_on, step_on}
use Rattle.uid_table.proofs.uids.UidsRows.drop_cells.Goals as goal

pub invariant_of-self : goal.invariant_of-self
invariant_of-self g c = kept_on _ _ _ _ _ c.self.invariant (step_on _ _ (DropCells c.args.row c.args.which) Removed c.drop_cells.result c.drop_cells.ensures.ok c.drop_cells.ensures.err c.drop_cells.ensures.possible c.drop_cells.ensures.lives)

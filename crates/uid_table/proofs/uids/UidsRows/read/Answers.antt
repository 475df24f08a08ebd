use Rattle.cell_model.specs.declared.events.Step.TheVariants.{Read}
use Rattle.cell_model.specs.declared.events.Reply.TheVariants.{Shown}
use Rattle.uid_table.proofs.Keeping.{kept_on, step_on}
use Rattle.uid_table.proofs.uids.UidsRows.read.Goals as goal

pub invariant_of-self : goal.invariant_of-self
invariant_of-self g c = kept_on _ _ _ _ _ c.self.invariant (step_on _ _ (Read c.args.row.now) Shown c.read.result c.read.ensures.ok c.read.ensures.err c.read.ensures.possible c.read.ensures.lives)

use Rattle.cell_model.specs.declared.events.Step.TheVariants.{Bump}
use Rattle.cell_model.specs.declared.events.Reply.TheVariants.{BumpReply}
use Rattle.uid_table.proofs.Keeping.{kept_on, step_on}
use Rattle.uid_table.proofs.uids.UidsRows.bump.Goals as goal

pub invariant_of-self : goal.invariant_of-self
invariant_of-self g c = kept_on _ _ _ _ _ c.self.invariant (step_on _ _ (Bump c.args.kind) BumpReply c.bump.result c.bump.ensures.ok c.bump.ensures.err c.bump.ensures.possible c.bump.ensures.lives)

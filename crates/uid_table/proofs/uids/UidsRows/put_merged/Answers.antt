use Rattle.cell_model.specs.declared.events.Step.TheVariants.{PutMerged}
use Rattle.cell_model.specs.declared.events.Reply.TheVariants.{Written}
use Rattle.uid_table.proofs.Keeping.{kept_on, step_on}
use Rattle.uid_table.proofs.uids.UidsRows.put_merged.Goals as goal

pub invariant_of-self : goal.invariant_of-self
invariant_of-self g c = kept_on _ _ _ _ _ c.self.invariant (step_on _ _ (PutMerged c.args.row.now c.args.qual.now c.args.value.now) (λ x. Written) c.put_merged.result c.put_merged.ensures.ok c.put_merged.ensures.err c.put_merged.ensures.possible c.put_merged.ensures.lives)

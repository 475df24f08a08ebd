use Rattle.cell_model.specs.declared.events.Step.TheVariants.{Claim}
use Rattle.cell_model.specs.declared.events.Reply.TheVariants.{ClaimReply}
use Rattle.uid_table.proofs.Keeping.{kept_on, step_on}
use Rattle.uid_table.proofs.uids.UidsRows.claim.Goals as goal

pub invariant_of-self : goal.invariant_of-self
invariant_of-self g c = kept_on _ _ _ _ _ c.self.invariant (step_on _ _ (Claim c.args.row.now c.args.qual.now c.args.value.now) ClaimReply c.claim.result c.claim.ensures.ok c.claim.ensures.err c.claim.ensures.possible c.claim.ensures.lives)

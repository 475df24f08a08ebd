use Rattle.uid_table.proofs.Keeping.{kept_on, made_on}
use Rattle.uid_table.proofs.uids.Uids.suggest.Goals as goal

pub invariant_of-self : goal.invariant_of-self
invariant_of-self g c = kept_on _ _ _ _ _ c.self.invariant (made_on _ _ _ c.suggest_in.ensures.made)

use Rattle.uid_table.proofs.Keeping.{capped_on, ids_kept, series_kept, made_on, still_within}
use Rattle.uid_table.proofs.uids.Uids.name_of.Goals as goal

pub invariant_of-self : goal.invariant_of-self
invariant_of-self g c = (ids_kept _ _ _ (made_on _ _ _ c.name_of_in.ensures.made) c.self.invariant.0, c.name_of_in.ensures.kept, series_kept _ _ _ (made_on _ _ _ c.name_of_in.ensures.made) c.self.invariant.2, capped_on _ _ _ _ (still_within _) c.name_of_in.ensures.cap c.self.invariant.3)

pub returns-clause-kept_names : goal.returns-clause-kept_names
returns-clause-kept_names g c = rw (← c.self.view_is) c.name_of_in.ensures.cap

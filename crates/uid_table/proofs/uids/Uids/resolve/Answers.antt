use Rattle.std.proofs.Common.{[], refl}
use Rattle.uid_table.proofs.Making.{nothing_made}
use Rattle.uid_table.proofs.Keeping.{capped_on, names_kept, series_kept, made_on, still_within}
use Rattle.uid_table.proofs.uids.Uids.resolve.Goals as goal

pub returns-in_default-clause-made : goal.returns-in_default-clause-made
returns-in_default-clause-made g c = ([], nothing_made _, refl)

pub invariant_of-self : goal.invariant_of-self
invariant_of-self g c = (c.resolve_in.ensures.kept, names_kept _ _ _ (made_on _ _ _ c.resolve_in.ensures.made) c.self.invariant.1, series_kept _ _ _ (made_on _ _ _ c.resolve_in.ensures.made) c.self.invariant.2, capped_on _ _ _ _ c.resolve_in.ensures.cap (still_within _) c.self.invariant.3)

pub returns-clause-kept_ids : goal.returns-clause-kept_ids
returns-clause-kept_ids g c = rw (← c.self.view_is) c.resolve_in.ensures.cap

pub returns-in_default-clause-kept_ids : goal.returns-in_default-clause-kept_ids
returns-in_default-clause-kept_ids g c = still_within _

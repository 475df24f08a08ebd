use Rattle.uid_table.specs.Cache.{IsShownId, IsShownName}
use Rattle.uid_table.proofs.Keeping.{capped_on, emptied_within, no_pairs, none_kept}
use Rattle.uid_table.proofs.uids.Uids.drop_cache.Goals as goal

pub invariant_of-self : goal.invariant_of-self
invariant_of-self g c = (
  no_pairs (IsShownId (g.R.Rows.seen c.self.inside.rows)) _ _ c.forget.ensures.ids,
  no_pairs (IsShownName (g.R.Rows.seen c.self.inside.rows)) _ _ c.forget.ensures.names,
  none_kept (g.R.Rows.seen c.self.inside.rows) _ c.clear.ensures,
  capped_on _ _ _ _ (emptied_within _ _ c.forget.ensures.ids) (emptied_within _ _ c.forget.ensures.names) c.self.invariant.3,
)

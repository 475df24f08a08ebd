use Rattle.std.proofs.Common.{◌∙◌}
use Rattle.uid_table.proofs.Keeping.{same_name_key, found_kept, after_get, cap_get}
use Rattle.uid_table.proofs.cache.kept_id.Goals as goal

pub returns-clause-found : goal.returns-clause-found
returns-clause-found c = found_kept _ same_name_key _ c.args.key.now c.copied.result (c.copied.ensures ∙ c.get.ensures.value)

pub returns-clause-kept : goal.returns-clause-kept
returns-clause-kept c = after_get _ same_name_key _ _ c.args.key.now c.get.follows.holds-at-none

pub returns-clause-cap : goal.returns-clause-cap
returns-clause-cap c = cap_get _ same_name_key _ _ c.args.key.now c.get.follows.holds-at-none

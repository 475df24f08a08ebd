use Rattle.uid_table.specs.Cache.{IsShownId}
use Rattle.uid_table.proofs.Keeping.{same_name_key, after_put, cap_put}
use Rattle.uid_table.proofs.cache.keep_id.Goals as goal

pub returns-clause-shown : goal.returns-clause-shown
returns-clause-shown c s all one = after_put _ same_name_key (IsShownId s) _ _ c.args.key c.args.id c.put.result c.put.ensures.entries c.put.ensures.err all one

pub returns-clause-cap : goal.returns-clause-cap
returns-clause-cap c = cap_put _ same_name_key _ _ c.args.key c.args.id c.put.result c.put.ensures.entries c.put.ensures.err

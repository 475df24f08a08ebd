use Rattle.std.proofs.Common.{sym, subst}
use Rattle.uid_table.specs.Cache.{IsShownName}
use Rattle.uid_table.proofs.Keeping.{same_id_key, after_put, cap_put}
use Rattle.uid_table.proofs.cache.keep_name.Goals as goal

pub returns-in-Ok-clause-shown : goal.returns-in-Ok-clause-shown
returns-in-Ok-clause-shown c s all one =
    after_put _ same_id_key (IsShownName s) _ _ c.args.key c.in-Ok.name c.put.result c.put.ensures.entries c.put.ensures.err all (subst (λ n. IsShownName s (c.args.key, n)) (sym c.in-Ok.ensures.same) one)

pub returns-in-Ok-clause-cap : goal.returns-in-Ok-clause-cap
returns-in-Ok-clause-cap c = cap_put _ same_id_key _ _ c.args.key c.in-Ok.name c.put.result c.put.ensures.entries c.put.ensures.err

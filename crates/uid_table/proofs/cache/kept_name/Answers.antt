use Rattle.uid_table.proofs.Keeping.{same_id_key, copy_kept, after_get, cap_get}
use Rattle.uid_table.proofs.cache.kept_name.Goals as goal

pub returns-in_err-again-in-Some-clause-kept : goal.returns-in_err-again-in-Some-clause-kept
returns-in_err-again-in-Some-clause-kept c = after_get _ same_id_key _ _ c.args.key c.get.follows.holds-at-none

pub returns-in_ok-again-in-Some-clause-found : goal.returns-in_ok-again-in-Some-clause-found
returns-in_ok-again-in-Some-clause-found c = copy_kept _ same_id_key _ c.args.key _ _ _ c.get.ensures.value c.in-Some.is c.in_ok-again-in-Some.ensures.same

pub returns-in_ok-again-in-Some-clause-kept : goal.returns-in_ok-again-in-Some-clause-kept
returns-in_ok-again-in-Some-clause-kept c = after_get _ same_id_key _ _ c.args.key c.get.follows.holds-at-none

pub returns-in-None-clause-kept : goal.returns-in-None-clause-kept
returns-in-None-clause-kept c = after_get _ same_id_key _ _ c.args.key c.get.follows.holds-at-none

pub returns-in_err-again-in-Some-clause-cap : goal.returns-in_err-again-in-Some-clause-cap
returns-in_err-again-in-Some-clause-cap c = cap_get _ same_id_key _ _ c.args.key c.get.follows.holds-at-none

pub returns-in_ok-again-in-Some-clause-cap : goal.returns-in_ok-again-in-Some-clause-cap
returns-in_ok-again-in-Some-clause-cap c = cap_get _ same_id_key _ _ c.args.key c.get.follows.holds-at-none

pub returns-in-None-clause-cap : goal.returns-in-None-clause-cap
returns-in-None-clause-cap c = cap_get _ same_id_key _ _ c.args.key c.get.follows.holds-at-none

use Rattle.std.proofs.Common.{refl}
use Rattle.uid_table.proofs.Keeping.{ids_kept, made_on, shown_as}
use Rattle.uid_table.proofs.uids.assign_anew.Goals as goal

pub returns-in_err-assigned-clause-kept : goal.returns-in_err-assigned-clause-kept
returns-in_err-assigned-clause-kept g c = ids_kept _ _ _ (made_on _ _ _ c.look_or_give.ensures.made) c.requires.kept

pub returns-clause-kept : goal.returns-clause-kept
returns-clause-kept g c =
    let shown = shown_as _ c.args.key _ _ _ _ refl refl c.id.ensures c.in_ok-assigned.ensures.id c.in_ok-assigned.ensures.leaves.possible in
    c.keep_id.ensures.shown _ (ids_kept _ _ _ (made_on _ _ _ c.look_or_give.ensures.made) c.requires.kept) shown

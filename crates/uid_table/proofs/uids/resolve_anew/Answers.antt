use Rattle.std.proofs.Common.{refl}
use Rattle.uid_table.specs.Shown.{HasShown}
use Rattle.uid_table.proofs.Keeping.{ids_kept, made_on, one_found, shown_as}
use Rattle.uid_table.proofs.uids.resolve_anew.Goals as goal

pub returns-in_err-shown-clause-kept : goal.returns-in_err-shown-clause-kept
returns-in_err-shown-clause-kept g c = ids_kept _ _ _ (made_on _ _ _ c.look.ensures.made) c.requires.kept

pub returns-in-None-clause-kept : goal.returns-in-None-clause-kept
returns-in-None-clause-kept g c = ids_kept _ _ _ (made_on _ _ _ c.look.ensures.made) c.requires.kept

pub returns-in-Some-clause-kept : goal.returns-in-Some-clause-kept
returns-in-Some-clause-kept g c =
    let id = one_found (HasShown (g.R.Rows.seen c.look.new.rows) c.args.key.kind c.args.key.row.bytes) _ c.in-Some.id c.in-Some.is c.in_ok-shown.ensures.id in
    let shown = shown_as _ c.args.key _ _ _ _ refl refl refl id c.in_ok-shown.ensures.leaves.possible in
    c.keep_id.ensures.shown _ (ids_kept _ _ _ (made_on _ _ _ c.look.ensures.made) c.requires.kept) shown

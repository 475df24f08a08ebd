use Rattle.uid_table.proofs.Keeping.{names_kept, made_on}
use Rattle.uid_table.proofs.uids.name_anew.Goals as goal

pub returns-in_err-name-clause-kept : goal.returns-in_err-name-clause-kept
returns-in_err-name-clause-kept g c = names_kept _ _ _ (made_on _ _ _ c.name_in.ensures.made) c.requires.kept

pub returns-clause-kept : goal.returns-clause-kept
returns-clause-kept g c = c.keep_name.ensures.shown _ (names_kept _ _ _ (made_on _ _ _ c.name_in.ensures.made) c.requires.kept) (c.in_ok-name.ensures.name, c.in_ok-name.ensures.leaves.possible)

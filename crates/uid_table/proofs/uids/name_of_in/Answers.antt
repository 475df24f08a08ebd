use Rattle.std.proofs.Common.{[], refl, inl, subst, arith}
use Rattle.std.specs.Prelude.{Contains, IfSome}
use Rattle.uid_table.specs.Cache.{IsShownName}
use Rattle.uid_table.proofs.Making.{nothing_made}
use Rattle.uid_table.proofs.Keeping.{look_kept}
use Rattle.uid_table.proofs.uids.name_of_in.Goals as goal

pub name_anew-requires-clause-kept : goal.name_anew-requires-clause-kept
name_anew-requires-clause-kept g c = look_kept (IsShownName (g.R.Rows.seen c.args.rows.now)) _ _ c.kept_name.ensures.kept c.requires.kept

pub returns-in-Ok-Some-clause-made : goal.returns-in-Ok-Some-clause-made
returns-in-Ok-Some-clause-made g c = ([], nothing_made _, inl refl)

pub returns-in-Ok-Some-clause-name : goal.returns-in-Ok-Some-clause-name
returns-in-Ok-Some-clause-name g c =
    let found = subst (λ o. IfSome o (λ name. Contains c.args.names.now.entries (c.args.key, name))) c.in-Ok-Some.field-0-is c.in-Ok-Some.ensures.found in
    (c.requires.kept _ found).0

pub returns-in-Ok-Some-clause-leaves : goal.returns-in-Ok-Some-clause-leaves
returns-in-Ok-Some-clause-leaves g c =
    let found = subst (λ o. IfSome o (λ name. Contains c.args.names.now.entries (c.args.key, name))) c.in-Ok-Some.field-0-is c.in-Ok-Some.ensures.found in
    record { possible = (c.requires.kept _ found).1; grows = omega arith; rose = tt }

pub returns-in-Ok-Some-clause-kept : goal.returns-in-Ok-Some-clause-kept
returns-in-Ok-Some-clause-kept g c = look_kept (IsShownName (g.R.Rows.seen c.args.rows.now)) _ _ c.kept_name.ensures.kept c.requires.kept

pub returns-in-Err-clause-made : goal.returns-in-Err-clause-made
returns-in-Err-clause-made g c = ([], nothing_made _, inl refl)

pub returns-in-Err-clause-kept : goal.returns-in-Err-clause-kept
returns-in-Err-clause-kept g c = look_kept (IsShownName (g.R.Rows.seen c.args.rows.now)) _ _ c.kept_name.ensures.kept c.requires.kept

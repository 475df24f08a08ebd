use Rattle.std.proofs.Common.{[], refl, inl, arith}
use Rattle.uid_table.specs.Cache.{IsShownId}
use Rattle.uid_table.proofs.Making.{nothing_made}
use Rattle.uid_table.proofs.Keeping.{look_kept}
use Rattle.uid_table.proofs.uids.assign_in.Goals as goal

pub assign_anew-requires-clause-kept : goal.assign_anew-requires-clause-kept
assign_anew-requires-clause-kept g c = look_kept (IsShownId (g.R.Rows.seen c.args.rows.now)) _ _ c.kept_id.ensures.kept c.requires.kept

pub returns-in-Some-clause-made : goal.returns-in-Some-clause-made
returns-in-Some-clause-made g c = ([], nothing_made _, inl refl)

pub returns-in-Some-clause-id : goal.returns-in-Some-clause-id
returns-in-Some-clause-id g c = (c.requires.kept _ c.in-Some.ensures.found).0

pub returns-in-Some-clause-leaves : goal.returns-in-Some-clause-leaves
returns-in-Some-clause-leaves g c = record { possible = (c.requires.kept _ c.in-Some.ensures.found).1; grows = omega arith; rose = tt }

pub returns-in-Some-clause-kept : goal.returns-in-Some-clause-kept
returns-in-Some-clause-kept g c = look_kept (IsShownId (g.R.Rows.seen c.args.rows.now)) _ _ c.kept_id.ensures.kept c.requires.kept

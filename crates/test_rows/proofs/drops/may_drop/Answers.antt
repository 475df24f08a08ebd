use Rattle.std.proofs.Common.{refl}
use Rattle.test_rows.proofs.Allowing.{drop_known, if_some}
use Rattle.test_rows.proofs.Passing.{if_ok}
use Rattle.test_rows.proofs.drops.may_drop.Goals as goal

pub returns : goal.returns
returns c = if_ok c.below.result (λ found. if_some found (λ which below s all. drop_known s c.args.facts.now c.args.row.now which all (c.if-not-is_points.ensures refl) below)) c.below.ensures

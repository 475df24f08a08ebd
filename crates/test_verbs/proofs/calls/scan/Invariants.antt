use Rattle.std.proofs.Common.{◌≡◌}
use Rattle.test_verbs.proofs.calls.scan.Given as goal

-- the ids of the rows have the widths that the scan was started with
abbrev pub invariant-loop : goal.invariant-loop
invariant-loop g l = l.scan.widths ≡ (g.R.Rows.seen l.names.rows).base.widths

use Rattle.std.proofs.Common.{◌≡◌, drop}
use Rattle.test_rows.proofs.Lines.{looked}
use Rattle.test_rows.proofs.base.value_in.Given as goal

-- what is left decides
abbrev pub invariant-loop-line : goal.invariant-loop-line
invariant-loop-line l =
    looked l.lines (record { row = record { table = l.table; bytes = l.row }; qual = l.qual }) ≡ looked (drop l.line-index l.lines) (record { row = record { table = l.table; bytes = l.row }; qual = l.qual })

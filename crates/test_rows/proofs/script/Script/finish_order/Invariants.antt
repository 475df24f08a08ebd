use Rattle.test_rows.specs.Sharing.{Passes}
use Rattle.test_rows.proofs.script.Script.finish_order.Given as goal

-- caller 1 only waited
abbrev pub invariant-loop : goal.invariant-loop
invariant-loop l = Passes l.fn.shared.solo l.shared.solo

use Rattle.test_rows.specs.Sharing.{Passes}
use Rattle.test_rows.proofs.script.finish_parts.Given as goal

-- caller 1 only waited
abbrev pub invariant-loop-part : goal.invariant-loop-part
invariant-loop-part l = Passes l.fn.shared.solo l.shared.solo

use Rattle.std.specs.Prelude.{◌≡◌, length}
use Rattle.closable_queues.proofs.closable.new_signals.Given as goal

abbrev pub invariant-loop-made : goal.invariant-loop-made
invariant-loop-made l = length l.signals.items ≡ l._made

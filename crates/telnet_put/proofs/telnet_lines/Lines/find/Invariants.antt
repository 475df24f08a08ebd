use Rattle.std.proofs.Common.{length}
use Rattle.telnet_put.specs.Sessions.{ComesAs}
use Rattle.telnet_put.proofs.telnet_lines.Lines.find.Given as goal

abbrev pub invariant-loop-self : goal.invariant-loop-self
invariant-loop-self l = ComesAs l.fn.self (record { bytes = l.self-inside.buffer; closed = l.self-inside.closed })

abbrev pub decreases-loop-self : goal.decreases-loop-self
decreases-loop-self l = length l.self-inside.buffer

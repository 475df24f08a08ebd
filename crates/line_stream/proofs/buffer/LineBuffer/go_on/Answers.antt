use Rattle.std.proofs.Common.{ap, arith, length}
use Rattle.line_stream.proofs.SearchLemmas.{skip_searched}
use Rattle.line_stream.proofs.buffer.LineBuffer.go_on.Goals as goal

pub invariant_of-self : goal.invariant_of-self
invariant_of-self c =
    let i = c.self.inside in
    let seen = ap length c.self.view_is in
    let within = c.requires in
    rw c.max-self-inside.ensures (skip_searched i.block.items i.start i.searched c.args.count c.self.invariant (omega (arith, seen, within)))

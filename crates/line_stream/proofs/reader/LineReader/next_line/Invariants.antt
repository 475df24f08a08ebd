use Rattle.std.proofs.Common.{◌-◌, ◌^◌, ◌≤◌}
use Rattle.line_stream.proofs.ReaderLemmas.{HasTaken}
use Rattle.line_stream.proofs.reader.LineReader.next_line.Given as goal

abbrev pub invariant-loop-line : goal.invariant-loop-line
invariant-loop-line g l =
    let s = g.S.Source in
    record {
      takes : HasTaken (s.taken l.fn.source) (s.taken l.source) (s.left l.fn.source) (s.left l.source) l.fn.self l.self;
      later : s.faults l.fn.source ≤ s.faults l.source;
    }

abbrev pub decreases-loop-line : goal.decreases-loop-line
decreases-loop-line g l = 2 ^ 40 - l.self.taken

use Rattle.std.proofs.Common.{◌-◌, ◌^◌, ◌≤◌}
use Rattle.line_stream.proofs.ReaderLemmas.{HasSkipped}
use Rattle.line_stream.proofs.reader.LineReader.skip_to_end.Given as goal

abbrev pub invariant-loop-self : goal.invariant-loop-self
invariant-loop-self g l =
    let s = g.S.Source in
    record {
      takes : HasSkipped (s.taken l.fn.source) (s.taken l.source) (s.left l.fn.source) (s.left l.source) l.fn.self l.self;
      later : s.faults l.fn.source ≤ s.faults l.source;
    }

abbrev pub decreases-loop-self : goal.decreases-loop-self
decreases-loop-self g l = 2 ^ 40 - l.self.taken

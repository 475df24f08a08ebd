use Rattle.std.proofs.Common.{◌-◌, ◌^◌, ◌≤◌}
use Rattle.cell_image.specs.ImageTakes.{taken_to}
use Rattle.cell_image.proofs.StreamTurns.{HasTaken}
use Rattle.cell_image.proofs.image_stream.ImageStream.take_head.Given as goal

abbrev pub invariant-loop-head : goal.invariant-loop-head
invariant-loop-head g l =
    let s = g.S.Source in
    record {
      takes : HasTaken (s.taken l.fn.source) (s.taken l.source) (s.left l.fn.source) (s.left l.source) l.fn.self l.self;
      later : s.faults l.fn.source ≤ s.faults l.source;
    }

abbrev pub decreases-loop-head : goal.decreases-loop-head
decreases-loop-head g l = 2 ^ 40 - taken_to l.self

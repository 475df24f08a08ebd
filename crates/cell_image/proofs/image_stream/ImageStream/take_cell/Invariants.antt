use Rattle.std.proofs.Common.{◌≡◌, ◌-◌, ◌^◌, ◌≤◌}
use Rattle.cell_image.specs.ImageTakes.{taken_to}
use Rattle.cell_image.proofs.StreamTurns.{HasTaken}
use Rattle.cell_image.proofs.image_stream.ImageStream.take_cell.Given as goal

abbrev pub invariant-loop-fault : goal.invariant-loop-fault
invariant-loop-fault g l =
    let s = g.S.Source in
    record {
      takes : HasTaken (s.taken l.fn.source) (s.taken l.source) (s.left l.fn.source) (s.left l.source) l.fn.self l.self;
      same : l.listing ≡ l.fn.listing;
      later : s.faults l.fn.source ≤ s.faults l.source;
    }

abbrev pub decreases-loop-fault : goal.decreases-loop-fault
decreases-loop-fault g l = 2 ^ 40 - taken_to l.self

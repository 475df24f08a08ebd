use Rattle.std.proofs.Common.{◌-◌, ◌≤◌}
use Rattle.cell_image.specs.Images.{width_bytes}
use Rattle.cell_image.proofs.StreamTurns.{IsReading}
use Rattle.cell_image.proofs.image_stream.take_image.Given as goal

abbrev pub invariant-loop-done : goal.invariant-loop-done
invariant-loop-done g l =
    let s = g.S.Source in
    record {
      reads : IsReading (s.taken l.fn.source) (s.taken l.source) (s.left l.fn.source) (s.left l.source) (width_bytes l.listing.widths) (l.done-end - l.done) l.listing.lines l.stream;
      later : s.faults l.fn.source ≤ s.faults l.source;
    }

use Rattle.std.proofs.Common.{arith}
use Rattle.cell_laws.proofs.Joins.{parts-joined, step_in_part, widths_are, set_parts, stepped_part, reply_in_part}
use Rattle.cell_laws.proofs.part_laws.steps_in_parts.Goals as goal

pub returns : goal.returns
returns c = record {
  parts = parts-joined;
  steps = λ w region ps k place step are lt is. (step_in_part w region ps k place step are lt is, set_parts w region 0 ps k k _ are (omega arith) (stepped_part w region ps k place step are is) (widths_are w region 0 ps k are));
  replies = reply_in_part;
}

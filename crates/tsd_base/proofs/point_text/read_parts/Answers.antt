use Rattle.tsd_base.proofs.point_text.read_parts.Goals as goal

pub invariant_of-result : goal.invariant_of-result
invariant_of-result c = record { timed = c.in_ok-time.ensures.timed }

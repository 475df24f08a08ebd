use Rattle.std.proofs.Common.{take}
use Rattle.series_meta.specs.HourWalks.{GivesLatest}
use Rattle.series_meta.proofs.latest_dot.latest_offset.Given as goal

-- the latest of the offsets so far
abbrev pub invariant-loop-dot : goal.invariant-loop-dot
invariant-loop-dot l = GivesLatest (take l.dot-index l.dots) l.fn.most l.latest

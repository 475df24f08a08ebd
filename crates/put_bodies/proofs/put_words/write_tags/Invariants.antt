use Rattle.std.proofs.Common.{length}
use Rattle.json.specs.Json.{Members}
use Rattle.json.specs.Find.{InMembers}
use Rattle.put_bodies.proofs.TagTurns.{TagsSoFar}
use Rattle.put_bodies.proofs.put_words.write_tags.Given as goal

abbrev pub invariant-loop-key : goal.invariant-loop-key
invariant-loop-key l = (ms : Members) → InMembers l.fn.members ms → TagsSoFar ms l.rest l.fn.line.items l.line.items

abbrev pub decreases-loop-key : goal.decreases-loop-key
decreases-loop-key l = length l.rest

use Rattle.std.proofs.Common.{arith}
use Rattle.tsd_base.proofs.TagLemmas.{would_stand, stands, stands_before}
use Rattle.tsd_base.proofs.tags.place_of.Goals as goal

pub returns-in-Less : goal.returns-in-Less
returns-in-Less c = would_stand _ _ _ _ c.requires (omega arith) c.loop-at.invariant.within (rw c.bytes.ensures.bytes at c.in-Less.ensures) c.loop-at.invariant.behind

pub returns-in-Equal : goal.returns-in-Equal
returns-in-Equal c = stands _ _ _ _ (omega arith) c.loop-at.invariant.within (rw c.bytes.ensures.bytes at c.in-Equal.ensures)

pub loop-at-preserved : goal.loop-at-preserved
loop-at-preserved c = record {
  within = omega arith;
  behind = stands_before _ _ _ _ (omega arith) c.loop-at.invariant.within (rw c.bytes.ensures.bytes at c.in-Greater.ensures) c.loop-at.invariant.behind;
}

use Rattle.std.proofs.Common.{arith}
use Rattle.region_locks.proofs.UnopenedRegions.{next_held}
use Rattle.region_locks.proofs.region_lock.Held.first.Goals as goal

pub new-requires : goal.new-requires
new-requires g c =
    let h = (next_held g.J.StepNames.counter g.J.StepNames.name g.row.N c.args.regions.now c.next.new.self c.args.licences.now c.next-2.new.self _ _ _ _ c.in-Some.is c.in-Some-next.is c.requires.unopened c.next.ensures.cases c.next-2.ensures.cases).0 in
    (omega arith, h)

use Rattle.std.proofs.Common.{◌≡◌, subst, arith}
use Rattle.region_locks.specs.StepOrders.{step_of}
use Rattle.region_locks.specs.StepEntries.{MayRun}
use Rattle.region_locks.proofs.five_locks.FiveLocks.run.Goals as goal

pub run-requires-else-region-4 : goal.run-requires-else-region-4
run-requires-else-region-4 g c =
    let last = c.requires.order in let least = c.requires.least in let most = c.requires.most in
    let one = c.if-region.false in let two = c.if-region-2.false in let three = c.if-region-3.false in let four = c.if-region-4.false in
    let is : c.args.region ≡ g.row.E = omega (arith, last, least, most, one, two, three, four) in
    (omega arith, subst (λ r. MayRun g.J.StepNames.counter g.J.StepNames.name r c.args.pass.now (step_of c.args.order.now)) is c.requires.may)

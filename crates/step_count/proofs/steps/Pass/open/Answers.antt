use Rattle.std.proofs.Common.{rules, ◌∙◌, ap, ◌+◌}
use Rattle.step_count.proofs.CounterTurns.{waits, opened_as}
use Rattle.step_count.proofs.WordSteps.{opens_later}
use Rattle.step_count.proofs.steps.Pass.open.Goals as goal

pub loop-preserved-then-seen : goal.loop-preserved-then-seen
loop-preserved-then-seen g c =
    let i = c.loop.invariant in let e = c.learn-seen-then-seen.ensures in
    (e.counter ∙ i.0, waits _ _ _ c.learn-seen-then-seen.result i.1 e.view e.up)

pub compare_exchange-found-requires : goal.compare_exchange-found-requires
compare_exchange-found-requires g c = (search rules, search rules, opens_later _ _ _ _ c.args.self.now.seat.me.0 _ c.loop.invariant.1 c.requires)

pub returns-then-found-seen-clause-view : goal.returns-then-found-seen-clause-view
returns-then-found-seen-clause-view g c =
    let e = c.compare_exchange-found.ensures in
    (c.compare_exchange-found.result + 1, opened_as _ _ _ c.compare_exchange-found.result c.loop.invariant.1 (ap (λ m. m.0) (e.2.2 c.if-found-seen.true)))

pub loop-preserved : goal.loop-preserved
loop-preserved g c =
    let i = c.loop.invariant in let e = c.compare_exchange-found.ensures in
    (e.0 ∙ i.0, waits _ _ _ c.compare_exchange-found.result i.1 (ap (λ m. m.0) (e.2.3 c.if-found-seen.false)) e.2.0)

pub returns-then-found-seen-clause-live : goal.returns-then-found-seen-clause-live
returns-then-found-seen-clause-live g c = c.compare_exchange-found.ensures.2.1

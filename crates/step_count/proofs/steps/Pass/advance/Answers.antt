use Rattle.std.proofs.Common.{rules, ◌∙◌, ap, arith}
use Rattle.step_count.proofs.CounterTurns.{waits, added_as}
use Rattle.step_count.proofs.WordSteps.{adds_later}
use Rattle.step_count.proofs.steps.Pass.advance.Goals as goal

pub loop-preserved-then-seen : goal.loop-preserved-then-seen
loop-preserved-then-seen g c =
    let i = c.loop.invariant in let e = c.learn-seen.ensures in
    (e.counter ∙ i.0, waits _ _ _ c.learn-seen.result i.1 e.view e.up)

pub compare_exchange-found-requires : goal.compare_exchange-found-requires
compare_exchange-found-requires g c = (search rules, search rules, adds_later _ _ _ _ c.args.self.now.seat.me.0 _ _ c.loop.invariant.1 c.requires)

pub returns-then-found-seen-clause-view : goal.returns-then-found-seen-clause-view
returns-then-found-seen-clause-view g c =
    let e = c.compare_exchange-found.ensures in let hit = c.if-found-seen.true in
    added_as _ _ _ c.compare_exchange-found.result c.loop.seen g.E.Entry.entry c.loop.invariant.1 (ap (λ m. m.0) (e.2.2 hit)) hit

pub returns-then-found-seen-clause-up : goal.returns-then-found-seen-clause-up
returns-then-found-seen-clause-up g c =
    let e = c.compare_exchange-found.ensures in let hit = c.if-found-seen.true in
    let before = c.loop.invariant.1.1 in let found = e.2.0 in omega (arith, before, found, hit)

pub loop-preserved : goal.loop-preserved
loop-preserved g c =
    let i = c.loop.invariant in let e = c.compare_exchange-found.ensures in
    (e.0 ∙ i.0, waits _ _ _ c.compare_exchange-found.result i.1 (ap (λ m. m.0) (e.2.3 c.if-found-seen.false)) e.2.0)

pub returns-then-found-seen-clause-live : goal.returns-then-found-seen-clause-live
returns-then-found-seen-clause-live g c = c.compare_exchange-found.ensures.2.1

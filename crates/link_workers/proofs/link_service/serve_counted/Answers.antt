use Rattle.std.proofs.Common.{inl, inr, length, ap, arith, refl}
use Rattle.link_workers.proofs.LinkLemmas.{accounts, accounts_few, accounts_none, asked_in_all, none_served}
use Rattle.link_acceptor.proofs.CallerLemmas.{none_asked}
use Rattle.link_acceptor.specs.declared.accept_loop.AcceptEnd.TheVariants.{OutOfMemory}
use Rattle.link_workers.proofs.link_service.serve_counted.Goals as goal

pub returns-in_default-clause-counted : goal.returns-in_default-clause-counted
returns-in_default-clause-counted g c =
    let idle = none_served (λ worker. worker.ends.items) c.make_queues.new.workers.items c.make_queues.ensures.idle in
    let own = ap length c.requires.own_idle in
    accounts_none _ _ (omega (arith, idle, own))

pub returns-in_default-clause-asked : goal.returns-in_default-clause-asked
returns-in_default-clause-asked g c =
    let counts = g.D.Doors.counts c.args.doors.now in
    asked_in_all g.H.Halt.answers OutOfMemory OutOfMemory counts counts c.args.halt.now c.args.halt.now (inl refl) refl (none_asked g.H.Halt.answers counts.out c.args.halt.now)

pub returns-then-serve_left-clause-asked : goal.returns-then-serve_left-clause-asked
returns-then-serve_left-clause-asked g c =
    let end = c.accept_beside-accepted.result.end in
    asked_in_all g.H.Halt.answers end end (g.D.Doors.counts c.args.doors.now) (g.D.Doors.counts c.accept_beside-accepted.new.doors) c.args.halt.now c.accept_beside-accepted.new.halt
    (inl refl) c.accept_beside-accepted.ensures.adds_up.2.returned c.accept_beside-accepted.ensures.asked

pub returns-clause-asked : goal.returns-clause-asked
returns-clause-asked g c =
    asked_in_all g.H.Halt.answers OutOfMemory c.accept_beside-accepted.result.end (g.D.Doors.counts c.args.doors.now) (g.D.Doors.counts c.accept_beside-accepted.new.doors) c.args.halt.now
    c.accept_beside-accepted.new.halt (inr refl) c.accept_beside-accepted.ensures.adds_up.2.returned c.accept_beside-accepted.ensures.asked

pub returns-then-serve_left-clause-counted : goal.returns-then-serve_left-clause-counted
returns-then-serve_left-clause-counted g c =
    let own = ap length c.requires.own_idle in
    let all = c.serve_left.ensures.all c.if-serve_left.true in
    accounts _ _ _ _ _ _ c.open-puts.ensures.amount c.accept_beside-accepted.ensures.adds_up
    (omega (arith, own, all, c.serve_left.ensures.counted, c.serve_left.ensures.put, c.unseat_workers.ensures.amount))

pub returns-clause-counted : goal.returns-clause-counted
returns-clause-counted g c =
    let own = ap length c.requires.own_idle in
    accounts_few _ _ _ _ _ _ c.open-puts.ensures.amount c.accept_beside-accepted.ensures.adds_up
    (omega (arith, own, c.serve_left.ensures.few, c.serve_left.ensures.counted, c.serve_left.ensures.put, c.unseat_workers.ensures.amount))

use Rattle.worker_returns.proofs.GatheringLemmas.{absorbed_new, absorbed_own, gathered_either, one_taken, own_stays}
use Rattle.worker_returns.proofs.worker_return.take_back.Goals as goal

pub returns-clause-gathered : goal.returns-clause-gathered
returns-clause-gathered g c = λ count first before.
    let a = c.absorb_worker.ensures in let b = c.give_back.ensures in let back = g.D.Doors.back in let faults = g.C.Clock.faults in
    gathered_either _ g.D.Doors.shown _ _ _ _ _ _ _ count (record { moments = g.C.Clock.moments c.args.worker.work.clock; faults = faults c.args.worker.work.clock }) first
    (record { back = back c.args.doors.now; clock_faults = faults c.args.clock.now }) (record { back = back c.give_back.new.doors; clock_faults = faults c.absorb_worker.new.clock }) _ _ c.args.worker.ends.items c.give_back.result (absorbed_new c.args.own.now c.absorb_worker.new.own c.args.worker.work.names.rows a.numbers a.different) (absorbed_own c.args.own.now) a.mine a.mine_made a.theirs a.theirs_made a.faults a.later c.requires.served b.back b.ends b.err before

pub returns-clause-returned : goal.returns-clause-returned
returns-clause-returned g c =
    let b = c.give_back.ensures in
    one_taken _ c.give_back.result _ c.args.worker.ends.items _ _ _ _ c.is_ok.ensures.value c.requires.few b.counts b.ends b.err

pub returns-clause-stays : goal.returns-clause-stays
returns-clause-stays g c = own_stays c.args.own.now c.absorb_worker.new.own c.args.worker.work.names.rows c.absorb_worker.ensures.numbers

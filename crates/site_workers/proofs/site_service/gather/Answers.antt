use Rattle.std.proofs.Common.{◌≤◌, ◌+◌, ◌∙◌, length, sym, ap, subst, arith}
use Rattle.std.specs.List.{sum_by}
use Rattle.cell_model.specs.Deeds.{Extends}
use Rattle.region_locks.specs.CallerViews.{MadeNoMore, numbers_of}
use Rattle.conn_workers.specs.ServedLinks.{AllTell}
use Rattle.worker_returns.specs.GatheredLinks.{Gathered, ReturnsTold}
use Rattle.worker_returns.proofs.CallerLemmas.{absorbed_own, extends_same, from_none, gathered_either, made_same, none_gathered, one_taken, own_new, taken_from_none}
use Rattle.site_workers.proofs.site_service.gather.Goals as goal

pub returns-clause-gathered : goal.returns-clause-gathered
returns-clause-gathered g c =
    let t = c.take_all_back-all.ensures in let b = c.give_back.ensures in let back = g.D.Doors.back in let faults = g.C.Clock.faults in
    let theirs = subst (λ s. Extends s c.take_all_back-all.new.own) c.part-pass.ensures t.later in
    let theirs_made = subst (λ s. MadeNoMore s c.take_all_back-all.new.own) c.part-pass.ensures t.made in
    let own_is = sym (t.caller ∙ ap (λ s. s.caller) c.part-pass.ensures) in
    let begun : ReturnsTold = record { back = back c.args.doors.now; clock_faults = faults c.args.clock.now } in
    let worked : ReturnsTold = record { back = back c.take_all_back-all.new.doors; clock_faults = faults c.take_all_back-all.new.clock } in
    let ended : ReturnsTold = record { back = back c.give_back.new.doors; clock_faults = faults c.rejoin.new.self } in
    let first = t.gathered 0 begun (none_gathered _ _ _ begun c.new-ends.result.items c.new-ends.ensures.items) in
    let all = gathered_either _ g.D.Doors.shown _ _ c.take_all_back-all.new.own c.take_all_back-all.new.own _ _ _ _ (record { moments = g.C.Clock.moments c.args.own.work.clock; faults = faults c.args.own.work.clock }) begun worked ended _ _ c.args.own.ends.items c.give_back.result
    (own_new c.args.own.work.names.rows c.take_all_back-all.new.own own_is c.part.ensures.different) (absorbed_own c.take_all_back-all.new.own) (extends_same _) (made_same _) theirs theirs_made c.rejoin.ensures.faults c.rejoin.ensures.later c.requires.own_served b.back b.ends b.err first in
    subst (λ s. Gathered (record { admission = g.J.ConnTerms.admission; moments = g.J.ConnTerms.moments; inlets_tell = AllTell g.D.Inlet.Source.taken; outlets_tell = AllTell g.D.Outlet.Sink.held }) s (numbers_of s) (length c.args.workers.items + 1) begun ended c.give_back.new.ends.items)
    (sym c.part.ensures.seen)
    (subst (λ n. Gathered (record { admission = g.J.ConnTerms.admission; moments = g.J.ConnTerms.moments; inlets_tell = AllTell g.D.Inlet.Source.taken; outlets_tell = AllTell g.D.Outlet.Sink.held }) c.take_all_back-all.new.own (numbers_of c.take_all_back-all.new.own) n begun ended c.give_back.new.ends.items)
    (from_none (length c.args.workers.items)) all)

pub returns-clause-returned : goal.returns-clause-returned
returns-clause-returned g c =
    let t = c.take_all_back-all.ensures in let b = c.give_back.ensures in
    let few : sum_by (λ worker. length worker.ends.items) c.args.workers.items + length c.args.own.ends.items ≤ (g.D.Doors.counts c.args.doors.now).out = c.requires.few in
    let rest : length c.args.own.ends.items ≤ (g.D.Doors.counts c.take_all_back-all.new.doors).out = omega (arith, few, t.returned.few) in
    taken_from_none _ _ _ _ _ _ _ _ _ _ (ap length c.new-ends.ensures.items) t.returned (one_taken _ c.give_back.result _ c.args.own.ends.items _ _ _ _ c.is_ok-all.ensures.value rest b.counts b.ends b.err)

use Rattle.std.proofs.Common.{rules, ◌≡◌, ◌+◌, ◌∙◌, subst, ◌++◌, ◌∷◌, [], length, map, refl, sym, ap, append_assoc, length-append, arith}
use Rattle.std.specs.Vec.Iter.{into_iter_items}
use Rattle.point_put.specs.Admissions.{admission}
use Rattle.conn_workers.specs.ServedLinks.{AllTell, WorkerServed}
use Rattle.worker_returns.specs.GatheredLinks.{Gathered}
use Rattle.worker_returns.proofs.GatheringLemmas.{extends_more, extends_same, first_counted, first_holds, made_more, made_same, more_taken_as, none_more, none_taken, one_more_caller, one_more_counted, others_hold, same_list_counts, same_list_holds}
use Rattle.worker_returns.proofs.worker_return.take_all_back.Goals as goal

pub loop-worker-init : goal.loop-worker-init
loop-worker-init g c =
    let items : into_iter_items c.into_iter-worker-iterator.result ≡ c.args.workers.items = search rules in
    record {
      whole = sym items;
      len = search rules;
      served = same_list_holds c.args.workers.items (into_iter_items c.into_iter-worker-iterator.result)
          (λ worker.
          WorkerServed (record { admission = g.J.ConnTerms.admission; moments = g.J.ConnTerms.moments; inlets_tell = AllTell g.D.Inlet.Source.taken; outlets_tell = AllTell g.D.Outlet.Sink.held }) (admission worker.work.config worker.work.rule.now.patterns) worker.work.names.rows
          (record { moments = g.C.Clock.moments worker.work.clock; faults = g.C.Clock.faults worker.work.clock }) (map (λ one. (g.D.Doors.shown one.0, one.1)) worker.ends.items))
          items c.requires.served;
      few = same_list_counts c.args.workers.items (into_iter_items c.into_iter-worker-iterator.result) (λ worker. length worker.ends.items) _ items c.requires.few;
      gathered = λ count first before. subst (λ n. Gathered (record { admission = g.J.ConnTerms.admission; moments = g.J.ConnTerms.moments; inlets_tell = AllTell g.D.Inlet.Source.taken; outlets_tell = AllTell g.D.Outlet.Sink.held }) c.args.own.now c.args.own.now.absorbed n first (record { back = g.D.Doors.back c.args.doors.now; clock_faults = g.C.Clock.faults c.args.clock.now }) c.args.ends.now.items) (none_more count) before;
      later = extends_same _;
      made = made_same _;
      stays = λ number own. own;
      caller = refl;
      returned = none_taken _ _;
      faults = search rules;
      waiting = search rules;
      moments = search rules;
      clock_later = omega arith;
    }

pub take_back-all-requires-clause-served : goal.take_back-all-requires-clause-served
take_back-all-requires-clause-served g c κs within =
    first_holds _ _ c.in-Some.worker
    (λ worker.
    WorkerServed (record { admission = g.J.ConnTerms.admission; moments = g.J.ConnTerms.moments; inlets_tell = AllTell g.D.Inlet.Source.taken; outlets_tell = AllTell g.D.Outlet.Sink.held }) (admission worker.work.config worker.work.rule.now.patterns) worker.work.names.rows
    (record { moments = g.C.Clock.moments worker.work.clock; faults = g.C.Clock.faults worker.work.clock }) (map (λ one. (g.D.Doors.shown one.0, one.1)) worker.ends.items))
    c.in-Some.ensures.steps.0 c.loop-worker.invariant.served

pub take_back-all-requires-clause-few : goal.take_back-all-requires-clause-few
take_back-all-requires-clause-few g c κs within =
    let sum = first_counted _ _ c.in-Some.worker (λ worker. length worker.ends.items) c.in-Some.ensures.steps.0 in
    omega (arith, sum, c.loop-worker.invariant.few)

pub loop-worker-preserved : goal.loop-worker-preserved
loop-worker-preserved g c =
    let sum = first_counted _ _ c.in-Some.worker (λ worker. length worker.ends.items) c.in-Some.ensures.steps.0 in
    let more = one_more_counted c.loop-worker.yielded c.in-Some.worker (λ worker. length worker.ends.items) in
    let e = c.take_back-all.ensures in
    record {
      whole = c.loop-worker.invariant.whole ∙ ap (λ l. c.loop-worker.yielded ++ l) c.in-Some.ensures.steps.0 ∙ sym (append_assoc c.loop-worker.yielded (c.in-Some.worker ∷ []) _);
      len = search rules;
      served = others_hold _ _ c.in-Some.worker
          (λ worker.
          WorkerServed (record { admission = g.J.ConnTerms.admission; moments = g.J.ConnTerms.moments; inlets_tell = AllTell g.D.Inlet.Source.taken; outlets_tell = AllTell g.D.Outlet.Sink.held }) (admission worker.work.config worker.work.rule.now.patterns) worker.work.names.rows
          (record { moments = g.C.Clock.moments worker.work.clock; faults = g.C.Clock.faults worker.work.clock }) (map (λ one. (g.D.Doors.shown one.0, one.1)) worker.ends.items))
          c.in-Some.ensures.steps.0 c.loop-worker.invariant.served;
      few = omega (arith, sum, c.loop-worker.invariant.few, e.returned.few);
      gathered = λ count first before. subst (λ n. Gathered (record { admission = g.J.ConnTerms.admission; moments = g.J.ConnTerms.moments; inlets_tell = AllTell g.D.Inlet.Source.taken; outlets_tell = AllTell g.D.Outlet.Sink.held }) c.take_back-all.new.own c.take_back-all.new.own.absorbed n first (record { back = g.D.Doors.back c.take_back-all.new.doors; clock_faults = g.C.Clock.faults c.take_back-all.new.clock }) c.take_back-all.new.ends.items) (one_more_caller count c.loop-worker.yielded c.in-Some.worker)
          (e.gathered (count + length c.loop-worker.yielded) first (c.loop-worker.invariant.gathered count first before));
      later = extends_more _ _ _ c.loop-worker.invariant.later e.later;
      made = made_more c.args.own.now c.loop-worker.own c.take_back-all.new.own e.later c.loop-worker.invariant.made e.made c.loop-worker.invariant.stays;
      stays = λ number own. e.stays number (c.loop-worker.invariant.stays number own);
      caller = e.caller ∙ c.loop-worker.invariant.caller;
      returned = more_taken_as c.loop-worker.all c.take_back-all.result _ _ _ _ _ _ _ _ _ _ (search rules) more c.loop-worker.invariant.returned e.returned;
      faults = e.faults ∙ c.loop-worker.invariant.faults;
      waiting = e.waiting ∙ c.loop-worker.invariant.waiting;
      moments = e.moments ∙ c.loop-worker.invariant.moments;
      clock_later = omega (arith, c.loop-worker.invariant.clock_later, e.clock_later);
    }

pub returns-clause-gathered : goal.returns-clause-gathered
returns-clause-gathered g c = λ count first before.
    let none : length (into_iter_items c.loop-worker.worker-iterator) ≡ 0 = search rules in
    let parts : length c.args.workers.items ≡ length c.loop-worker.yielded + length (into_iter_items c.loop-worker.worker-iterator) = ap length c.loop-worker.invariant.whole ∙ length-append c.loop-worker.yielded _ in
    let all : length c.loop-worker.yielded ≡ length c.args.workers.items = omega (arith, none, parts) in
    subst (λ n. Gathered (record { admission = g.J.ConnTerms.admission; moments = g.J.ConnTerms.moments; inlets_tell = AllTell g.D.Inlet.Source.taken; outlets_tell = AllTell g.D.Outlet.Sink.held }) c.loop-worker.own c.loop-worker.own.absorbed (count + n) first (record { back = g.D.Doors.back c.loop-worker.doors; clock_faults = g.C.Clock.faults c.loop-worker.clock }) c.loop-worker.ends.items) all
    (c.loop-worker.invariant.gathered count first before)

use Rattle.std.proofs.Common.{rules, vec_len, ◌≡◌, ◌+◌, ◌∙◌, ◌∷◌, [], ap, subst, sym, length, length-append, inl, inr, ⊎_elim}
use Rattle.link_workers.proofs.CallerLemmas.{asks_told}
use Rattle.step_count.specs.Tokens.{view_of_pass}
use Rattle.region_locks.specs.CallerViews.{numbers_of, seen_of}
use Rattle.point_put.specs.Admissions.{admission}
use Rattle.conn_workers.specs.ServedLinks.{AllTell, WorkerServed}
use Rattle.worker_returns.specs.GatheredLinks.{Gathered}
use Rattle.site_workers.proofs.SiteLemmas.{callers_counted, counted_links, front_holds, last_holds, reasons}
use Rattle.site_workers.proofs.site_service.serve_connections.Goals as goal

pub serve_rows-accepted-requires-clause-idle : goal.serve_rows-accepted-requires-clause-idle
serve_rows-accepted-requires-clause-idle g c κs within = front_holds c.in_ok-workers.workers.items c.pop.new.self.items c.pop.result (λ worker. worker.ends.items ≡ []) c.pop.ensures.items c.in_ok-workers.ensures.idle

pub serve_rows-accepted-requires-clause-own_idle : goal.serve_rows-accepted-requires-clause-own_idle
serve_rows-accepted-requires-clause-own_idle g c κs within = last_holds c.in_ok-workers.workers.items c.pop.new.self.items c.pop.result c.in-Some.own (λ worker. worker.ends.items ≡ []) c.pop.ensures.items c.in-Some.is c.in_ok-workers.ensures.idle

pub serve_rows-accepted-requires-clause-begun : goal.serve_rows-accepted-requires-clause-begun
serve_rows-accepted-requires-clause-begun g c κs within =
    front_holds c.in_ok-workers.workers.items c.pop.new.self.items c.pop.result
    (λ worker.
    WorkerServed (record { admission = g.J.ConnTerms.admission; moments = g.J.ConnTerms.moments; inlets_tell = AllTell g.D.Inlet.Source.taken; outlets_tell = AllTell g.D.Outlet.Sink.held }) (admission worker.work.config worker.work.rule.now.patterns) worker.work.names.rows
    (record { moments = g.C.Clock.moments worker.work.clock; faults = g.C.Clock.faults worker.work.clock }) [])
    c.pop.ensures.items c.in_ok-workers.ensures.begun

pub serve_rows-accepted-requires-clause-own_begun : goal.serve_rows-accepted-requires-clause-own_begun
serve_rows-accepted-requires-clause-own_begun g c κs within =
    last_holds c.in_ok-workers.workers.items c.pop.new.self.items c.pop.result c.in-Some.own
    (λ worker.
    WorkerServed (record { admission = g.J.ConnTerms.admission; moments = g.J.ConnTerms.moments; inlets_tell = AllTell g.D.Inlet.Source.taken; outlets_tell = AllTell g.D.Outlet.Sink.held }) (admission worker.work.config worker.work.rule.now.patterns) worker.work.names.rows
    (record { moments = g.C.Clock.moments worker.work.clock; faults = g.C.Clock.faults worker.work.clock }) [])
    c.pop.ensures.items c.in-Some.is c.in_ok-workers.ensures.begun

pub returns-clause-left : goal.returns-clause-left
returns-clause-left g c =
    let s = c.serve_rows-accepted.ensures in let e = c.gather-gathered.ensures in let counts = g.D.Doors.counts in
    record {
      counter_is = e.counter;
      caller = e.caller;
      counted = counted_links c.gather-gathered.result.all c.serve_rows-accepted.result.end _ _ _ _ _ _ _ c.end_with.ensures s.links s.counted e.returned;
      reason = reasons c.gather-gathered.result.all c.serve_rows-accepted.result.end _ _ _ _ _ _ _ _ _ c.end_with.ensures e.waiting e.faults s.reason;
      asked = asks_told g.H.Halt.answers c.serve_rows-accepted.result.end c.end_with.result (counts c.args.doors.now) (counts c.serve_rows-accepted.new.doors) (counts c.gather-gathered.new.doors) c.args.halt.now
          c.serve_rows-accepted.new.halt (⊎_elim (λ both. inl both.1) (λ out. inr out) c.end_with.ensures) e.returned.accepted s.asked;
    }

pub returns-clause-gathered : goal.returns-clause-gathered
returns-clause-gathered g c =
    let left : length c.serve_rows-accepted.new.workers.items ≡ vec_len c.serve_rows-accepted.new.workers = search rules in
    let front : length c.pop.new.self.items ≡ vec_len c.pop.new.self = search rules in
    let whole : length c.in_ok-workers.workers.items ≡ vec_len c.in_ok-workers.workers = search rules in
    let popped = ap length c.in-Some.ensures.items ∙ length-append c.pop.new.self.items (c.in-Some.own ∷ []) in (
      length c.serve_rows-accepted.new.workers.items + 1,
      callers_counted _ _ _ _ _ _ c.in_ok-workers.ensures.opened (whole ∙ c.in_ok-workers.ensures.len) popped (left ∙ c.serve_rows-accepted.ensures.len ∙ sym front),
      subst (λ b. Gathered (record { admission = g.J.ConnTerms.admission; moments = g.J.ConnTerms.moments; inlets_tell = AllTell g.D.Inlet.Source.taken; outlets_tell = AllTell g.D.Outlet.Sink.held }) (seen_of (view_of_pass c.gather-gathered.result.pass)) (numbers_of (seen_of (view_of_pass c.gather-gathered.result.pass)))
          (length c.serve_rows-accepted.new.workers.items + 1) (record { back = b; clock_faults = g.C.Clock.faults c.args.clock.now }) (record { back = g.D.Doors.back c.gather-gathered.new.doors; clock_faults = g.C.Clock.faults c.gather-gathered.new.clock }) c.gather-gathered.result.ends.items)
          c.serve_rows-accepted.ensures.back c.gather-gathered.ensures.gathered,
    )

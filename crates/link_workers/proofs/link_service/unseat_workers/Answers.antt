use Rattle.std.proofs.Common.{◌∙◌, ◌∷◌, [], length, length-append, sym, ap, subst, arith}
use Rattle.std.specs.Prelude.{All, IfSome}
use Rattle.std.specs.List.{sum_by}
use Rattle.std.proofs.lemmas.List.Sums.{sum_by_push}
use Rattle.std.proofs.lemmas.List.Elements.{All-pop, All-push}
use Rattle.link_workers.specs.Returns.{AllServed}
use Rattle.link_workers.proofs.link_service.unseat_workers.Goals as goal

pub loop-worker-preserved : goal.loop-worker-preserved
loop-worker-preserved g c =
    let popped = ap length c.in-Some.ensures.items ∙ length-append c.pop.new.self.items (c.in-Some.worker ∷ []) in
    let pushed = ap length c.push_reserved.ensures.items ∙ length-append c.loop-worker.workers.items (c.in-Some.worker.links ∷ []) in
    let added = ap (sum_by (λ worker. length worker.ends.items)) c.push_reserved.ensures.items ∙ sum_by_push (λ worker. length worker.ends.items) c.loop-worker.workers.items c.in-Some.worker.links in
    let both = All-pop (λ worker. AllServed g.W.LinkWork.served g.D.Doors.shown worker.links.work worker.links.ends.items) _ _ c.pop.result c.pop.ensures.items c.loop-worker.invariant.left in
    let last = subst (λ r. IfSome r (λ worker. AllServed g.W.LinkWork.served g.D.Doors.shown worker.links.work worker.links.ends.items)) c.in-Some.is both.1 in
    record {
      parts = omega (arith, popped, c.merge.ensures.parts, c.in-Some.worker.one_part, c.loop-worker.invariant.parts);
      amount = omega (arith, added, c.merge.ensures.amount, c.in-Some.worker.counted, c.loop-worker.invariant.amount);
      all = omega (arith, popped, pushed, c.loop-worker.invariant.all);
      capacity = c.push_reserved.ensures.capacity ∙ c.loop-worker.invariant.capacity;
      left = both.0;
      served = subst (All (λ worker. AllServed g.W.LinkWork.served g.D.Doors.shown worker.work worker.ends.items)) (sym c.push_reserved.ensures.items) (All-push (λ worker. AllServed g.W.LinkWork.served g.D.Doors.shown worker.work worker.ends.items) c.loop-worker.workers.items c.in-Some.worker.links c.loop-worker.invariant.served last);
    }

use Rattle.std.specs.Prelude.{◌≡◌, ◌+◌, All, length, vec_len, vec_capacity}
use Rattle.std.specs.List.{sum_by}
use Rattle.link_workers.specs.Returns.{AllServed}
use Rattle.link_workers.proofs.link_service.unseat_workers.Given as goal

abbrev pub invariant-loop-worker : goal.invariant-loop-worker
invariant-loop-worker g l = record {
  parts : l.taken.parts + length l.seated.items ≡ l.fn.taken.parts + length l.fn.seated.items;
  amount : l.taken.amount ≡ sum_by (λ worker. length worker.ends.items) l.workers.items;
  all : length l.workers.items + length l.seated.items ≡ length l.fn.seated.items;
  capacity : vec_capacity l.workers ≡ vec_capacity l.fn.workers;
  left : All (λ worker. AllServed g.W.LinkWork.served g.D.Doors.shown worker.links.work worker.links.ends.items) l.seated.items;
  served : All (λ worker. AllServed g.W.LinkWork.served g.D.Doors.shown worker.work worker.ends.items) l.workers.items;
}

abbrev pub decreases-loop-worker : goal.decreases-loop-worker
decreases-loop-worker g l = vec_len l.seated

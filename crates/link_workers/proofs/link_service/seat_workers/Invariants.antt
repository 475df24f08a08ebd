use Rattle.std.specs.Prelude.{◌≡◌, ◌+◌, [], All, length, vec_len, vec_capacity}
use Rattle.link_workers.specs.Returns.{AllServed}
use Rattle.link_workers.proofs.link_service.seat_workers.Given as goal

abbrev pub invariant-loop-links : goal.invariant-loop-links
invariant-loop-links g l = record {
  parts : l.taken.parts + length l.seated.items ≡ l.fn.taken.parts;
  amount : l.taken.amount ≡ 0;
  all : length l.workers.items + length l.seated.items ≡ length l.fn.workers.items;
  room : vec_capacity l.seated ≡ vec_capacity l.fn.seated;
  capacity : vec_capacity l.workers ≡ vec_capacity l.fn.workers;
  idle : All (λ worker. worker.ends.items ≡ []) l.workers.items;
  begun : All (λ worker. g.W.LinkWork.served worker.work []) l.workers.items;
  served : All (λ worker. AllServed g.W.LinkWork.served g.D.Doors.shown worker.links.work worker.links.ends.items) l.seated.items;
}

abbrev pub decreases-loop-links : goal.decreases-loop-links
decreases-loop-links g l = vec_len l.workers

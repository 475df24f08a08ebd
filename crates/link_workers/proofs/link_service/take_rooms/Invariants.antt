use Rattle.std.specs.Prelude.{◌≡◌, ◌<◌, ◌≤◌, [], All, length, vec_capacity}
use Rattle.std.specs.List.{AllWithin}
use Rattle.link_workers.proofs.link_service.take_rooms.Given as goal

abbrev pub invariant-loop-at : goal.invariant-loop-at
invariant-loop-at g l = record {
  within : l.at ≤ l.at-end;
  end : l.at-end ≡ length l.workers.items;
  len : length l.workers.items ≡ length l.fn.workers.items;
  idle : All (λ worker. worker.ends.items ≡ []) l.workers.items;
  begun : All (λ worker. g.W.LinkWork.served worker.work []) l.workers.items;
  ready : AllWithin (λ worker. 0 < vec_capacity worker.ends) l.workers.items 0 l.at;
}

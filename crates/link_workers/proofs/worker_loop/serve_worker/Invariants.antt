use Rattle.std.specs.Prelude.{◌≡◌, length}
use Rattle.link_workers.specs.Returns.{AllServed}
use Rattle.link_workers.proofs.worker_loop.serve_worker.Given as goal

abbrev pub invariant-loop : goal.invariant-loop
invariant-loop g l = record {
  one_part : l.share.parts ≡ 1;
  counted : l.share.amount ≡ length l.links.ends.items;
  served : AllServed g.W.LinkWork.served g.D.Doors.shown l.links.work l.links.ends.items;
}

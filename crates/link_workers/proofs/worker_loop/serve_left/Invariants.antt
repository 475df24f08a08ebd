use Rattle.std.specs.Prelude.{◌≡◌, ◌+◌, length}
use Rattle.link_workers.specs.Returns.{AllServed}
use Rattle.link_workers.proofs.worker_loop.serve_left.Given as goal

abbrev pub invariant-loop : goal.invariant-loop
invariant-loop g l = record {
  put : l.put.amount ≡ l.fn.put.amount;
  put_parts : l.put.parts ≡ l.fn.put.parts;
  parts : l.taken.parts ≡ l.fn.taken.parts;
  counted : l.taken.amount + length l.fn.links.ends.items ≡ l.fn.taken.amount + length l.links.ends.items;
  served : AllServed g.W.LinkWork.served g.D.Doors.shown l.links.work l.links.ends.items;
}

use Rattle.std.specs.Prelude.{◌≡◌}
use Rattle.link_workers.proofs.worker_loop.next_link.Given as goal

abbrev pub invariant-loop : goal.invariant-loop
invariant-loop g l = record {
  ends : l.ends.items ≡ l.fn.ends.items;
  amount : l.share.amount ≡ l.fn.share.amount;
  parts : l.share.parts ≡ l.fn.share.parts;
}

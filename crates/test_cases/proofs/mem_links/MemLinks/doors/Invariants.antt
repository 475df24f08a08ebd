use Rattle.std.specs.Prelude.{All}
use Rattle.tsd_doors.specs.MemLinks.{IsFresh}
use Rattle.test_cases.proofs.mem_links.MemLinks.doors.Given as goal

abbrev pub invariant-loop-text : goal.invariant-loop-text
invariant-loop-text l = record {
  fresh : All IsFresh l.links.items;
}

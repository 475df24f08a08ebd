use Rattle.std.proofs.Common.{◌≡◌, ◌++◌, length}
use Rattle.std.specs.Vec.Iter.{into_iter_items, into_iter_len}
use Rattle.query_run.proofs.ValueJudging.{Made}
use Rattle.query_run.proofs.value_judges.value_judges.Given as goal

abbrev pub invariant-loop-judge : goal.invariant-loop-judge
invariant-loop-judge l = record {
  whole : l.fn.judges.items ≡ l.yielded ++ into_iter_items l.judge-iterator;
  made : Made l.yielded l.list.items;
  len : into_iter_len l.judge-iterator ≡ length (into_iter_items l.judge-iterator);
}

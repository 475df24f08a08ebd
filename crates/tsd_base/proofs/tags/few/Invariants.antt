use Rattle.std.proofs.Common.{◌≡◌, length}
use Rattle.std.specs.Vec.Iter.{into_iter_items, into_iter_len}
use Rattle.tsd_base.proofs.TagLemmas.{IsSorting}
use Rattle.tsd_base.proofs.tags.few.Given as goal

abbrev pub invariant-loop-key : goal.invariant-loop-key
invariant-loop-key l = record {
  sorting : IsSorting l.fn.pairs.items l.yielded (into_iter_items l.key-iterator) l.sorted.items;
  len : into_iter_len l.key-iterator ≡ length (into_iter_items l.key-iterator);
}

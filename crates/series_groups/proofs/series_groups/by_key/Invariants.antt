use Rattle.std.proofs.Common.{◌≡◌, length}
use Rattle.std.specs.Vec.Iter.{into_iter_items, into_iter_len}
use Rattle.series_groups.proofs.Members.{Held}
use Rattle.series_groups.proofs.series_groups.by_key.Given as goal

-- those that were taken are in the map
abbrev pub invariant-loop-one : goal.invariant-loop-one
invariant-loop-one l = record {
  held : Held l.sub l.fn.series.items l.groups (into_iter_items l.one-iterator);
  count : into_iter_len l.one-iterator ≡ length (into_iter_items l.one-iterator);
}

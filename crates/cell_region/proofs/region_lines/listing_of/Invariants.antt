use Rattle.std.proofs.Common.{◌≡◌, ◌++◌, length}
use Rattle.std.specs.Vec.Iter.{into_iter_items, into_iter_len}
use Rattle.cell_region.proofs.region_lines.listing_of.Given as goal

abbrev pub invariant-loop-line : goal.invariant-loop-line
invariant-loop-line l = record {
  whole : l.fn.lines.items ≡ l.yielded ++ into_iter_items l.line-iterator;
  so_far : l.rising ≡ l.yielded;
  len : into_iter_len l.line-iterator ≡ length (into_iter_items l.line-iterator);
}

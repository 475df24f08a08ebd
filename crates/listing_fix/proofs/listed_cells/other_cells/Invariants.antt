use Rattle.std.proofs.Common.{◌≡◌, length}
use Rattle.std.specs.Vec.Iter.{into_iter_items, into_iter_len}
use Rattle.listing_fix.proofs.FirstChange.{AreOthers}
use Rattle.listing_fix.proofs.listed_cells.other_cells.Given as goal

abbrev pub invariant-loop-other : goal.invariant-loop-other
invariant-loop-other l = record {
  others : AreOthers l.fn.others.items l.cells.items (into_iter_items l.other-iterator);
  len : into_iter_len l.other-iterator ≡ length (into_iter_items l.other-iterator);
}

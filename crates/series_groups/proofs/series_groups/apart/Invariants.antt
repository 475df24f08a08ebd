use Rattle.std.proofs.Common.{◌≡◌, ◌++◌, length}
use Rattle.std.specs.Vec.Iter.{into_iter_items, into_iter_len}
use Rattle.series_groups.specs.KeptSeries.{KeepsEach, PointsOf, tags_kept}
use Rattle.series_groups.proofs.Finishing.{Apart}
use Rattle.series_groups.proofs.series_groups.apart.Given as goal

-- the tags and the points of those that were taken
abbrev pub invariant-loop-one : goal.invariant-loop-one
invariant-loop-one l = record {
  tags : l.tags.items ++ tags_kept (into_iter_items l.one-iterator) ≡ tags_kept l.fn.series.items;
  apart : (of : PointsOf) → KeepsEach l.how l.query.start l.query.end of l.fn.series.items → Apart l.how l.query.start l.query.end of l.fn.series.items (into_iter_items l.one-iterator) l.lists.items l.least;
  count : into_iter_len l.one-iterator ≡ length (into_iter_items l.one-iterator);
}

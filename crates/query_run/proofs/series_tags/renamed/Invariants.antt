use Rattle.std.proofs.Common.{◌≡◌, ◌++◌, length}
use Rattle.std.specs.Vec.Iter.{into_iter_items, into_iter_len}
use Rattle.std.specs.List.{AllZip}
use Rattle.metric_scan.specs.RowNames.{known}
use Rattle.query_run.specs.SeriesTags.{IsRenamed}
use Rattle.query_run.proofs.series_tags.renamed.Given as goal

abbrev pub invariant-loop-span : goal.invariant-loop-span
invariant-loop-span l = record {
  whole : l.fn.list.items ≡ l.yielded ++ into_iter_items l.span-iterator;
  titled : AllZip (IsRenamed (known l.names)) l.yielded l.series.items;
  len : into_iter_len l.span-iterator ≡ length (into_iter_items l.span-iterator);
}

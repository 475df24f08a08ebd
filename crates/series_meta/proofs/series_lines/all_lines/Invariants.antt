use Rattle.std.proofs.Common.{◌≡◌, ◌++◌}
use Rattle.std.specs.List.{AllZip}
use Rattle.metric_scan.specs.Walks.{names_of}
use Rattle.series_meta.specs.SeriesLines.{IsLine}
use Rattle.series_meta.proofs.series_lines.all_lines.Given as goal

-- the entries that were taken have their lines
abbrev pub invariant-loop-ids : goal.invariant-loop-ids
invariant-loop-ids l = record {
  whole : l.fn.counts.entries ≡ l.yielded ++ l.ids-iterator;
  lines : AllZip (IsLine (names_of l.rows) l.widths l.metric) l.yielded l.lines.items;
}

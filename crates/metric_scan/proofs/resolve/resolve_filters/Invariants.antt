use Rattle.std.proofs.Common.{◌≤◌, take}
use Rattle.cell_model.specs.Seen.{IsPossible}
use Rattle.metric_scan.specs.IdFilters.{IsIdFilter}
use Rattle.metric_scan.specs.SubNames.{filter_names}
use Rattle.metric_scan.proofs.NameIds.{SoFar, by_filter_later}
use Rattle.metric_scan.proofs.resolve.resolve_filters.Given as goal

-- the filters so far were resolved
abbrev pub invariant-loop-filter : goal.invariant-loop-filter
invariant-loop-filter g l = record {
  far : SoFar filter_names IsIdFilter by_filter_later (g.R.Rows.seen l.initial.names.rows) (take l.filter-index l.filters) l.list.items (g.R.Rows.seen l.names.rows);
  possible : IsPossible (g.R.Rows.seen l.names.rows);
  grows : g.R.Rows.stops l.initial.names.rows ≤ g.R.Rows.stops l.names.rows;
}

use Rattle.std.proofs.Common.{[], ◌≤◌}
use Rattle.cell_model.specs.Seen.{IsPossible}
use Rattle.metric_scan.specs.Walks.{HasWalked, RowRange, picks_of}
use Rattle.series_meta.proofs.CountLoop.{Counting}
use Rattle.series_meta.proofs.lookups.count_rows.Given as goal

-- the rows so far were counted
abbrev pub invariant-loop : goal.invariant-loop
invariant-loop g l = record {
  counting : (r : RowRange) → HasWalked r [] [] l.initial.rows (g.R.Rows.seen l.initial.names.rows) → Counting r (picks_of l.initial.rows) l.rows l.series (g.R.Rows.seen l.names.rows);
  possible : IsPossible (g.R.Rows.seen l.names.rows);
  grows : g.R.Rows.stops l.initial.names.rows ≤ g.R.Rows.stops l.names.rows;
}

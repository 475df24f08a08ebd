use Rattle.std.proofs.Common.{ℕ, [], ◌≤◌}
use Rattle.cell_model.specs.Seen.{IsPossible}
use Rattle.query_run.specs.ValueJudges.{filters_of}
use Rattle.metric_scan.specs.Walks.{HasWalked, row_range}
use Rattle.query_run.proofs.CollectLoop.{Collecting, Judging}
use Rattle.query_run.proofs.collection.collect_left.Given as goal

-- the rows so far were collected
abbrev pub invariant-loop : goal.invariant-loop
invariant-loop g l = record {
  collecting : (id : ℕ) → HasWalked (row_range id l.start l.end (g.R.Rows.seen l.initial.names.rows)) [] [] l.initial.rows (g.R.Rows.seen l.initial.names.rows) → Collecting (row_range id l.start l.end (g.R.Rows.seen l.initial.names.rows)) l.initial.rows.filters.items (filters_of l.initial.judges.items) l.how l.rows l.spans (g.R.Rows.seen l.names.rows);
  judging : Judging l.initial.rows.filters.items (filters_of l.initial.judges.items) l.rows l.judges.items (g.R.Rows.seen l.names.rows);
  possible : IsPossible (g.R.Rows.seen l.names.rows);
  grows : g.R.Rows.stops l.initial.names.rows ≤ g.R.Rows.stops l.names.rows;
}

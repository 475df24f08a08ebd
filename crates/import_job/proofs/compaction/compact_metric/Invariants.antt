use Rattle.std.proofs.Common.{◌≤◌}
use Rattle.import_job.proofs.Loops.{RowsTo}
use Rattle.import_job.proofs.compaction.compact_metric.Given as goal

-- the rows so far were compacted
abbrev pub invariant-loop : goal.invariant-loop
invariant-loop g l = record {
  far : RowsTo l.fn.metric (g.R.Rows.seen l.initial.rows) (g.R.Rows.seen l.rows) l.scan;
  grows : g.R.Rows.stops l.initial.rows ≤ g.R.Rows.stops l.rows;
}

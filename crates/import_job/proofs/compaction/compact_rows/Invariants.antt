use Rattle.std.proofs.Common.{◌≤◌}
use Rattle.import_job.proofs.Loops.{MetricsTo}
use Rattle.import_job.proofs.compaction.compact_rows.Given as goal

-- the rows of so many metrics were compacted
abbrev pub invariant-loop-before : goal.invariant-loop-before
invariant-loop-before g l = record {
  far : MetricsTo l.count l.before (g.R.Rows.seen l.fn.rows) (g.R.Rows.seen l.rows);
  grows : g.R.Rows.stops l.fn.rows ≤ g.R.Rows.stops l.rows;
}

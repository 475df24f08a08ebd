use Rattle.std.proofs.Common.{◌≤◌}
use Rattle.batch_job.specs.PendingSeries.{all_values}
use Rattle.batch_job.proofs.StoredPoints.{ArePut}
use Rattle.batch_job.proofs.pending_puts.put_all.Given as goal

abbrev pub invariant-loop-name : goal.invariant-loop-name
invariant-loop-name g l = record {
  puts : ArePut (g.R.Rows.seen l.fn.store.rows) (all_values l.fn.series.entries) (all_values l.name-iterator) (g.R.Rows.seen l.store.rows);
  grows : g.R.Rows.stops l.fn.store.rows ≤ g.R.Rows.stops l.store.rows;
}

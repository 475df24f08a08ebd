use Rattle.std.proofs.Common.{◌≡◌, ◌≤◌, take}
use Rattle.uid_table.specs.PlacedPoints.{IsPlaced}
use Rattle.batch_job.specs.PendingPuts.{Adds, points_in}
use Rattle.batch_job.proofs.pending_puts.put_others.Given as goal

abbrev pub invariant-loop-time : goal.invariant-loop-time
invariant-loop-time g l = record {
  metric : l.placed.point.metric ≡ l.fn.placed.point.metric;
  tags : l.placed.point.tags ≡ l.fn.placed.point.tags;
  placed : IsPlaced (g.R.Rows.seen l.store.rows) l.placed;
  adds : Adds (g.R.Rows.seen l.fn.store.rows) (points_in l.fn.placed.point.metric l.fn.placed.point.tags l.fine (take l.time-index l.values)) (g.R.Rows.seen l.store.rows);
  grows : g.R.Rows.stops l.fn.store.rows ≤ g.R.Rows.stops l.store.rows;
}

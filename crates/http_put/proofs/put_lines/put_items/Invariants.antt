use Rattle.std.proofs.Common.{◌≤◌, ◌-◌, drop, length, vec_len}
use Rattle.point_put.specs.Admissions.{admission}
use Rattle.http_put.proofs.ItemTurns.{ItemsSoFar}
use Rattle.http_put.proofs.put_lines.put_items.Given as goal

abbrev pub invariant-turns : goal.invariant-turns
invariant-turns g l = record {
  so_far : ItemsSoFar (admission l.config l.rule.patterns) l.body (drop (vec_len l.outs) l.lines) (g.R.Rows.seen l.fn.names.rows) l.fn.queue l.outs.items (g.R.Rows.seen l.names.rows) l.queue;
  grows : g.R.Rows.stops l.fn.names.rows ≤ g.R.Rows.stops l.names.rows;
}

abbrev pub decreases-turns : goal.decreases-turns
decreases-turns g l = length l.lines - vec_len l.outs

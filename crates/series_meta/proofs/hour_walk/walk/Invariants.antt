use Rattle.std.proofs.Common.{◌≤◌}
use Rattle.cell_model.specs.Seen.{IsPossible}
use Rattle.series_meta.proofs.HourSteps.{SoFar}
use Rattle.series_meta.proofs.hour_walk.walk.Given as goal

-- so many hours were passed
abbrev pub invariant-loop-gone : goal.invariant-loop-gone
invariant-loop-gone g l = record {
  far : SoFar l.initial.key l.fn.now (g.R.Rows.seen l.initial.names.rows) l.gone l.key (g.R.Rows.seen l.names.rows);
  possible : IsPossible (g.R.Rows.seen l.names.rows);
  grows : g.R.Rows.stops l.initial.names.rows ≤ g.R.Rows.stops l.names.rows;
}

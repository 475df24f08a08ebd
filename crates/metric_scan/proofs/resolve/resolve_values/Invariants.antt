use Rattle.std.proofs.Common.{◌≤◌, take}
use Rattle.cell_model.specs.Seen.{IsPossible}
use Rattle.metric_scan.proofs.NameIds.{SoFar, IsValue, value_later, value_name}
use Rattle.metric_scan.proofs.resolve.resolve_values.Given as goal

-- the values so far were resolved
abbrev pub invariant-loop-value : goal.invariant-loop-value
invariant-loop-value g l = record {
  far : SoFar value_name IsValue value_later (g.R.Rows.seen l.initial.names.rows) (take l.value-index l.values) l.ids.items (g.R.Rows.seen l.names.rows);
  possible : IsPossible (g.R.Rows.seen l.names.rows);
  grows : g.R.Rows.stops l.initial.names.rows ≤ g.R.Rows.stops l.names.rows;
}

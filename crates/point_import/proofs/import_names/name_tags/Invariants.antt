use Rattle.std.proofs.Common.{◌≤◌}
use Rattle.cell_model.specs.Seen.{IsPossible}
use Rattle.point_import.proofs.AskedNames.{LeftDecides}
use Rattle.point_import.proofs.import_names.name_tags.Given as goal

-- what is left of the tags decides
abbrev pub invariant-loop-pair : goal.invariant-loop-pair
invariant-loop-pair g l = record {
  names : LeftDecides l.fn.rule.patterns (g.R.Rows.seen l.fn.names.rows) l.fn.tags l.pair-index (g.R.Rows.seen l.names.rows);
  possible : IsPossible (g.R.Rows.seen l.names.rows);
  grows : g.R.Rows.stops l.fn.names.rows ≤ g.R.Rows.stops l.names.rows;
}

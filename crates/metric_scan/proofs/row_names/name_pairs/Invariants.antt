use Rattle.std.proofs.Common.{◌≤◌, take}
use Rattle.cell_model.specs.Seen.{IsPossible}
use Rattle.metric_scan.specs.RowNames.{NamesRead, ids_of, known}
use Rattle.metric_scan.proofs.row_names.name_pairs.Given as goal

-- the names of the pairs that were passed were asked
abbrev pub invariant-loop-pair : goal.invariant-loop-pair
invariant-loop-pair g l = record {
  read : NamesRead (g.R.Rows.seen l.initial.names.rows) (known l.initial.list) (ids_of (take l.pair-index l.pairs)) (g.R.Rows.seen l.names.rows) (known l.list);
  possible : IsPossible (g.R.Rows.seen l.names.rows);
  grows : g.R.Rows.stops l.initial.names.rows ≤ g.R.Rows.stops l.names.rows;
}

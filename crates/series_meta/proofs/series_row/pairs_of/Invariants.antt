use Rattle.std.proofs.Common.{◌≤◌, take}
use Rattle.cell_model.specs.Layout.{tag_names}
use Rattle.cell_model.specs.Seen.{IsPossible}
use Rattle.uid_table.specs.ShownKeys.{PairsShown}
use Rattle.metric_scan.specs.ResolvedIds.{AreResolved}
use Rattle.series_meta.proofs.series_row.pairs_of.Given as goal

-- the tags that were passed were resolved, and the pairs are their ids
abbrev pub invariant-loop-tag : goal.invariant-loop-tag
invariant-loop-tag g l = record {
  resolved : AreResolved (g.R.Rows.seen l.initial.names.rows) (tag_names (take l.tag-index l.tags)) (g.R.Rows.seen l.names.rows);
  pairs : PairsShown (g.R.Rows.seen l.names.rows) (take l.tag-index l.tags) l.pairs.items;
  possible : IsPossible (g.R.Rows.seen l.names.rows);
  grows : g.R.Rows.stops l.initial.names.rows ≤ g.R.Rows.stops l.names.rows;
}

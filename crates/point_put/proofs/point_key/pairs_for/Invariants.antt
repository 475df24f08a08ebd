use Rattle.std.proofs.Common.{◌≤◌, take}
use Rattle.std.specs.Prelude.{Ok}
use Rattle.cell_model.specs.Seen.{IsPossible}
use Rattle.cell_model.specs.Layout.{tag_names}
use Rattle.point_put.specs.Admissions.{admission}
use Rattle.point_put.specs.ShownIds.{NamesAsked, PairsShown}
use Rattle.point_put.proofs.point_key.pairs_for.Given as goal

-- the tags that were passed were asked, and the pairs are their ids
abbrev pub invariant-loop-tag : goal.invariant-loop-tag
invariant-loop-tag g l = record {
  asked : NamesAsked {T = Unit {0}} (admission l.config l.rule.patterns) (tag_names (take l.tag-index l.tags)) (g.R.Rows.seen l.initial.names.rows) (Ok tt) (g.R.Rows.seen l.names.rows);
  pairs : PairsShown (g.R.Rows.seen l.names.rows) (take l.tag-index l.tags) l.pairs.items;
  possible : IsPossible (g.R.Rows.seen l.names.rows);
  grows : g.R.Rows.stops l.initial.names.rows ≤ g.R.Rows.stops l.names.rows;
}

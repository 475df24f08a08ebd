use Rattle.std.proofs.Common.{◌≡◌, ◌++◌, List, map, All}
use Rattle.std.specs.Prelude.{Contains}
use Rattle.json_reply.specs.Replies.{IsReady}
use Rattle.series_groups.specs.KeptSeries.{PointsOf}
use Rattle.series_groups.specs.SeriesGroups.{AreSeriesFor, group_with, members_in}
use Rattle.series_groups.specs.declared.named_series.Series.{Series}
use Rattle.series_groups.proofs.GroupLemmas.{made, values}
use Rattle.series_groups.proofs.series_groups.groups_of.Given as goal

-- the groups of those that were taken
abbrev pub invariant-loop-members : goal.invariant-loop-members
invariant-loop-members l = record {
  groups : (of : PointsOf) → AreSeriesFor l.query l.sub of l.fn.series.items → made l.groups.items ++ map (group_with l.query l.sub of) (values l.members-iterator) ≡ map (group_with l.query l.sub of) (members_in l.sub l.fn.series.items);
  within : (m : List Series) → Contains (values l.members-iterator) m → Contains (members_in l.sub l.fn.series.items) m;
  ready : All IsReady l.groups.items;
}

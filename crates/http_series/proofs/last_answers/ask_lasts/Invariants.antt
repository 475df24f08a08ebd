use Rattle.std.proofs.Common.{◌≤◌, map, take}
use Rattle.cell_model.specs.Deeds.{Since}
use Rattle.cell_model.specs.Seen.{InEach}
use Rattle.http_series.specs.SeriesAnswers.{PointsAsked}
use Rattle.http_series.specs.SeriesRequests.{asking}
use Rattle.http_series.proofs.last_answers.ask_lasts.Given as goal

abbrev pub invariant-loop-one : goal.invariant-loop-one
invariant-loop-one g l = record {
  since : Since (g.R.Rows.seen l.fn.names.rows) (g.R.Rows.seen l.names.rows);
  asked : InEach (g.R.Rows.seen l.names.rows) (λ h. PointsAsked h (g.R.Rows.seen l.fn.names.rows).caller (g.R.Rows.seen l.fn.names.rows).length (map (asking l.now l.back) (take l.one-index l.series)) l.points.items (g.R.Rows.seen l.names.rows).length);
  grows : g.R.Rows.stops l.fn.names.rows ≤ g.R.Rows.stops l.names.rows;
}

use Rattle.point_put.proofs.TextOutcomes.{knows}
use Rattle.point_put.proofs.text_put.know.Goals as goal

pub add_series-requires : goal.add_series-requires
add_series-requires g c =
    knows (g.R.Rows.seen c.args.names.now.rows) c.args.text.now c.args.parts.now c.args.placed c.in-Ok-series_of.series.value c.requires.parts c.requires.reads c.requires.placed c.in-Ok-series_of.ensures.metric c.in-Ok-series_of.ensures.tags c.in-Ok-series_of.ensures.placed

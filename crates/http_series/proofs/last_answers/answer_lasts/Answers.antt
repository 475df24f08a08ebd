use Rattle.std.proofs.Common.{◌≡◌, ◌++◌, ℕ, List, map, drop, codes, sym, subst}
use Rattle.std.specs.Prelude.{IfOk, Err}
use Rattle.http_series.specs.SeriesAnswers.{LastsTell, plain_text}
use Rattle.http_series.specs.SeriesRequests.{asking}
use Rattle.http_series.specs.declared.last_request.SeriesName.{SeriesName}
use Rattle.http_series.proofs.PointRuns.{points_tell, refused_tell, text_stops}
use Rattle.http_series.proofs.last_answers.answer_lasts.Goals as goal

pub returns-in-Ok-clause-tells : goal.returns-in-Ok-clause-tells
returns-in-Ok-clause-tells g c =
    subst (λ (list : List SeriesName). LastsTell (map (asking c.args.now c.args.request.now.back) list) (g.R.Rows.seen c.args.names.now.rows) (plain_text c.text_or.result) (g.R.Rows.seen c.ask_lasts.new.names.rows)) c.as_slice.ensures.value
    (points_tell (map (asking c.args.now c.args.request.now.back) c.as_slice.result.now) (g.R.Rows.seen c.args.names.now.rows) (g.R.Rows.seen c.ask_lasts.new.names.rows) c.in-Ok.points.items c.points_text.result c.text_or.result c.in-Ok.ensures.since c.in-Ok.ensures.ok
    (subst (λ (points : List ℕ). IfOk c.points_text.result (λ text. text.items ≡ codes "[" ++ (drop 1 points ++ codes "]"))) c.as_slice-in-Ok.ensures.value c.points_text.ensures) c.text_or.ensures)

pub returns-in-Ok-clause-stops : goal.returns-in-Ok-clause-stops
returns-in-Ok-clause-stops g c = record {
  grows = c.in-Ok.ensures.stops.grows;
  rose = text_stops (g.R.Rows.stops c.args.names.now.rows) (g.R.Rows.stops c.ask_lasts.new.names.rows) c.points_text.result c.text_or.result c.text_or.ensures;
}

pub returns-in-Err-clause-tells : goal.returns-in-Err-clause-tells
returns-in-Err-clause-tells g c =
    subst (λ (list : List SeriesName). LastsTell (map (asking c.args.now c.args.request.now.back) list) (g.R.Rows.seen c.args.names.now.rows) (Err c.in-Err.fault) (g.R.Rows.seen c.ask_lasts.new.names.rows)) c.as_slice.ensures.value
    (refused_tell (map (asking c.args.now c.args.request.now.back) c.as_slice.result.now) (g.R.Rows.seen c.args.names.now.rows) (g.R.Rows.seen c.ask_lasts.new.names.rows) c.in-Err.fault c.in-Err.ensures.since c.in-Err.ensures.err)

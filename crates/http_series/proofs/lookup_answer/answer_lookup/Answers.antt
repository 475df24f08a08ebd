use Rattle.std.proofs.Common.{◌≡◌, List, subst}
use Rattle.std.specs.Prelude.{IfOk}
use Rattle.series_meta.specs.declared.meta_answers.Line.{Line}
use Rattle.http_series.specs.SeriesReplies.{lookup_text}
use Rattle.http_series.specs.SeriesRequests.{lookup_asked}
use Rattle.http_series.proofs.LookupLemmas.{fault_tells, lines_tell}
use Rattle.http_series.proofs.PointRuns.{text_stops}
use Rattle.http_series.proofs.lookup_answer.answer_lookup.Goals as goal

pub returns-in-Ok-clause-tells : goal.returns-in-Ok-clause-tells
returns-in-Ok-clause-tells g c =
    lines_tell (lookup_asked c.args.request.now) (g.R.Rows.seen c.args.names.now.rows) (g.R.Rows.seen c.lookup.new.names.rows) c.in-Ok.lines c.lookup_text.result c.text_or.result c.in-Ok.ensures.says
    (subst (λ (lines : List Line). IfOk c.lookup_text.result (λ text. text.items ≡ lookup_text (lookup_asked c.args.request.now) lines)) c.as_slice.ensures.value c.lookup_text.ensures) c.text_or.ensures

pub returns-in-Ok-clause-stops : goal.returns-in-Ok-clause-stops
returns-in-Ok-clause-stops g c = record {
  grows = c.in-Ok.ensures.leaves.grows;
  rose = text_stops (g.R.Rows.stops c.args.names.now.rows) (g.R.Rows.stops c.lookup.new.names.rows) c.lookup_text.result c.text_or.result c.text_or.ensures;
}

pub returns-in-Err-clause-tells : goal.returns-in-Err-clause-tells
returns-in-Err-clause-tells g c = fault_tells (lookup_asked c.args.request.now) (g.R.Rows.seen c.args.names.now.rows) (g.R.Rows.seen c.lookup.new.names.rows) c.in-Err.fault c.in-Err.ensures.says

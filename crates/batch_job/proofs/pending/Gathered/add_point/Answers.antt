use Rattle.std.proofs.Common.{[], ℤ, FitsSigned, rules, subst, w64}
use Rattle.std.proofs.lemmas.Int.{to_z-of_z}
use Rattle.tsd_base.specs.Points.{data_point}
use Rattle.cell_model.specs.Layout.{IsPoint, names_of}
use Rattle.batch_job.specs.AddedTexts.{AddsAt, AddsValue}
use Rattle.batch_job.specs.SeriesValues.{series_of_point}
use Rattle.batch_job.specs.Storing.{Notes}
use Rattle.batch_job.proofs.AddedPoints.{adds_new_here, adds_there}
use Rattle.batch_job.proofs.pending.Gathered.add_point.Goals as goal

pub push_at-requires-clause-at : goal.push_at-requires-clause-at
push_at-requires-clause-at g c = c.in-Some.ensures

pub returns-in-Some-clause-adds : goal.returns-in-Some-clause-adds
returns-in-Some-clause-adds g c =
    let p = data_point c.args.point in
    let is_point : IsPoint p = record { metric = c.bytes.ensures.named; tags = c.pairs.ensures.are_tags; timed = c.args.point.timed } in
    let fits : FitsSigned w64 c.args.point.value = search rules in
    let adds = subst (λ (v : ℤ). AddsAt c.self.inside.series.entries (series_of_point p) (c.args.point.time, v) c.push_at.new.all.entries) (to_z-of_z w64 c.args.point.value fits) c.in-Ok.ensures.adds in
    adds_there c.self.inside.series.entries c.push_at.new.all.entries c.args.self.now (g.R.Rows.seen c.args.store.now.rows) p c.self.view_is is_point adds

pub returns-clause-adds : goal.returns-clause-adds
returns-clause-adds g c =
    let p = data_point c.args.point in
    let is_point : IsPoint p = record { metric = c.bytes.ensures.named; tags = c.pairs.ensures.are_tags; timed = c.args.point.timed } in
    let fits : FitsSigned w64 c.args.point.value = search rules in
    let notes = subst (λ full. Notes (g.R.Rows.seen c.args.store.now.rows) (names_of p) full (g.R.Rows.seen c.note_series.new.store.rows)) c.in_default-2.is c.in_ok-kind.ensures.notes in
    let adds = subst (λ (v : ℤ). AddsValue (series_of_point p) [] (c.args.point.time, v) c.args.self.now c.begin.new.self) (to_z-of_z w64 c.args.point.value fits) c.in-Ok-begin.ensures.adds in
    adds_new_here c.self.inside.series.entries c.args.self.now c.begin.new.self (g.R.Rows.seen c.args.store.now.rows) (g.R.Rows.seen c.note_series.new.store.rows) p c.self.view_is is_point c.in_default.ensures notes adds

use Rattle.std.proofs.Common.{[], ◌∷◌, subst}
use Rattle.std.proofs.lemmas.Result.{IfOk-weaker}
use Rattle.tsd_base.specs.declared.kinds.Kind.TheVariants.{Metric}
use Rattle.cell_model.specs.Layout.{tag_names}
use Rattle.batch_job.specs.Storing.{Notes}
use Rattle.batch_job.proofs.Noting.{notes_then}
use Rattle.batch_job.proofs.pending_ids.note_series.Goals as goal

pub returns-clause-notes : goal.returns-clause-notes
returns-clause-notes g c =
    let first = subst (λ full. Notes (g.R.Rows.seen c.args.store.now.rows) ((Metric, c.args.metric.now) ∷ []) full (g.R.Rows.seen c.note.new.store.rows)) c.in_default.is c.in_ok-kind.ensures.notes in
    IfOk-weaker c.note_tags.result _ _
    (λ full two. notes_then (g.R.Rows.seen c.args.store.now.rows) (g.R.Rows.seen c.note.new.store.rows) (g.R.Rows.seen c.note_tags.new.store.rows) ((Metric, c.args.metric.now) ∷ []) (tag_names c.args.tags.now) full first two)
    c.note_tags.ensures.notes

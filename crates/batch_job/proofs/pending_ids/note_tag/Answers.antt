use Rattle.std.proofs.Common.{[], ◌∷◌, subst}
use Rattle.std.proofs.lemmas.Result.{IfOk-weaker}
use Rattle.tsd_base.specs.declared.kinds.Kind.TheVariants.{TagKey, TagValue}
use Rattle.batch_job.specs.Storing.{Notes}
use Rattle.batch_job.proofs.Noting.{notes_then}
use Rattle.batch_job.proofs.pending_ids.note_tag.Goals as goal

pub returns-clause-notes : goal.returns-clause-notes
returns-clause-notes g c =
    let first = subst (λ full. Notes (g.R.Rows.seen c.args.store.now.rows) ((TagKey, c.args.key.now) ∷ []) full (g.R.Rows.seen c.note.new.store.rows)) c.in_default.is c.in_ok-kind.ensures.notes in
    IfOk-weaker c.note-2.result _ _
    (λ full two. notes_then (g.R.Rows.seen c.args.store.now.rows) (g.R.Rows.seen c.note.new.store.rows) (g.R.Rows.seen c.note-2.new.store.rows) ((TagKey, c.args.key.now) ∷ []) ((TagValue, c.args.value.now) ∷ []) full first two)
    c.note-2.ensures.notes

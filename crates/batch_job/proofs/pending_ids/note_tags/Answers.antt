use Rattle.std.proofs.Common.{List, [], ◌∷◌, rules, subst, arith}
use Rattle.std.specs.Prelude.{Some, None}
use Rattle.tsd_base.specs.declared.kinds.Kind.TheVariants.{TagKey, TagValue}
use Rattle.tsd_base.specs.TagList.{Pair}
use Rattle.cell_model.specs.Layout.{tag_names}
use Rattle.batch_job.specs.Storing.{Notes}
use Rattle.batch_job.proofs.Noting.{left_noted, left_full, none_left}
use Rattle.batch_job.proofs.pending_ids.note_tags.Goals as goal

pub loop-pair-init : goal.loop-pair-init
loop-pair-init g c = record { notes = λ full later n. n; grows = omega arith }

pub returns-in-Some-clause-notes : goal.returns-in-Some-clause-notes
returns-in-Some-clause-notes g c =
    let items = c.pairs-pair-items.result.now in
    let t = c.pair-item.result in
    let one = subst (λ full. Notes (g.R.Rows.seen c.loop-pair.store.rows) ((TagKey, t.0) ∷ (TagValue, t.1) ∷ []) full (g.R.Rows.seen c.note_tag.new.store.rows)) c.in-Some.is c.in_ok-kind.ensures.notes in
    subst (λ (tags : List Pair). Notes (g.R.Rows.seen c.args.store.now.rows) (tag_names tags) (Some c.in-Some.kind) (g.R.Rows.seen c.note_tag.new.store.rows)) c.pairs-pair-items.ensures.pairs
    (c.loop-pair.invariant.notes (Some c.in-Some.kind) (g.R.Rows.seen c.note_tag.new.store.rows)
    (left_full (g.R.Rows.seen c.loop-pair.store.rows) (g.R.Rows.seen c.note_tag.new.store.rows) items c.loop-pair.pair-index t c.in-Some.kind (search rules) (search rules) one))

pub loop-pair-preserved : goal.loop-pair-preserved
loop-pair-preserved g c =
    let items = c.pairs-pair-items.result.now in
    let t = c.pair-item.result in
    let one = subst (λ full. Notes (g.R.Rows.seen c.loop-pair.store.rows) ((TagKey, t.0) ∷ (TagValue, t.1) ∷ []) full (g.R.Rows.seen c.note_tag.new.store.rows)) c.in_default.is c.in_ok-kind.ensures.notes in
    let was = c.loop-pair.invariant.grows in
    let now = c.in_ok-kind.ensures.stops.grows in
    record {
      notes = λ full later rest. c.loop-pair.invariant.notes full later (left_noted (g.R.Rows.seen c.loop-pair.store.rows) (g.R.Rows.seen c.note_tag.new.store.rows) later items c.loop-pair.pair-index t full (search rules) (search rules) one rest);
      grows = omega (arith, was, now);
    }

pub returns-clause-notes : goal.returns-clause-notes
returns-clause-notes g c =
    subst (λ (tags : List Pair). Notes (g.R.Rows.seen c.args.store.now.rows) (tag_names tags) None (g.R.Rows.seen c.loop-pair.store.rows)) c.pairs-pair-items.ensures.pairs
    (c.loop-pair.invariant.notes None (g.R.Rows.seen c.loop-pair.store.rows) (none_left (g.R.Rows.seen c.loop-pair.store.rows) c.pairs-pair-items.result.now c.loop-pair.pair-index (search rules)))

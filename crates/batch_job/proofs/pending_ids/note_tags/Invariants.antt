use Rattle.std.proofs.Common.{◌≤◌, drop}
use Rattle.std.specs.Prelude.{Option}
use Rattle.cell_model.specs.Seen.{Seen}
use Rattle.tsd_base.specs.declared.kinds.Kind.{Kind}
use Rattle.cell_model.specs.Layout.{tag_names}
use Rattle.batch_job.specs.Storing.{Notes}
use Rattle.batch_job.proofs.pending_ids.note_tags.Given as goal

-- what is left of the tags decides
abbrev pub invariant-loop-pair : goal.invariant-loop-pair
invariant-loop-pair g l = record {
  notes : (full : Option Kind) (later : Seen) → Notes (g.R.Rows.seen l.store.rows) (tag_names (drop l.pair-index l.pair-items)) full later → Notes (g.R.Rows.seen l.fn.store.rows) (tag_names l.pair-items) full later;
  grows : g.R.Rows.stops l.fn.store.rows ≤ g.R.Rows.stops l.store.rows;
}

use Rattle.std.proofs.Common.{subst, ap, ◌∙◌}
use Rattle.std.specs.Prelude.{Ok, Err}
use Rattle.cell_model.specs.Deeds.{MadeSo}
use Rattle.compactor.specs.Compaction.{CompactMade}
use Rattle.compactor.specs.declared.compaction.CompactFault.TheVariants.{Conflict}
use Rattle.import_job.proofs.CompactedRow.{row_compacted}
use Rattle.import_job.proofs.compaction.compact_found.Goals as goal

pub returns-in-Ok-clause-compacts : goal.returns-in-Ok-clause-compacts
returns-in-Ok-clause-compacts g c =
    let s = g.R.Rows in
    row_compacted c.args.row.now (s.seen c.args.rows.now) (s.seen c.compact_row.new.rows) (Ok c.in-Ok.field-0) c.requires.alone tt
    (subst (λ r. MadeSo (s.seen c.args.rows.now) (CompactMade c.args.row.now r) (s.seen c.compact_row.new.rows)) c.in-Ok.is c.compact_row.ensures.made)

pub returns-in-Err-Conflict-clause-compacts : goal.returns-in-Err-Conflict-clause-compacts
returns-in-Err-Conflict-clause-compacts g c =
    let s = g.R.Rows in
    row_compacted c.args.row.now (s.seen c.args.rows.now) (s.seen c.compact_row.new.rows) (Err (Conflict c.in-Err-Conflict.field-0-0 c.in-Err-Conflict.field-0-1 c.in-Err-Conflict.field-0-2)) c.requires.alone tt
    (subst (λ r. MadeSo (s.seen c.args.rows.now) (CompactMade c.args.row.now r) (s.seen c.compact_row.new.rows)) (c.in-Err-Conflict.is ∙ ap Err c.in-Err-Conflict.field-0-is) c.compact_row.ensures.made)

pub returns-in-Err-Conflict-clause-leaves : goal.returns-in-Err-Conflict-clause-leaves
returns-in-Err-Conflict-clause-leaves g c = record {
  possible = c.compact_row.ensures.made.1.since.lives c.requires.possible;
  grows = c.compact_row.ensures.leaves.grows;
  rose = tt;
}

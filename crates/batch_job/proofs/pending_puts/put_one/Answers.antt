use Rattle.std.proofs.Common.{refl}
use Rattle.tsd_base.specs.Points.{data_point}
use Rattle.point_put.specs.Admissions.{admission}
use Rattle.point_put.specs.StoredTexts.{place_of}
use Rattle.batch_job.proofs.Puts.{put_adds, never_exhausted, never_filtered}
use Rattle.batch_job.proofs.pending_puts.put_one.Goals as goal

pub returns-in-Ok-clause-adds : goal.returns-in-Ok-clause-adds
returns-in-Ok-clause-adds g c = put_adds (g.R.Rows.seen c.args.store.now.rows) (g.R.Rows.seen c.put_first.new.names.rows) _ (data_point c.args.point) c.requires.resolved (place_of c.in-Ok.placed) c.in-Ok.ensures.says refl

pub unreachable-requires-in-Err-Exhausted : goal.unreachable-requires-in-Err-Exhausted
unreachable-requires-in-Err-Exhausted g c =
    never_exhausted (g.R.Rows.seen c.args.store.now.rows) (g.R.Rows.seen c.put_first.new.names.rows) (admission _ c.args.rule.now.patterns) (data_point c.args.point) c.requires.resolved c.in-Err-Exhausted.field-0 c.in-Err-Exhausted.field-0-0 c.in-Err-Exhausted.field-0-is c.in-Err-Exhausted.ensures.says

pub unreachable-requires-in-Err-Filtered : goal.unreachable-requires-in-Err-Filtered
unreachable-requires-in-Err-Filtered g c =
    never_filtered (g.R.Rows.seen c.args.store.now.rows) (g.R.Rows.seen c.put_first.new.names.rows) (admission _ c.args.rule.now.patterns) (data_point c.args.point) c.requires.resolved c.requires.allows c.in-Err-Filtered.field-0 c.in-Err-Filtered.field-0-0 c.in-Err-Filtered.field-0-1 c.in-Err-Filtered.field-0-is c.in-Err-Filtered.ensures.says

use Rattle.std.proofs.Common.{ℤ, Ok, FitsSigned, rules, subst, of_z, to_z, w64}
use Rattle.std.proofs.lemmas.Int.{to_z-of_z}
use Rattle.tsd_base.specs.Points.{data_point}
use Rattle.point_put.specs.PutPoint.{PutSays}
use Rattle.point_put.specs.StoredTexts.{place_of}
use Rattle.point_put.specs.TextPuts.{point_at}
use Rattle.batch_job.proofs.Puts.{never_exhausted, never_filtered, never_unknown, open_admission, open_allows, open_cells, open_makes, put_adds}
use Rattle.batch_job.proofs.pending_puts.put_other.Goals as goal

pub returns-in-Ok-clause-adds : goal.returns-in-Ok-clause-adds
returns-in-Ok-clause-adds g c =
    let fits : FitsSigned w64 c.args.value = search rules in
    let old = g.R.Rows.seen c.args.store.now.rows in
    let new = g.R.Rows.seen c.put_next.new.names.rows in
    let at = place_of c.put_next.new.placed in
    put_adds old new open_admission (point_at (data_point c.args.placed.now.point) c.args.time c.args.fine c.args.value) c.requires.resolved at
    (subst (λ (v : ℤ). PutSays open_admission (point_at (data_point c.args.placed.now.point) c.args.time c.args.fine v) old (Ok at) new) (to_z-of_z w64 c.args.value fits) (c.in-Ok.ensures.says open_admission open_cells)) open_cells

pub unreachable-requires : goal.unreachable-requires
unreachable-requires g c =
    never_unknown (g.R.Rows.seen c.args.store.now.rows) (g.R.Rows.seen c.put_next.new.names.rows) open_admission (point_at (data_point c.args.placed.now.point) c.args.time c.args.fine (to_z w64 (of_z w64 c.args.value))) c.requires.resolved open_makes c.in-Err-Unknown.field-0 c.in-Err-Unknown.field-0-0 c.in-Err-Unknown.field-0-1 c.in-Err-Unknown.field-0-is (c.in-Err-Unknown.ensures.says open_admission open_cells)

pub unreachable-requires-in-Err-Filtered : goal.unreachable-requires-in-Err-Filtered
unreachable-requires-in-Err-Filtered g c =
    never_filtered (g.R.Rows.seen c.args.store.now.rows) (g.R.Rows.seen c.put_next.new.names.rows) open_admission (point_at (data_point c.args.placed.now.point) c.args.time c.args.fine (to_z w64 (of_z w64 c.args.value))) c.requires.resolved open_allows c.in-Err-Filtered.field-0 c.in-Err-Filtered.field-0-0 c.in-Err-Filtered.field-0-1 c.in-Err-Filtered.field-0-is (c.in-Err-Filtered.ensures.says open_admission open_cells)

pub unreachable-requires-in-Err-Exhausted : goal.unreachable-requires-in-Err-Exhausted
unreachable-requires-in-Err-Exhausted g c =
    never_exhausted (g.R.Rows.seen c.args.store.now.rows) (g.R.Rows.seen c.put_next.new.names.rows) open_admission (point_at (data_point c.args.placed.now.point) c.args.time c.args.fine (to_z w64 (of_z w64 c.args.value))) c.requires.resolved c.in-Err-Exhausted.field-0 c.in-Err-Exhausted.field-0-0 c.in-Err-Exhausted.field-0-is (c.in-Err-Exhausted.ensures.says open_admission open_cells)

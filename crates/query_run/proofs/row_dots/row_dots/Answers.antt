use Rattle.query_run.proofs.RowPoints.{has_kept}
use Rattle.query_run.proofs.row_dots.row_dots.Goals as goal

pub returns-in-Ok : goal.returns-in-Ok
returns-in-Ok c =
    has_kept c.args.cells.now c.args.base c.args.start c.args.end c.saturating_sub-first.result c.min-last.result c.in-Ok.points c.requires.up_to c.saturating_sub-first.ensures c.min-last.ensures c.in-Ok.ensures.kept

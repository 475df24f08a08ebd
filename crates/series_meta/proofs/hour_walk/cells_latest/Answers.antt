use Rattle.series_meta.proofs.LatestDots.{point_err, point_ok}
use Rattle.series_meta.proofs.hour_walk.cells_latest.Goals as goal

pub returns-in-Ok : goal.returns-in-Ok
returns-in-Ok c = point_ok c.args.cells.now c.args.base c.args.now c.min-most.result c.requires.begun c.min-most.ensures c.in-Ok.dot c.row_point.result c.in-Ok.ensures c.row_point.ensures

pub returns-in-Err : goal.returns-in-Err
returns-in-Err c = point_err c.args.cells.now c.args.base c.args.now c.min-most.result c.requires.begun c.min-most.ensures c.in-Err.fault c.row_fault.result c.in-Err.ensures c.row_fault.ensures

use Rattle.std.proofs.Common.{◌≡◌, subst}
use Rattle.row_key.specs.declared.widths.Widths.{Widths}
use Rattle.row_key.specs.Key.{key_bytes}
use Rattle.cell_model.specs.Readings.{point_row}
use Rattle.cell_model.specs.Deeds.{MadeSo}
use Rattle.metric_scan.specs.AskFaults.{ask_fault}
use Rattle.metric_scan.specs.declared.fault.AskFault.TheVariants.{OutOfMemory}
use Rattle.series_meta.specs.HourWalks.{RowSays}
use Rattle.series_meta.proofs.NameLooks.{passed_on}
use Rattle.series_meta.proofs.HourSteps.{cells_read, row_lost, row_unread, row_read, read_leaves}
use Rattle.series_meta.proofs.hour_walk.row_latest.Goals as goal

pub returns-in_err-row-clause-says : goal.returns-in_err-row-clause-says
returns-in_err-row-clause-says g c =
    let s = g.R.Rows.seen c.args.names.now.rows in
    passed_on (λ r. MadeSo s (RowSays s.base.widths c.args.key.now c.args.now r) s) OutOfMemory c.from_residual.result c.from_residual.ensures.1 (row_lost s.base.widths c.args.key.now c.args.now s)

pub returns-in_err-cells-clause-says : goal.returns-in_err-cells-clause-says
returns-in_err-cells-clause-says g c =
    let s = g.R.Rows.seen c.args.names.now.rows in
    let t = g.R.Rows.seen c.read.new.self.rows in
    passed_on (λ r. MadeSo s (RowSays s.base.widths c.args.key.now c.args.now r) t) (ask_fault c.in_err-cells.field-0.0) c.from_residual-in_err-cells.result c.from_residual-in_err-cells.ensures.1
    (row_unread s.base.widths c.args.key.now c.args.now s t c.in_err-cells.field-0.0 c.in_err-cells.ensures.err c.in_err-cells.ensures.lives)

pub cells_latest-requires-clause-reads : goal.cells_latest-requires-clause-reads
cells_latest-requires-clause-reads g c = cells_read _ _ c.in_ok-row.row _ c.in_ok-cells.cells c.in_ok-cells.ensures.ok c.in_ok-cells.ensures.possible c.in_ok-row.ensures

pub returns-clause-says : goal.returns-clause-says
returns-clause-says g c =
    let s = g.R.Rows.seen c.args.names.now.rows in
    let t = g.R.Rows.seen c.read.new.self.rows in
    row_read s.base.widths c.args.key.now c.args.now s t c.in_ok-row.row c.in_ok-cells.cells c.cells_latest.result (subst (λ (w : Widths). c.in_ok-row.row ≡ point_row (key_bytes w c.args.key.now)) c.widths.ensures c.in_ok-row.ensures) c.in_ok-cells.ensures.ok c.in_ok-cells.ensures.possible
    c.cells_latest.ensures

pub returns-clause-leaves : goal.returns-clause-leaves
returns-clause-leaves g c = read_leaves _ _ _ _ _ _ c.cells_latest.result c.cells_latest.ensures c.in_ok-cells.ensures.possible c.in_ok-cells.ensures.grows

use Rattle.std.proofs.Common.{drop, ap, ◌∙◌, arith}
use Rattle.qual_codec.specs.declared.cells.Cell.{Cell}
use Rattle.listing_print.specs.StoreRows.{line_in, row_lines}
use Rattle.listing_print.proofs.GivenCells.{on_err}
use Rattle.listing_print.proofs.Steps.{cells_end, cells_front, cells_on, ended_here, took_none}
use Rattle.listing_print.proofs.row_walk.walk_row.Goals as goal

pub loop-i-init : goal.loop-i-init
loop-i-init g c = record { taken = took_none g.met.T.LineTaker.joins (row_lines c.args.row.now c.args.cells.now) _; later = omega arith }

pub returns-in_err-line-clause-err : goal.returns-in_err-line-clause-err
returns-in_err-line-clause-err g c =
    on_err c.from_residual.result _ (ended_here g.met.T.LineTaker.joins (row_lines c.args.row.now c.args.cells.now) (row_lines c.args.row.now (drop c.loop-i.i c.args.cells.now)) _ _ c.loop-i.invariant.taken)

pub returns-in_err-take_line-clause-err : goal.returns-in_err-take_line-clause-err
returns-in_err-take_line-clause-err g c =
    let cells = c.args.cells.now in
    let cell : Cell = c.cell-cell.result in
    on_err c.from_residual-in_err-take_line.result _
    (cells_front g.met.T.LineTaker.joins c.args.row.now cells c.loop-i.i cell c.in_ok-line.line _ _ _ (omega (arith, c.loop-i-test.true, c.len-i-end.ensures)) (c.cell-cell.ensures.cell cell) (c.in_ok-line.ensures ∙ ap (line_in c.args.row.now) c.cell.view_is)
    c.loop-i.invariant.taken c.in_err-take_line.ensures.err)

pub loop-i-preserved : goal.loop-i-preserved
loop-i-preserved g c =
    let cells = c.args.cells.now in
    let cell : Cell = c.cell-cell.result in
    record {
      taken = cells_on g.met.T.LineTaker.joins c.args.row.now cells c.loop-i.i cell c.in_ok-line.line _ _ _ (omega (arith, c.loop-i-test.true, c.len-i-end.ensures)) (c.cell-cell.ensures.cell cell) (c.in_ok-line.ensures ∙ ap (line_in c.args.row.now) c.cell.view_is)
          c.loop-i.invariant.taken c.in_ok-take_line.ensures.ok;
      later = let a = c.loop-i.invariant.later in let b = c.in_ok-take_line.ensures.later in omega (arith, a, b);
    }

pub returns-clause-ok : goal.returns-clause-ok
returns-clause-ok g c = cells_end g.met.T.LineTaker.joins c.args.row.now c.args.cells.now c.loop-i.i _ _ (omega (arith, c.loop-i-test.false, c.len-i-end.ensures)) c.loop-i.invariant.taken

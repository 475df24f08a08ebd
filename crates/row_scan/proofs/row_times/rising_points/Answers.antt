use Rattle.std.proofs.Common.{◌<◌, List, [], length, take, get_or, refl, sym, subst, arith}
use Rattle.std.proofs.lemmas.List.{get_or_default, take_all}
use Rattle.qual_codec.specs.declared.cells.Cell.{Cell}
use Rattle.row_scan.specs.RowTimes.{KeepsPoints}
use Rattle.row_scan.proofs.PointsAtTimes.{AreRead, none_read, read_above, read_next, read_all}
use Rattle.row_scan.proofs.row_times.rising_points.Goals as goal

pub loop-i-init : goal.loop-i-init
loop-i-init g c = subst (λ points. AreRead [] c.args.base c.args.first c.args.last 0 points) (sym c.in_ok-points.ensures) (none_read c.args.base c.args.first c.args.last)

pub add_within-requires : goal.add_within-requires
add_within-requires g c =
    let l = c.loop-i in
    read_above (take l.i c.args.cells.now) c.args.base c.args.first c.args.last l.least _ l.points l.invariant (omega arith)

pub loop-i-preserved : goal.loop-i-preserved
loop-i-preserved g c =
    let l = c.loop-i in
    let cells = c.args.cells.now in
    let none : Cell = record { qual = []; value = []; version = 0 } in
    let inside : l.i < length cells = omega (arith, c.loop-i-test.true, c.len-i-end.ensures) in
    let cell : Cell = get_or cells l.i none in
    read_next cells l.i cell c.qual.result.now c.value.result.now c.args.base c.args.first c.args.last l.least _ l.points c.add_within.new.points c.in-Some.dot l.invariant inside (get_or_default cells l.i none cell inside)
    (c.qual.ensures.qual none) (c.value.ensures.value none) c.in-Some.ensures.reads (omega arith) refl c.in_ok-add_within.ensures

pub returns : goal.returns
returns g c =
    let l = c.loop-i in
    subst (λ (cells : List Cell). KeepsPoints cells c.args.base c.args.first c.args.last l.points) (take_all l.i c.args.cells.now (omega (arith, c.loop-i-test.false, c.len-i-end.ensures)))
    (read_all (take l.i c.args.cells.now) c.args.base c.args.first c.args.last l.least l.points l.invariant)

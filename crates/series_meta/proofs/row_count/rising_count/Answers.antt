use Rattle.std.proofs.Common.{◌<◌, List, [], length, get_or, refl, subst, arith}
use Rattle.std.proofs.lemmas.List.{get_or_default, take_all}
use Rattle.qual_codec.specs.declared.cells.Cell.{Cell}
use Rattle.series_meta.proofs.RowCounting.{AreSingle, none_single, next_single, all_single}
use Rattle.series_meta.proofs.row_count.rising_count.Goals as goal

pub loop-i-init : goal.loop-i-init
loop-i-init g c = none_single

pub loop-i-preserved : goal.loop-i-preserved
loop-i-preserved g c =
    let l = c.loop-i in
    let cells = c.args.cells.now in
    let none : Cell = record { qual = []; value = []; version = 0 } in
    let inside : l.i < length cells = omega (arith, c.loop-i-test.true, c.len-i-end.ensures) in
    let cell : Cell = get_or cells l.i none in
    next_single cells l.i cell c.qual.result.now c.value.result.now l.least _ c.in_ok-dot.dot l.invariant inside (get_or_default cells l.i none cell inside) (c.qual.ensures.qual none) (c.value.ensures.value none) c.in_ok-dot.ensures.reads (omega arith) refl

pub returns : goal.returns
returns g c =
    let l = c.loop-i in
    let all = take_all l.i c.args.cells.now (omega (arith, c.loop-i-test.false, c.len-i-end.ensures)) in
    all_single c.args.cells.now l.least _ (subst (λ (cells : List Cell). AreSingle cells l.least) all l.invariant) c.len.ensures

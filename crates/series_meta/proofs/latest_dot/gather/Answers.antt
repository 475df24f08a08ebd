use Rattle.std.proofs.Common.{ap, arith}
use Rattle.qual_codec.specs.declared.cells.Cell.{Cell}
use Rattle.qual_codec.proofs.CallerLemmas.{are_next, reads_at}
use Rattle.series_meta.proofs.latest_dot.gather.Goals as goal

pub add_dots-requires : goal.add_dots-requires
add_dots-requires c =
    let cell : Cell = c.cell-cell.result in
    reads_at c.args.cells.now c.loop-i.i cell c.cell.inside.qual.now c.cell.inside.value.now c.requires (omega (arith, c.loop-i-test.true, c.len-i-end.ensures)) (c.cell-cell.ensures.cell cell) (ap (λ (x : Cell). x.qual) c.cell.view_is) (ap (λ (x : Cell). x.value) c.cell.view_is)

pub loop-i-preserved : goal.loop-i-preserved
loop-i-preserved c =
    let cell : Cell = c.cell-cell.result in
    are_next c.args.cells.now c.loop-i.i cell c.cell.inside.qual.now c.cell.inside.value.now c.loop-i.dots.items c.add_dots.new.dots.items c.loop-i.invariant (omega (arith, c.loop-i-test.true, c.len-i-end.ensures)) (c.cell-cell.ensures.cell cell)
    (ap (λ (x : Cell). x.qual) c.cell.view_is) (ap (λ (x : Cell). x.value) c.cell.view_is) c.in_ok-add_dots.ensures

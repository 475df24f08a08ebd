use Rattle.std.proofs.Common.{ap}
use Rattle.qual_codec.specs.declared.cells.Cell.{Cell}
use Rattle.qual_codec.proofs.Gathered.{are_next, reads_at}
use Rattle.qual_codec.proofs.merge.gather.Goals as goal

pub add_dots-requires : goal.add_dots-requires
add_dots-requires c =
    let cell : Cell = c.cell-item.result in
    reads_at c.args.cells.now c.loop-cell.cell-index cell c.cell.inside.qual.now c.cell.inside.value.now c.requires c.loop-cell-test.true c.cell-item.is (ap (λ (x : Cell). x.qual) c.cell.view_is) (ap (λ (x : Cell). x.value) c.cell.view_is)

pub loop-cell-preserved : goal.loop-cell-preserved
loop-cell-preserved c =
    let cell : Cell = c.cell-item.result in
    are_next c.args.cells.now c.loop-cell.cell-index cell c.cell.inside.qual.now c.cell.inside.value.now c.loop-cell.dots.items c.add_dots.new.dots.items c.loop-cell.invariant c.loop-cell-test.true c.cell-item.is (ap (λ (x : Cell). x.qual) c.cell.view_is)
    (ap (λ (x : Cell). x.value) c.cell.view_is) c.in_ok-add_dots.ensures

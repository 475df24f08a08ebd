use Rattle.std.proofs.Common.{List, [], ap, ◌∙◌}
use Rattle.std.specs.List.{insert}
use Rattle.qual_codec.specs.declared.cells.Cell.{Cell}
use Rattle.packed_cells.proofs.Soles.{cells_one}
use Rattle.packed_cells.proofs.sole_cell.SoleCell.again.Goals as goal

pub returns-clause-same : goal.returns-clause-same
returns-clause-same c =
    let cell : Cell = record { qual = c.qual.result.now; value = c.bytes.result.now; version = c.version.result } in
    c.in_ok-insert.ensures.ok ∙ ap (λ (cells : List Cell). insert cells 0 cell) c.make-cells.ensures
    ∙ (λ i. insert [] 0 (record { qual = c.qual.ensures.qual i; value = c.bytes.ensures i; version = c.version.ensures i }))
    ∙ cells_one c.args.self.now

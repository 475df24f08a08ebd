use Rattle.std.proofs.Common.{ap, ◌∙◌}
use Rattle.std.specs.FinMap.{insert}
use Rattle.packed_cells.specs.Keyed.{CellMap}
use Rattle.map_body.specs.TableRows.{count_of}
use Rattle.map_body.proofs.Maps.{first_count}
use Rattle.map_body.proofs.table_rows.put_first.Goals as goal

pub returns-clause-count : goal.returns-clause-count
returns-clause-count c =
    ap count_of
    (c.in_ok-insert.ensures.ok
    ∙ (λ i. insert c.args.rows.now (c.in_ok-again.ensures.made i) ((c.in_ok-put.ensures.ok ∙ ap (λ (m : CellMap). insert m c.args.qual.now (c.args.value.now, 0)) c.make-cells.ensures) i)))
    ∙ first_count c.args.rows.now c.args.row.now c.args.qual.now (c.args.value.now, 0) c.requires

use Rattle.std.proofs.Common.{◌++◌, ap, ◌∙◌}
use Rattle.std.specs.FinMap.{empty, get, insert}
use Rattle.qual_codec.specs.CellDots.{column_qual}
use Rattle.packed_cells.specs.Keyed.{CellMap, appended, bytes_there}
use Rattle.map_body.specs.TableRows.{count_of}
use Rattle.map_body.proofs.Maps.{first_count}
use Rattle.map_body.proofs.table_rows.append_first.Goals as goal

pub returns-clause-count : goal.returns-clause-count
returns-clause-count c =
    ap count_of
    (c.in_ok-insert.ensures.ok
    ∙ (λ i. insert c.args.rows.now (c.in_ok-again.ensures.made i) ((c.in_ok-append.ensures.ok ∙ ap (λ (m : CellMap). appended m c.args.piece.now 0) c.make-first.ensures) i)))
    ∙ first_count c.args.rows.now c.args.row.now column_qual (bytes_there (get empty column_qual) ++ c.args.piece.now, 0) c.requires

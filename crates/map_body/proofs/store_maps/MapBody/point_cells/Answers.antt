use Rattle.std.proofs.Common.{ap, ◌∙◌}
use Rattle.map_body.proofs.store_maps.MapBody.point_cells.Goals as goal
use Rattle.std.specs.FinMap.{entries}
use Rattle.std.specs.Prelude.{slice_index_or}
use Rattle.map_body.proofs.Bodies.{at_table, cells_counted}
use Rattle.map_body.specs.TableRows.{cells_among}
use Rattle.row_pages.specs.RowMaps.{Rows}
use Rattle.row_key.specs.declared.tables.Table.TheVariants.{Points}

pub returns : goal.returns
returns c =
    rw (← c.self.view_is)
    (c.count.ensures ∙ ap (λ (r : Rows). cells_among (entries r)) (at_table c.self.inside.tables Points c.number.result (slice_index_or c.self.inside.tables c.number.result c.index-self-number.result) c.self.invariant.1 c.number.ensures (ap (slice_index_or c.self.inside.tables c.number.result) c.index-self-number.is)) ∙ cells_counted c.self.inside.widths c.self.inside.tables c.self.inside.counters)

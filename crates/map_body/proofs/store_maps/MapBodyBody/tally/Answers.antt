use Rattle.std.proofs.Common.{[], ◌∷◌, length, ap, subst, ◌∙◌}
use Rattle.map_body.proofs.store_maps.MapBodyBody.tally.Goals as goal
use Rattle.std.specs.FinMap.{entries}
use Rattle.row_pages.specs.RowMaps.{Rows}
use Rattle.std.specs.Prelude.{slice_index_or}
use Rattle.map_body.proofs.Bodies.{at_table, counters_read, number_read, rows_counted}
use Rattle.row_key.specs.declared.tables.Table.TheVariants.{Points}
use Rattle.map_body.specs.TableRows.{NoneEmpty}
use Rattle.tsd_base.specs.declared.kinds.Kind.TheVariants.{Metric, TagKey, TagValue}

pub returns-clause-counters : goal.returns-clause-counters
returns-clause-counters c = rw (← c.self.view_is) (counters_read c.self.inside.widths c.self.inside.tables c.self.inside.counters c.self.invariant.0 c.self.invariant.2)

pub returns-clause-ids : goal.returns-clause-ids
returns-clause-ids c =
    rw (← c.self.view_is)
    (λ i. (c.number.ensures ∙ number_read c.self.inside.widths c.self.inside.tables c.self.inside.counters c.self.invariant.0 Metric) i ∷ (c.number-2.ensures ∙ number_read c.self.inside.widths c.self.inside.tables c.self.inside.counters c.self.invariant.0 TagKey) i
    ∷ (c.number-3.ensures ∙ number_read c.self.inside.widths c.self.inside.tables c.self.inside.counters c.self.invariant.0 TagValue) i ∷ [])

pub returns-clause-rows : goal.returns-clause-rows
returns-clause-rows c =
    rw (← c.self.view_is)
    (c.len.ensures.rows ∙ ap (λ (r : Rows). length (entries r)) (at_table c.self.inside.tables Points c.number-4.result (slice_index_or c.self.inside.tables c.number-4.result c.index-self-number.result) c.self.invariant.1 c.number-4.ensures (ap (slice_index_or c.self.inside.tables c.number-4.result) c.index-self-number.is))
    ∙ rows_counted c.self.inside.widths c.self.inside.tables c.self.inside.counters (subst NoneEmpty (at_table c.self.inside.tables Points c.number-4.result (slice_index_or c.self.inside.tables c.number-4.result c.index-self-number.result) c.self.invariant.1 c.number-4.ensures (ap (slice_index_or c.self.inside.tables c.number-4.result) c.index-self-number.is)) c.len.ensures.none_empty))

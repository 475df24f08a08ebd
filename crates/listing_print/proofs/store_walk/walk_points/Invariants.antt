use Rattle.std.proofs.Common.{◌≤◌}
use Rattle.row_key.specs.declared.tables.Table.TheVariants.{Points}
use Rattle.listing_print.specs.MetricRows.{metric_end}
use Rattle.listing_print.specs.StoreRows.{TookRows, row_at}
use Rattle.listing_print.proofs.store_walk.walk_points.Given as goal

-- the rows of so many metrics were taken
abbrev pub invariant-loop-before : goal.invariant-loop-before
invariant-loop-before g l = record {
  taken : TookRows g.T.LineTaker.took (g.B.Body.content l.body) (row_at Points (metric_end (g.B.Body.content l.body).widths 0)) (row_at Points (metric_end (g.B.Body.content l.body).widths l.before)) (g.K.Sink.held l.fn.sink, l.fn.taker) (g.K.Sink.held l.sink, l.taker);
  later : g.K.Sink.faults l.fn.sink ≤ g.K.Sink.faults l.sink;
}

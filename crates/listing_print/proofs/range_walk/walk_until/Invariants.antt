use Rattle.std.proofs.Common.{◌≡◌, ◌≤◌, false}
use Rattle.std.specs.Ordering.{is_lt}
use Rattle.list_lemmas.specs.BytesOrder.{bytes_cmp}
use Rattle.cell_model.specs.Ranges.{InOneRange}
use Rattle.listing_print.specs.StoreRows.{TookRows, row_at}
use Rattle.listing_print.proofs.range_walk.walk_until.Given as goal

-- the rows before the next one were taken
abbrev pub invariant-loop : goal.invariant-loop
invariant-loop g l = record {
  taken : TookRows g.T.LineTaker.took (g.B.Body.content l.body) (row_at l.table l.fn.from) (row_at l.table l.next) (g.K.Sink.held l.fn.sink, l.fn.taker) (g.K.Sink.held l.sink, l.taker);
  range : InOneRange (g.B.Body.content l.body).widths l.table l.next l.to;
  forward : is_lt (bytes_cmp l.to l.next) ≡ false;
  later : g.K.Sink.faults l.fn.sink ≤ g.K.Sink.faults l.sink;
}

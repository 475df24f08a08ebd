use Rattle.std.proofs.Common.{◌≤◌}
use Rattle.listing_print.proofs.IdsTaken.{IdsTaken}
use Rattle.listing_print.proofs.store_walk.walk_ids.Given as goal

-- the rows of the ids that aren't left were taken
abbrev pub invariant-loop : goal.invariant-loop
invariant-loop g l = record {
  taken : IdsTaken g.T.LineTaker.took (g.B.Body.content l.body) l.ids (g.K.Sink.held l.fn.sink, l.fn.taker) (g.K.Sink.held l.sink, l.taker);
  later : g.K.Sink.faults l.fn.sink ≤ g.K.Sink.faults l.sink;
}

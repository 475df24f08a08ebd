use Rattle.std.proofs.Common.{ap}
use Rattle.map_body.proofs.store_maps.MapBody.put_cell.Goals as goal
use Rattle.std.specs.FinMap.{insert}
use Rattle.map_body.specs.TableRows.{row_in}
use Rattle.std.specs.Prelude.{slice_index_or}
use Rattle.map_body.proofs.Bodies.{kept_whole, written_whole}

pub invariant_of-self-2 : goal.invariant_of-self-2
invariant_of-self-2 c = kept_whole c.self.inside.widths c.self.inside.tables c.self.inside.counters c.self.invariant c.args.table c.args.row.now c.requires c.number.result (slice_index_or c.self.inside.tables c.number.result c.index-self-number.result) c.put.new.self (insert (row_in (slice_index_or c.self.inside.tables c.number.result c.index-self-number.result) c.args.row.now) c.list.result.now (c.list-2.result.now, 0)) c.number.ensures (ap (slice_index_or c.self.inside.tables c.number.result) c.index-self-number.is) c.in_ok-put.ensures.ok

pub returns-clause-ok : goal.returns-clause-ok
returns-clause-ok c = rw (← c.self.view_is) (written_whole c.self.inside.widths c.self.inside.tables c.self.inside.counters c.self.invariant c.args.table c.args.row.now c.requires c.number.result (slice_index_or c.self.inside.tables c.number.result c.index-self-number.result) c.put.new.self (insert (row_in (slice_index_or c.self.inside.tables c.number.result c.index-self-number.result) c.args.row.now) c.list.result.now (c.list-2.result.now, 0)) c.number.ensures (ap (slice_index_or c.self.inside.tables c.number.result) c.index-self-number.is) c.in_ok-put.ensures.ok c.args.qual.now c.args.value.now 0 (λ i. insert (row_in (slice_index_or c.self.inside.tables c.number.result c.index-self-number.result) c.args.row.now) (c.list.ensures i) (c.list-2.ensures i, 0)))

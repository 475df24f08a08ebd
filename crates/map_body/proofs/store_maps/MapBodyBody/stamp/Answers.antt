use Rattle.std.proofs.Common.{ℕ, List, ap}
use Rattle.map_body.proofs.store_maps.MapBodyBody.stamp.Goals as goal
use Rattle.map_body.specs.TableRows.{row_in}
use Rattle.std.specs.Prelude.{slice_index_or}
use Rattle.map_body.proofs.Bodies.{kept_whole, stamped_whole}
use Rattle.packed_cells.specs.Keyed.{stamped}

pub invariant_of-self : goal.invariant_of-self
invariant_of-self c = kept_whole c.self.inside.widths c.self.inside.tables c.self.inside.counters c.self.invariant c.args.row.now.table c.args.row.now.bytes c.requires.no_counter c.number.result (slice_index_or c.self.inside.tables c.number.result c.index-self-number.result) c.stamp.new.self (stamped (row_in (slice_index_or c.self.inside.tables c.number.result c.index-self-number.result) c.args.row.now.bytes) c.list.result.now c.args.place) c.number.ensures (ap (slice_index_or c.self.inside.tables c.number.result) c.index-self-number.is) c.stamp.ensures

pub returns-clause-content : goal.returns-clause-content
returns-clause-content c = rw (← c.self.view_is) (stamped_whole c.self.inside.widths c.self.inside.tables c.self.inside.counters c.self.invariant c.args.row.now.table c.args.row.now.bytes c.requires.no_counter c.number.result (slice_index_or c.self.inside.tables c.number.result c.index-self-number.result) c.stamp.new.self (stamped (row_in (slice_index_or c.self.inside.tables c.number.result c.index-self-number.result) c.args.row.now.bytes) c.list.result.now c.args.place) c.number.ensures (ap (slice_index_or c.self.inside.tables c.number.result) c.index-self-number.is) c.stamp.ensures c.args.qual.now c.args.place (ap (λ (q : List ℕ). stamped (row_in (slice_index_or c.self.inside.tables c.number.result c.index-self-number.result) c.args.row.now.bytes) q c.args.place) c.list.ensures))

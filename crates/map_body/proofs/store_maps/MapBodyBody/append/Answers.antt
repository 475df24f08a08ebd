use Rattle.std.proofs.Common.{ℕ, List, ap}
use Rattle.std.specs.Prelude.{slice_index_or}
use Rattle.packed_cells.specs.Keyed.{appended}
use Rattle.map_body.specs.TableRows.{row_in}
use Rattle.map_body.proofs.Bodies.{kept_whole, appended_whole}
use Rattle.map_body.proofs.store_maps.MapBodyBody.append.Goals as goal

pub invariant_of-self-2 : goal.invariant_of-self-2
invariant_of-self-2 c = kept_whole c.self.inside.widths c.self.inside.tables c.self.inside.counters c.self.invariant c.args.row.now.table c.args.row.now.bytes c.requires.no_counter c.number.result (slice_index_or c.self.inside.tables c.number.result c.index-self-number.result) c.append.new.self (appended (row_in (slice_index_or c.self.inside.tables c.number.result c.index-self-number.result) c.args.row.now.bytes) c.list.result.now 0) c.number.ensures (ap (slice_index_or c.self.inside.tables c.number.result) c.index-self-number.is) c.in_ok-append.ensures.ok

pub returns-clause-ok : goal.returns-clause-ok
returns-clause-ok c = rw (← c.self.view_is) (appended_whole c.self.inside.widths c.self.inside.tables c.self.inside.counters c.self.invariant c.args.row.now.table c.args.row.now.bytes c.requires.no_counter c.number.result (slice_index_or c.self.inside.tables c.number.result c.index-self-number.result) c.append.new.self (appended (row_in (slice_index_or c.self.inside.tables c.number.result c.index-self-number.result) c.args.row.now.bytes) c.list.result.now 0) c.number.ensures (ap (slice_index_or c.self.inside.tables c.number.result) c.index-self-number.is) c.in_ok-append.ensures.ok c.args.piece.now (ap (λ (p : List ℕ). appended (row_in (slice_index_or c.self.inside.tables c.number.result c.index-self-number.result) c.args.row.now.bytes) p 0) c.list.ensures))

use Rattle.std.proofs.Common.{ap, ◌∙◌}
use Rattle.map_body.proofs.store_maps.MapBodyBody.drop_cells.Goals as goal
use Rattle.map_body.specs.TableRows.{row_in}
use Rattle.std.specs.Prelude.{slice_index_or}
use Rattle.map_body.proofs.Bodies.{at_table, kept_whole, dropped_whole}
use Rattle.map_body.proofs.Changes.{drop_counted}
use Rattle.map_body.specs.TableRows.{left, gone}

pub invariant_of-self : goal.invariant_of-self
invariant_of-self c = kept_whole c.self.inside.widths c.self.inside.tables c.self.inside.counters c.self.invariant c.args.row.now.table c.args.row.now.bytes c.requires.no_counter c.number.result (slice_index_or c.self.inside.tables c.number.result c.index-self-number.result) c.drop_cells.new.self (left (row_in (slice_index_or c.self.inside.tables c.number.result c.index-self-number.result) c.args.row.now.bytes) c.list.result.now) c.number.ensures (ap (slice_index_or c.self.inside.tables c.number.result) c.index-self-number.is) c.drop_cells.ensures.rest

pub returns-clause-count : goal.returns-clause-count
returns-clause-count c =
    rw (← c.self.view_is)
    (c.drop_cells.ensures.count ∙ (λ i. gone (row_in (at_table c.self.inside.tables c.args.row.now.table c.number.result (slice_index_or c.self.inside.tables c.number.result c.index-self-number.result) c.self.invariant.1 c.number.ensures (ap (slice_index_or c.self.inside.tables c.number.result) c.index-self-number.is) i) c.args.row.now.bytes) (c.list.ensures i))
    ∙ drop_counted c.self.inside.widths c.self.inside.tables c.self.inside.counters c.args.row.now c.requires.no_counter c.args.which.now)

pub returns-clause-content : goal.returns-clause-content
returns-clause-content c = rw (← c.self.view_is) (dropped_whole c.self.inside.widths c.self.inside.tables c.self.inside.counters c.self.invariant c.args.row.now.table c.args.row.now.bytes c.requires.no_counter c.number.result (slice_index_or c.self.inside.tables c.number.result c.index-self-number.result) c.drop_cells.new.self (left (row_in (slice_index_or c.self.inside.tables c.number.result c.index-self-number.result) c.args.row.now.bytes) c.list.result.now) c.number.ensures (ap (slice_index_or c.self.inside.tables c.number.result) c.index-self-number.is) c.drop_cells.ensures.rest c.args.which.now (ap (left (row_in (slice_index_or c.self.inside.tables c.number.result c.index-self-number.result) c.args.row.now.bytes)) c.list.ensures))

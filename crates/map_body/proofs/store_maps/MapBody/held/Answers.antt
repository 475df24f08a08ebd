use Rattle.std.proofs.Common.{ℕ, List, sym, ap, ◌∙◌}
use Rattle.std.specs.Prelude.{option_map}
use Rattle.map_body.proofs.store_maps.MapBody.held.Goals as goal
use Rattle.std.specs.FinMap.{get}
use Rattle.map_body.specs.TableRows.{row_in}
use Rattle.std.specs.Prelude.{slice_index_or}
use Rattle.map_body.proofs.Bodies.{at_table}
use Rattle.map_body.proofs.Changes.{value_is}

pub returns : goal.returns
returns c =
    rw (← c.self.view_is)
    (c.value.ensures
    ∙ (λ i. option_map (λ (p : List ℕ × ℕ). p.0) (get (row_in (at_table c.self.inside.tables c.args.row.now.table c.number.result (slice_index_or c.self.inside.tables c.number.result c.index-self-number.result) c.self.invariant.1 c.number.ensures (ap (slice_index_or c.self.inside.tables c.number.result) c.index-self-number.is) i) c.args.row.now.bytes) (c.list.ensures i)))
    ∙ sym (value_is c.self.inside.widths c.self.inside.tables c.self.inside.counters c.args.row.now c.requires c.args.qual.now))

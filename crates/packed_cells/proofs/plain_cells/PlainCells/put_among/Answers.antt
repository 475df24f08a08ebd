use Rattle.std.proofs.Common.{◌≡◌, length, sym, ap, ◌∙◌}
use Rattle.std.specs.Prelude.{slice_index_or, Some, None}
use Rattle.std.specs.FinMap as fin
use Rattle.packed_cells.specs.Keyed.{map_of}
use Rattle.cell_blocks.proofs.Order.{found_length}
use Rattle.packed_cells.proofs.Keyed.{get_at, get_gap, value_of_some}
use Rattle.cell_blocks.proofs.Order.{none}
use Rattle.packed_cells.proofs.plain_cells.PlainCells.put_among.Goals as goal

pub returns-in-Ok-clause-in_place : goal.returns-in-Ok-clause-in_place
returns-in-Ok-clause-in_place c v n is same =
    let found : fin.get (map_of c.self.inside.cells) c.args.qual.now ≡ Some (v, n) = rw c.self.view_is is in
    let there = get_at c.args.qual.now c.self.inside.cells c.in-Ok.i none c.self.invariant c.in-Ok.ensures.found in
    let value : (slice_index_or c.self.inside.cells c.in-Ok.i none).value ≡ v = value_of_some _ v _ n (sym there ∙ found) in
    c.set.ensures.in_place none (found_length c.args.qual.now c.self.inside.cells c.in-Ok.i none c.in-Ok.ensures.found) (ap length value ∙ same)

pub returns-in-Err-clause-in_place : goal.returns-in-Err-clause-in_place
returns-in-Err-clause-in_place c v n is same =
    let found : fin.get (map_of c.self.inside.cells) c.args.qual.now ≡ Some (v, n) = rw c.self.view_is is in
    let absent : fin.get (map_of c.self.inside.cells) c.args.qual.now ≡ None = get_gap c.args.qual.now c.self.inside.cells c.in-Err.i c.in-Err.ensures.absent in
    cc

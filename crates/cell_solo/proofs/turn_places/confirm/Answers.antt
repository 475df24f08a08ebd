use Rattle.std.proofs.Common.{◌≡◌, ◌<◌, length, rules}
use Rattle.std.specs.Prelude.{slice_index_or}
use Rattle.cell_solo.proofs.Placing.{row_found}
use Rattle.cell_solo.proofs.turn_places.confirm.Goals as goal

pub returns-then-is_at : goal.returns-then-is_at
returns-then-is_at c =
    let lt : c.in_ok-number.number < length c.args.places.now = search rules in
    let is : c.in_ok-place.place.now ≡ slice_index_or c.args.places.now c.in_ok-number.number c.in_ok-place.place.now = search rules in
    row_found c.args.places.now c.args.block.now c.in_ok-number.number c.in_ok-place.place.now c.args.row.now lt is (c.is_at.ensures.table c.if-is_at.true) (c.is_at.ensures.bytes c.if-is_at.true)

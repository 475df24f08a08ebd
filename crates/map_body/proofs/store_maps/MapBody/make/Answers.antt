use Rattle.std.proofs.Common.{[], ◌∷◌, refl}
use Rattle.map_body.proofs.store_maps.MapBody.make.Goals as goal
use Rattle.map_body.proofs.Bodies.{empty_whole, empty_row}
use Rattle.map_body.proofs.Counted.{no_counters}

pub invariant_of-result : goal.invariant_of-result
invariant_of-result c = (empty_row c.make.result (0 ∷ []) c.make.ensures, refl, no_counters c.args.widths c.make-4.result c.make-4.ensures)

pub returns : goal.returns
returns c = empty_whole c.args.widths c.make.result c.make-2.result c.make-3.result c.make-4.result c.make.ensures c.make-2.ensures c.make-3.ensures c.make-4.ensures

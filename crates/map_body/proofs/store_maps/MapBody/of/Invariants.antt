use Rattle.std.proofs.Common.{◌≡◌}
use Rattle.map_body.proofs.store_maps.MapBody.of.Given as goal
use Rattle.std.specs.Prelude.{take}
use Rattle.cell_model.specs.Listed.{store_of}

abbrev pub invariant-loop-line : goal.invariant-loop-line
invariant-loop-line l = l.body ≡ store_of (record { widths = l.fn.listing.widths; lines = take l.line-index l.line-items })

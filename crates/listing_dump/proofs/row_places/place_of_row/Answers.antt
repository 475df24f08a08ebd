use Rattle.std.proofs.Common.{subst}
use Rattle.std.specs.Prelude.{Ok}
use Rattle.row_key.specs.declared.keys.RowKey.{RowKey}
use Rattle.listing_dump.specs.RowPlaces.{HasRanks}
use Rattle.listing_dump.proofs.Turns.{never_err, same_ok}
use Rattle.listing_dump.proofs.row_places.place_of_row.Goals as goal

pub row_place-requires-clause-ranks : goal.row_place-requires-clause-ranks
row_place-requires-clause-ranks c =
    let k = c.requires in
    subst (λ (x : RowKey). HasRanks c.args.ranks.now x) (same_ok k.0 c.in-Ok.key c.read_key.result (c.read_key.ensures.alone (Ok k.0) k.1) c.in-Ok.is) k.2

pub unreachable-requires : goal.unreachable-requires
unreachable-requires c = let k = c.requires in never_err k.0 c.in-Err.field-0 c.read_key.result (c.read_key.ensures.alone (Ok k.0) k.1) c.in-Err.is

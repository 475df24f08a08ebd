use Rattle.std.proofs.Common.{◌≡◌, take}
use Rattle.arrayvec.specs.ArrayVec.{array_vec_len}
use Rattle.listing_dump.specs.RowPlaces.{AreRanked}
use Rattle.listing_dump.proofs.row_places.ranks_of_tags.Given as goal

abbrev pub invariant-loop-pair : goal.invariant-loop-pair
invariant-loop-pair l = record {
  ranked : AreRanked l.ranks (take l.pair-index l.pairs) l.tags.items;
  len : array_vec_len l.tags ≡ l.pair-index;
}

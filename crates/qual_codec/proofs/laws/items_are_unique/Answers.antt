use Rattle.qual_codec.proofs.Bits.{items_once}
use Rattle.qual_codec.proofs.laws.items_are_unique.Goals as goal

pub returns : goal.returns
returns c = items_once

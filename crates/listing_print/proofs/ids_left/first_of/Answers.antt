use Rattle.std.proofs.Common.{arith}
use Rattle.listing_print.proofs.LeastIds.{most_fits}
use Rattle.listing_print.proofs.ids_left.first_of.Goals as goal

pub overflow_cast-left : goal.overflow_cast-left
overflow_cast-left c = let most = most_fits c.args.width c.requires.width in omega (arith, most)

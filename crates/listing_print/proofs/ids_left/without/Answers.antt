use Rattle.std.proofs.Common.{sym, ◌∙◌, arith}
use Rattle.listing_print.proofs.LeastIds.{first_within, most_fits}
use Rattle.listing_print.proofs.ids_left.without.Goals as goal

pub overflow_add-result : goal.overflow_add-result
overflow_add-result c =
    let most = most_fits c.args.width c.requires.width in
    let within = first_within c.args.width c.args.left c.in-Some.first (sym c.first_of.ensures ∙ c.in-Some.is) in
    omega (arith, most, within)

use Rattle.std.proofs.Common.{sym, ◌∙◌}
use Rattle.listing_dump.proofs.Bests.{beats_none, judged}
use Rattle.listing_dump.proofs.best_dots.has_as_good.Goals as goal

pub returns-in-Some : goal.returns-in-Some
returns-in-Some c = λ dots are. judged dots c.args.dot.now c.args.best.now are c.in-Some.kept c.is_as_good.result (sym c.kept_of.ensures ∙ c.in-Some.is) c.is_as_good.ensures

pub returns-in-None : goal.returns-in-None
returns-in-None c = λ dots are. beats_none dots c.args.dot.now c.args.best.now are (sym c.kept_of.ensures ∙ c.in-None.is)

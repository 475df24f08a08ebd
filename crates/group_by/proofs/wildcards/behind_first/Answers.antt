use Rattle.std.proofs.Common.{◌∙◌, sym, ap, ◌∷◌}
use Rattle.group_by.specs.Wildcards.{some_end, fills}
use Rattle.group_by.proofs.Wilds.{found_here}
use Rattle.group_by.proofs.wildcards.behind_first.Goals as goal

pub returns-in-Some : goal.returns-in-Some
returns-in-Some c next parts = c.loop-rest.invariant next parts ∙ found_here (fills (next ∷ parts)) c.args.part.now c.loop-rest.end.now c.in-Some.ensures.cases.0 ∙ ap (some_end (fills (next ∷ parts))) (sym c.in-Some.ensures.cases.1)

use Rattle.std.proofs.Common.{refl, sym, subst, ◌∙◌}
use Rattle.test_rows.specs.Merges.{HasAbove}
use Rattle.test_rows.proofs.Allowing.{none_below, more_below}
use Rattle.test_rows.proofs.drops.below.Goals as goal

pub loop-qual-init : goal.loop-qual-init
loop-qual-init c = none_below c.args.facts.now c.args.row.now c.make-which.result c.make-which.ensures

pub loop-qual-preserved : goal.loop-qual-preserved
loop-qual-preserved c = more_below c.args.facts.now c.args.row.now c.loop-qual.which _ c.in_ok-again.field-0 c.in-Some.version c.in_ok-push.ensures.ok c.loop-qual.invariant
    (subst (HasAbove c.args.facts.now c.args.row.now) (c.list-in-loop-qual.ensures ∙ sym c.in_ok-again.ensures.made) (c.if-not-has_above.ensures refl))

use Rattle.std.proofs.Common.{arith, rules, ◌∙◌}
use Rattle.listing_fix.proofs.Chosen.{all_picked, none_picked, one_picked}
use Rattle.listing_fix.proofs.stayers.drop_unflagged.Goals as goal

pub loop-at-init : goal.loop-at-init
loop-at-init c = none_picked c.args.flags.now c.args.cells.now.items c.requires

pub keep_if-kept-requires : goal.keep_if-kept-requires
keep_if-kept-requires c =
    let below = c.loop-at-test.true in
    let long = c.loop-at.invariant.long in
    record { behind = c.loop-at.invariant.behind; within = omega (arith, below, long) }

pub loop-at-preserved : goal.loop-at-preserved
loop-at-preserved c =
    one_picked c.args.flags.now c.args.cells.now.items c.loop-at.cells.items c.keep_if-kept.new.cells.items c.loop-at.kept c.loop-at.at c.keep_if-kept.result _ c.loop-at.invariant (search rules) c.keep_if-kept.ensures (search rules)

pub returns : goal.returns
returns c =
    let end = c.loop-at-test.false in
    c.truncate.ensures.items ∙ all_picked c.args.flags.now c.args.cells.now.items c.loop-at.cells.items c.loop-at.kept c.loop-at.at c.loop-at.invariant (omega (arith, end))

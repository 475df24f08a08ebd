use Rattle.std.proofs.Common.{ap, arith, rules, take, ◌∙◌}
use Rattle.listing_fix.proofs.FirstCells.{all_taken, none_taken, one_taken}
use Rattle.listing_fix.proofs.cell_order.keep_firsts.Goals as goal

pub loop-at-init : goal.loop-at-init
loop-at-init c = none_taken c.args.cells.now.items

pub keep_if-kept-requires : goal.keep_if-kept-requires
keep_if-kept-requires c =
    let below = c.loop-at-test.true in
    let long = c.loop-at.invariant.long in
    record { behind = c.loop-at.invariant.behind; within = omega (arith, below, long) }

pub loop-at-preserved : goal.loop-at-preserved
loop-at-preserved c =
    one_taken c.args.cells.now.items c.loop-at.cells.items c.keep_if-kept.new.cells.items (take c.loop-at.kept c.deref.result.now) c.loop-at.kept c.loop-at.at c.keep_if-kept.result c.index-cell.result.now c.is_behind-stays.result c.loop-at.invariant
    (search rules) (search rules) c.is_behind-stays.ensures c.keep_if-kept.ensures (ap (take c.loop-at.kept) c.deref.ensures.value)

pub returns : goal.returns
returns c =
    let end = c.loop-at-test.false in
    c.truncate.ensures.items ∙ all_taken c.args.cells.now.items c.loop-at.cells.items c.loop-at.kept c.loop-at.at c.loop-at.invariant (omega (arith, end))

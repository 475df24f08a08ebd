use Rattle.std.proofs.Common.{rules, arith}
use Rattle.listing_check.proofs.OffsetTurns.{all_added, none_added, one_added}
use Rattle.listing_check.proofs.row_values.RowValues.add_all.Goals as goal

pub loop-at-init : goal.loop-at-init
loop-at-init c = none_added c.args.own.now c.args.self.now

pub loop-at-preserved : goal.loop-at-preserved
loop-at-preserved c =
    one_added c.args.own.now c.loop-at.at _ c.args.self.now c.loop-at.self c.add.new.self c.loop-at.clashes c.in_ok-differs.differs (search rules) (search rules) c.loop-at.invariant c.in_ok-differs.ensures

pub returns : goal.returns
returns c = all_added c.args.own.now c.loop-at.at c.args.self.now c.loop-at.self c.loop-at.clashes (let end = c.loop-at-test.false in omega (arith, end)) c.loop-at.invariant

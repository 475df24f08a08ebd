use Rattle.std.proofs.Common.{refl}
use Rattle.series_meta.proofs.LatestDots.{later_none, latest_more, latest_all}
use Rattle.series_meta.proofs.latest_dot.latest_offset.Goals as goal

pub loop-dot-init : goal.loop-dot-init
loop-dot-init c = later_none c.args.most

pub loop-dot-preserved : goal.loop-dot-preserved
loop-dot-preserved c =
    let l = c.loop-dot in
    latest_more c.args.dots.now l.dot-index _ l.latest _ c.args.most _ l.invariant c.loop-dot-test.true refl c.later-latest.ensures

pub returns : goal.returns
returns c =
    let l = c.loop-dot in
    latest_all c.args.dots.now l.dot-index l.latest c.args.most c.loop-dot-test.false l.invariant

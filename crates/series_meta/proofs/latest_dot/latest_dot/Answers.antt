use Rattle.series_meta.proofs.LatestDots.{latest_kept, latest_none}
use Rattle.series_meta.proofs.latest_dot.latest_dot.Goals as goal

pub returns-in_default : goal.returns-in_default
returns-in_default c = latest_none c.args.cells.now c.in_ok-dots.dots.items c.as_slice.result.now c.args.most c.latest_offset.result c.in_ok-dots.ensures c.as_slice.ensures.value c.in_default.is c.latest_offset.ensures

pub returns : goal.returns
returns c =
    latest_kept c.args.cells.now c.in_ok-dots.dots.items c.as_slice.result.now c.in_ok-kept.kept.items c.args.most c.in-Some.offset c.latest_offset.result c.index.result.now c.in_ok-dots.ensures c.as_slice.ensures.value c.in-Some.is c.latest_offset.ensures c.in_ok-kept.ensures.kept c.index.ensures

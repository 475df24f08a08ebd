use Rattle.std.proofs.Common.{refl, rules}
use Rattle.listing_check.proofs.CallerLemmas.{none_known}
use Rattle.listing_fix.proofs.Judged.{all_judged, none_judged, one_judged}
use Rattle.listing_fix.proofs.sound_points.point_flags.Goals as goal

pub loop-at-init : goal.loop-at-init
loop-at-init c = record {
  judged = none_judged c.args.widths c.args.cells.now _ (search rules);
  known = none_known c.args.widths c.args.cells.now _ refl;
}

pub stays-requires : goal.stays-requires
stays-requires c = record {
  rising = c.requires;
  is = record { within = search rules; is = search rules };
  known = c.loop-at.invariant.known;
}

pub loop-at-preserved : goal.loop-at-preserved
loop-at-preserved c = record {
  judged =
      one_judged c.args.widths c.args.cells.now c.loop-at.at c.index-cells-at.result c.in_ok-flag.flag c.loop-at.flags.items c.push.new.self.items (search rules) (search rules) c.loop-at.invariant.judged c.in_ok-flag.ensures.flag (search rules);
  known = c.in_ok-flag.ensures.known;
}

pub returns : goal.returns
returns c = all_judged c.args.widths c.args.cells.now c.loop-at.at c.loop-at.flags.items (search rules) c.loop-at.invariant.judged

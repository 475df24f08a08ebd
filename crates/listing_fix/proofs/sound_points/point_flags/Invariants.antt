use Rattle.listing_check.specs.RowFlaws.{IsKnown}
use Rattle.listing_fix.proofs.Judged.{AreJudged}
use Rattle.listing_fix.proofs.sound_points.point_flags.Given as goal

abbrev pub invariant-loop-at : goal.invariant-loop-at
invariant-loop-at l = record {
  judged : AreJudged l.widths l.cells l.at l.flags.items;
  known : IsKnown l.widths l.cells l.known;
}

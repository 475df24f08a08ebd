use Rattle.std.proofs.Common.{refl, sym, ◌∙◌}
use Rattle.listing_fix.proofs.Judged.{other_judged, point_judged}
use Rattle.listing_fix.proofs.sound_points.stays.Goals as goal

pub returns-then-is_points-clause-flag : goal.returns-then-is_points-clause-flag
returns-then-is_points-clause-flag c =
    point_judged c.args.widths c.args.cells.now c.args.cell.now c.in_ok-flaw.flaw c.is_none.result (sym c.is_points.ensures ∙ c.if-is_points.true) c.in_ok-flaw.ensures.flaw c.is_none.ensures

pub returns-clause-flag : goal.returns-clause-flag
returns-clause-flag c = other_judged c.args.widths c.args.cells.now c.args.cell.now _ (sym c.is_points.ensures ∙ c.if-is_points.false) refl

use Rattle.listing_fix.proofs.Fixed.{fixed_sound, fixed_stays, made_fixes}
use Rattle.listing_fix.proofs.fix.fix.Goals as goal

pub returns-clause-fixes : goal.returns-clause-fixes
returns-clause-fixes c = made_fixes c.args.listed c.widths-widths.result c.in_ok-cells.cells.items c.in_ok-left.left.items c.of.result c.widths-widths.ensures c.in_ok-cells.ensures.told c.in_ok-left.ensures.sifted c.of.ensures

pub returns-clause-sound : goal.returns-clause-sound
returns-clause-sound c =
    fixed_sound c.flawless_is_base.ensures.base c.args.listed c.widths-widths.result c.of.result c.widths-widths.ensures
    (made_fixes c.args.listed c.widths-widths.result c.in_ok-cells.cells.items c.in_ok-left.left.items c.of.result c.widths-widths.ensures c.in_ok-cells.ensures.told c.in_ok-left.ensures.sifted c.of.ensures)

pub returns-clause-stays : goal.returns-clause-stays
returns-clause-stays c =
    fixed_stays c.flawless_is_base.ensures.base c.no_fault_is_sound.ensures c.args.listed c.of.result
    (made_fixes c.args.listed c.widths-widths.result c.in_ok-cells.cells.items c.in_ok-left.left.items c.of.result c.widths-widths.ensures c.in_ok-cells.ensures.told c.in_ok-left.ensures.sifted c.of.ensures)

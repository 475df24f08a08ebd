use Rattle.std.proofs.Common.{refl, subst}
use Rattle.cell_model.specs.declared.row.Listing.{Listing}
use Rattle.test_rows.specs.Bases.{IsSoundLine}
use Rattle.test_rows.proofs.Allowing.{next_too, of_all}
use Rattle.test_rows.proofs.Lines.{lines_are_base, no_flaws}
use Rattle.test_rows.proofs.base.is_base.Goals as goal

pub loop-line-preserved : goal.loop-line-preserved
loop-line-preserved c =
    let listing : Listing = record { widths = c.args.widths; lines = c.args.lines.now } in
    next_too (IsSoundLine listing) c.args.lines.now c.loop-line.line-index c.line-item.result c.loop-line-test.true c.loop-line.invariant (subst (IsSoundLine listing) c.line-item.is (c.if-not-is_sound.ensures refl))

pub returns-clause-base : goal.returns-clause-base
returns-clause-base c = λ yes.
    let listing : Listing = record { widths = c.args.widths; lines = c.args.lines.now } in
    lines_are_base listing (of_all (IsSoundLine listing) c.args.lines.now c.loop-line.line-index c.loop-line-test.false c.loop-line.invariant)

pub returns-clause-flaws : goal.returns-clause-flaws
returns-clause-flaws c = λ yes.
    let listing : Listing = record { widths = c.args.widths; lines = c.args.lines.now } in
    no_flaws listing (of_all (IsSoundLine listing) c.args.lines.now c.loop-line.line-index c.loop-line-test.false c.loop-line.invariant)

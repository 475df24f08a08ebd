use Rattle.std.proofs.Common.{rules, ◌∙◌}
use Rattle.listing_fix.specs.Steps.{keeps_name}
use Rattle.listing_fix.proofs.NameCells.{all_tested, one_tested, stays_by_row}
use Rattle.listing_fix.proofs.given_names.name_flags.Goals as goal

pub loop-at-preserved : goal.loop-at-preserved
loop-at-preserved c =
    one_tested (keeps_name c.args.widths c.args.cells.now) c.args.cells.now c.loop-at.at c.index-cells-at.result c.keeps_name.result c.loop-at.flags.items c.push.new.self.items (search rules) (search rules) c.loop-at.invariant
    (c.keeps_name.ensures ∙ stays_by_row c.args.widths c.args.cells.now c.index-cells-at.result) (search rules)

pub returns : goal.returns
returns c = all_tested (keeps_name c.args.widths c.args.cells.now) c.args.cells.now c.loop-at.at c.loop-at.flags.items (search rules) c.loop-at.invariant

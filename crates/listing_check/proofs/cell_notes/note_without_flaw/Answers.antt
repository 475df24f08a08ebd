use Rattle.std.proofs.Common.{rules}
use Rattle.listing_check.proofs.RowTurns.{ids_noted, names_noted, points_noted}
use Rattle.listing_check.proofs.cell_notes.note_without_flaw.Goals as goal

pub returns-in-Ids : goal.returns-in-Ids
returns-in-Ids c = ids_noted c.args.widths c.args.cells.now c.args.at c.args.cell.now c.requires.is c.args.values.now (search rules) c.requires.free c.requires.seen

pub returns-in-Names : goal.returns-in-Names
returns-in-Names c =
    names_noted c.args.widths c.args.cells.now c.args.at c.args.cell.now c.requires.is c.args.values.now c.is_wasted-wasted.result _ (search rules) (search rules) (search rules) c.requires.free c.requires.seen

pub returns-in_ok-clashes-in-Points : goal.returns-in_ok-clashes-in-Points
returns-in_ok-clashes-in-Points c =
    points_noted c.args.widths c.args.cells.now c.args.at c.args.cell.now c.requires.is (search rules) c.requires.free c.args.values.now c.requires.seen
    _ c.in_ok-clashes-in-Points.clashes _ _ _ (search rules) (search rules) c.in_ok-clashes-in-Points.ensures (search rules)

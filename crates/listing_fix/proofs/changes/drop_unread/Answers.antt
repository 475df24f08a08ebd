use Rattle.std.proofs.Common.{subst, sym}
use Rattle.cell_model.specs.Rising.{LinesRise}
use Rattle.listing_fix.specs.Steps.{reads}
use Rattle.listing_fix.proofs.Told.{filter_rise, second}
use Rattle.listing_fix.proofs.changes.drop_unread.Goals as goal

pub returns-clause-rising : goal.returns-clause-rising
returns-clause-rising c = λ up. subst LinesRise (sym c.retain_read.ensures) (filter_rise (reads c.args.widths) c.args.cells.now.items up)

pub returns-clause-told : goal.returns-clause-told
returns-clause-told c = λ s width e. second c.args.widths s c.args.cells.now.items c.retain_read.new.cells.items width e c.retain_read.ensures

use Rattle.std.proofs.Common.{refl}
use Rattle.listing_fix.proofs.Chosen.{is_left, is_moved}
use Rattle.listing_fix.proofs.stayers.keep_if.Goals as goal

pub returns-then-stays : goal.returns-then-stays
returns-then-stays c = is_moved c.args.cells.now.items c.swap.new.self.items c.args.kept c.args.at c.args.stays _ c.requires.behind c.requires.within c.swap.ensures.by_index c.if-stays.true refl

pub returns : goal.returns
returns c = is_left c.args.cells.now.items c.args.cells.now.items c.args.kept c.args.at c.args.stays c.args.kept c.requires.behind refl c.if-stays.false refl

use Rattle.listing_fix.proofs.Fixed.{mended_ok}
use Rattle.listing_fix.proofs.fix.mend_ids.Goals as goal

pub give_names-requires : goal.give_names-requires
give_names-requires c = c.drop_unread.ensures.rising c.in_ok-cells.ensures.rising

pub returns-clause-told : goal.returns-clause-told
returns-clause-told c =
    mended_ok c.set_counters.result c.args.listed c.widths-widths.result c.in_ok-cells.cells.items c.drop_unread.new.cells.items c.in_ok-named.named.items c.widths-widths.ensures c.in_ok-cells.ensures.told c.drop_unread.ensures.told c.in_ok-named.ensures.told
    c.set_counters.ensures.told

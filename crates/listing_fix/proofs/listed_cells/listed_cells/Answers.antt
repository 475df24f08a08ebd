use Rattle.std.proofs.Common.{rules}
use Rattle.listing_fix.proofs.More.{listed_ok}
use Rattle.listing_fix.proofs.listed_cells.listed_cells.Goals as goal

pub returns-clause-told : goal.returns-clause-told
returns-clause-told c = listed_ok c.with_more.result c.args.listed c.into_lines.result.items c.in_ok-more.more.items (search rules) (search rules) c.with_more.ensures.lines

use Rattle.row_pages.proofs.PageSearches.{row_starts, gap_starts, absent_here}
use Rattle.row_pages.proofs.page_places.start_of.Goals as goal

pub returns-in-Ok-clause-start : goal.returns-in-Ok-clause-start
returns-in-Ok-clause-start c = row_starts c.args.row.now c.args.rows.now c.in-Ok.start c.requires c.in-Ok.ensures.found

pub returns-in-Ok-clause-gap : goal.returns-in-Ok-clause-gap
returns-in-Ok-clause-gap c = λ none. absent_here c.args.row.now c.args.rows.now c.requires c.in-Ok.start c.in-Ok.ensures.found none

pub returns-in-Err-clause-start : goal.returns-in-Err-clause-start
returns-in-Err-clause-start c = gap_starts c.args.row.now c.args.rows.now c.in-Err.start c.in-Err.ensures.absent

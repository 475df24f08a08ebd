use Rattle.row_pages.proofs.page_edits.put_between.Goals as goal

pub put_at-requires-2-clause-gap : goal.put_at-requires-2-clause-gap
put_at-requires-2-clause-gap c = c.in_ok-gap.ensures.gap c.args.row c.requires.gap

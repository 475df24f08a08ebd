use Rattle.import_job.proofs.GivenListings.{if_compact}
use Rattle.import_job.proofs.store_listing.compact_if.Goals as goal

pub returns-then-compact-clause-makes : goal.returns-then-compact-clause-makes
returns-then-compact-clause-makes g c = if_compact c.args.compact c.compact_rows.result (g.R.Rows.seen c.args.rows.now) (g.R.Rows.seen c.compact_rows.new.rows) c.if-compact.true c.compact_rows.ensures.compacts

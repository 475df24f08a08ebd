use Rattle.point_import.proofs.AskedPuts.{stops_told, text_told}
use Rattle.point_import.proofs.import_point.import_new.Goals as goal

pub returns-clause-puts : goal.returns-clause-puts
returns-clause-puts g c = text_told c.args.rule.now.patterns c.args.text.now (g.R.Rows.seen c.args.names.now.rows) c.in-Err.fault c.unread.result c.in-Err.ensures.gives c.unread.ensures

pub returns-clause-stops : goal.returns-clause-stops
returns-clause-stops g c = stops_told c.in-Err.fault c.unread.result (g.R.Rows.stops c.args.names.now.rows) c.unread.ensures

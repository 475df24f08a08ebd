use Rattle.listing_fix.proofs.CounterWrites.{counted_ok}
use Rattle.listing_fix.proofs.counters.count_to.Goals as goal

pub returns-clause-told : goal.returns-clause-told
returns-clause-told c = counted_ok c.write.result c.args.kind c.args.number c.args.cells.now.items c.write.new.cells.items c.in_ok-line.line c.if-number-eq0.false c.in_ok-line.ensures c.write.ensures

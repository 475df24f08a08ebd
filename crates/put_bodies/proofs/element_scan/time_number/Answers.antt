use Rattle.put_bodies.proofs.PartWords.{whole_as_time}
use Rattle.put_bodies.proofs.element_scan.time_number.Goals as goal

pub returns-in-Whole : goal.returns-in-Whole
returns-in-Whole c j of = whole_as_time c.args.kind c.args.text.now j c.in-Whole.is of

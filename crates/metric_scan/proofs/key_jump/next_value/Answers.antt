use Rattle.metric_scan.proofs.Jumps.{listed_next}
use Rattle.metric_scan.proofs.key_jump.next_value.Goals as goal

pub returns-in-OneOf : goal.returns-in-OneOf
returns-in-OneOf c = listed_next c.args.most c.args.test.now c.in-OneOf.ids c.args.value c.least_above.result c.in-OneOf.is c.requires c.least_above.ensures

use Rattle.compactor.proofs.QueueRows.{one_more}
use Rattle.compactor.proofs.known_keys.KnownKeys.keep.Goals as goal

pub returns : goal.returns
returns c = one_more c.args.self.now c.trim.new.self c.self.inside.list.items c.push.new.self.items c.args.key c.trim.ensures c.self.view_is c.in-Ok-push.ensures.items

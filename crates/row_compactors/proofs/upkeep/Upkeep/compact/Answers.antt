use Rattle.row_compactors.proofs.NothingNew.{drained_nothing}
use Rattle.row_compactors.proofs.upkeep.Upkeep.compact.Goals as goal

pub invariant_of-self : goal.invariant_of-self
invariant_of-self g c = record { nothing_new = drained_nothing _ _ _ _ _ _ _ c.drain.ensures.made c.args.self.now.nothing_new }

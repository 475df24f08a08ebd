use Rattle.std.proofs.Common.{List, subst}
use Rattle.std.specs.Prelude.{Contains}
use Rattle.cell_model.specs.declared.answers.Stored.{Stored}
use Rattle.compactor.specs.Queues.{stored_as}
use Rattle.compactor.proofs.QueueRows.{found_there}
use Rattle.compactor.proofs.queue.Queue.add.Goals as goal

pub returns-in-Some-clause-ok : goal.returns-in-Some-clause-ok
returns-in-Some-clause-ok c =
    let known : Contains c.self.inside.known (c.args.base, c.args.row.now.bytes) = c.in-Some.ensures in
    (subst (λ (l : List Stored). Contains l (stored_as c.args.row.now c.args.base)) c.self.view_is (found_there c.self.inside.rows.keys c.self.inside.known (stored_as c.args.row.now c.args.base) c.requires c.self.invariant.1 known), c.self.view_is)

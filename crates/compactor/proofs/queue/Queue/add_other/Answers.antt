use Rattle.std.proofs.Common.{◌∙◌, ℕ, List, ap, subst}
use Rattle.std.specs.Prelude.{Contains, IfOk}
use Rattle.cell_model.specs.declared.answers.Stored.{Stored}
use Rattle.compactor.specs.Queues.{AddMade, stored_as, stored_of}
use Rattle.compactor.proofs.QueueRows.{found_there, same_stored}
use Rattle.compactor.proofs.queue.Queue.add_other.Goals as goal

pub returns-in-Some-clause-ok : goal.returns-in-Some-clause-ok
returns-in-Some-clause-ok c =
    let known : Contains c.self.inside.known (c.args.base, c.args.row.now.bytes) = c.in-Some.ensures in
    (subst (λ (l : List Stored). Contains l (stored_as c.args.row.now c.args.base)) c.self.view_is (found_there c.self.inside.rows.keys c.self.inside.known (stored_as c.args.row.now c.args.base) c.requires c.self.invariant.1 known), c.self.view_is)

pub returns-clause-ok : goal.returns-clause-ok
returns-clause-ok c =
    subst (λ (s : Stored). IfOk c.insert.result (λ added. AddMade c.args.self.now s added c.insert.new.self))
    (ap (λ (bytes : List ℕ). stored_of (c.args.base, bytes)) c.in_ok-again.ensures.made ∙ same_stored (stored_as c.args.row.now c.args.base) c.requires) c.insert.ensures.ok

use Rattle.std.proofs.Common.{List, refl, subst}
use Rattle.std.specs.Prelude.{map}
use Rattle.cell_model.specs.declared.answers.Stored.{Stored}
use Rattle.compactor.specs.Queues.{AddMade, stored_of}
use Rattle.compactor.proofs.QueueRows.{are_queued, was_added, more_known, still_known}
use Rattle.compactor.proofs.queue.Queue.insert.Goals as goal

pub invariant_of-self : goal.invariant_of-self
invariant_of-self c = (are_queued c.insert.new.self c.in_err-added.ensures.ordered, still_known c.self.inside.rows c.insert.new.self c.self.inside.known c.in_err-added.ensures.err c.self.invariant.1)

pub invariant_of-self-2 : goal.invariant_of-self-2
invariant_of-self-2 c = (
  are_queued c.insert.new.self c.in_ok-added.ensures.ordered,
  more_known c.self.inside.rows c.insert.new.self c.self.inside.known c.keep.new.self c.args.key (c.args.key.0, c.in_ok-again.field-0) (λ i. (c.args.key.0, c.in_ok-again.ensures.made i)) c.in_ok-added.ensures.keys c.keep.ensures c.self.invariant.1,
)

pub returns-clause-ok : goal.returns-clause-ok
returns-clause-ok c =
    subst (λ (l : List Stored). AddMade l (stored_of c.args.key) c.in_ok-added.added (map stored_of c.insert.new.self.keys)) c.self.view_is
    (was_added c.self.inside.rows c.insert.new.self (stored_of c.args.key) c.in_ok-added.added refl c.in_ok-added.ensures.added c.in_ok-added.ensures.keys c.in_ok-added.ensures.unchanged)

pub returns-clause-rising : goal.returns-clause-rising
returns-clause-rising c = are_queued c.insert.new.self c.in_ok-added.ensures.ordered

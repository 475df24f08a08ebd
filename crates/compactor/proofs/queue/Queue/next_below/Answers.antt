use Rattle.compactor.proofs.QueueRows.{none_below, first_below, first_stays}
use Rattle.compactor.proofs.queue.Queue.next_below.Goals as goal

pub returns-then-base-before-clause-next : goal.returns-then-base-before-clause-next
returns-then-base-before-clause-next c = none_below c.self.inside.rows.keys c.in-Some.field-0.now c.args.self.now c.args.before c.self.invariant.0 c.self.view_is c.in-Some.ensures.first c.if-base-before.true

pub returns-clause-next : goal.returns-clause-next
returns-clause-next c = first_below c.self.inside.rows.keys c.in-Some.field-0.now c.args.self.now c.args.before c.in_ok-again.field-0 c.self.view_is c.in-Some.ensures.first c.if-base-before.false c.in_ok-again.ensures.made

pub returns-in_err-again-clause-err : goal.returns-in_err-again-clause-err
returns-in_err-again-clause-err c = first_stays c.from_residual.result c.self.inside.rows.keys c.in-Some.field-0.now c.args.self.now c.args.before c.self.view_is c.in-Some.ensures.first c.if-base-before.false

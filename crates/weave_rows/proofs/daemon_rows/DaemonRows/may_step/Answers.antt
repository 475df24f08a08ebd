use Rattle.std.proofs.Common.{◌≡◌, subst, rules}
use Rattle.std.specs.Prelude.{Some}
use Rattle.weave_rows.specs.DaemonPlays.{IsAtWork}
use Rattle.weave_rows.proofs.Working.{may_waits, working_draws}
use Rattle.weave_rows.proofs.daemon_rows.DaemonRows.may_step.Goals as goal

pub invariant_of-self : goal.invariant_of-self
invariant_of-self g c =
    let is : c.self.inside.inner ≡ Some (c.in-Some.loom, c.in-Some.next) = search rules in
    let e = c.draw_step-drawn.ensures in
    working_draws g.J.Beginning.history g.J.Beginning.caller g.N.NextDaemon.depth c.in-Some.loom c.draw_step-drawn.result.loom c.in-Some.next c.draw_step-drawn.result.next
    (subst (IsAtWork g.J.Beginning.history g.J.Beginning.caller g.N.NextDaemon.depth) is c.self.invariant) e.turn e.later

pub invariant_of-self-then-drawn : goal.invariant_of-self-then-drawn
invariant_of-self-then-drawn g c =
    let is : c.self.inside.inner ≡ Some (c.in-Some.loom, c.in-Some.next) = search rules in
    let e = c.draw_step-drawn.ensures in
    working_draws g.J.Beginning.history g.J.Beginning.caller g.N.NextDaemon.depth c.in-Some.loom c.draw_step-drawn.result.loom c.in-Some.next c.draw_step-drawn.result.next
    (subst (IsAtWork g.J.Beginning.history g.J.Beginning.caller g.N.NextDaemon.depth) is c.self.invariant) e.turn e.later

pub invariant_of-self-2 : goal.invariant_of-self-2
invariant_of-self-2 g c =
    let is : c.self.inside.inner ≡ Some (c.in-Some.loom, c.in-Some.next) = search rules in
    let e = c.draw_step-drawn.ensures in
    working_draws g.J.Beginning.history g.J.Beginning.caller g.N.NextDaemon.depth c.in-Some.loom c.draw_step-drawn.result.loom c.in-Some.next c.draw_step-drawn.result.next
    (subst (IsAtWork g.J.Beginning.history g.J.Beginning.caller g.N.NextDaemon.depth) is c.self.invariant) e.turn e.later

pub returns-then-not-has_room-clause-waited : goal.returns-then-not-has_room-clause-waited
returns-then-not-has_room-clause-waited g c =
    let is : c.self.inside.inner ≡ Some (c.in-Some.loom, c.in-Some.next) = search rules in
    let e = c.draw_step-drawn.ensures in
    may_waits c.args.self.now c.self.inside.inner c.self.inside.stops c.in-Some.loom c.draw_step-drawn.result.loom c.in-Some.next c.self.view_is is e.callers c.has_room-has_room.ensures.callers e.turn e.later

pub returns-then-drawn-clause-waited : goal.returns-then-drawn-clause-waited
returns-then-drawn-clause-waited g c =
    let is : c.self.inside.inner ≡ Some (c.in-Some.loom, c.in-Some.next) = search rules in
    let e = c.draw_step-drawn.ensures in
    may_waits c.args.self.now c.self.inside.inner c.self.inside.stops c.in-Some.loom c.draw_step-drawn.result.loom c.in-Some.next c.self.view_is is e.callers c.has_room-has_room.ensures.callers e.turn e.later

pub returns-clause-waited : goal.returns-clause-waited
returns-clause-waited g c =
    let is : c.self.inside.inner ≡ Some (c.in-Some.loom, c.in-Some.next) = search rules in
    let e = c.draw_step-drawn.ensures in
    may_waits c.args.self.now c.self.inside.inner c.self.inside.stops c.in-Some.loom c.draw_step-drawn.result.loom c.in-Some.next c.self.view_is is e.callers c.has_room-has_room.ensures.callers e.turn e.later

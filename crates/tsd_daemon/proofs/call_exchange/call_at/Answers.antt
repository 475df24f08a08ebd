use Rattle.std.proofs.Common.{◌∙◌, ℕ, List, ◌++◌, arith, subst, sym}
use Rattle.std.specs.Prelude.{None, Some}
use Rattle.point_put.specs.Admissions.{admission}
use Rattle.tsd_daemon.specs.declared.counts.Counted.TheVariants as counted
use Rattle.tsd_daemon.specs.declared.served.Served.TheVariants as answer
use Rattle.tsd_daemon.specs.ConnRequests.ConnRequest.{Http}
use Rattle.tsd_daemon.specs.Exchanges.{moment_for}
use Rattle.tsd_daemon.specs.Talks.{Gives, GivesLast, GivesSome}
use Rattle.tsd_daemon.proofs.Calls.{call_begun, call_replied, closes_with, stays_open}
use Rattle.tsd_daemon.proofs.Moving.{clock_begun, clock_last, clock_replied}
use Rattle.tsd_daemon.proofs.Pieces.{causes_on}
use Rattle.tsd_daemon.proofs.TalkLemmas.{memory_breaks, stop_breaks}
use Rattle.tsd_daemon.proofs.call_exchange.call_at.Goals as goal

pub returns-in-Err-OutOfMemory-clause-moves : goal.returns-in-Err-OutOfMemory-clause-moves
returns-in-Err-OutOfMemory-clause-moves g c = λ come come' next told told' given.
    clock_begun (admission c.args.config.now c.args.rule.now.patterns) (record { seen = g.R.Rows.seen c.args.names.now.rows; held = g.K.Sink.held c.args.sink.now; queue = c.args.queue.now; waiting = c.args.session.now.replies; counts = c.args.session.now.counts }) told told' (moment_for c.args.call.now c.args.now) (Http c.args.call.now) (g.R.Rows.seen c.answer.new.names.rows) c.answer.new.queue answer.OutOfMemory come come' given (call_begun (admission c.args.config.now c.args.rule.now.patterns) c.args.now c.args.call.now _ _ _ _ c.in-Err-OutOfMemory.ensures.err) c.requires memory_breaks next

pub returns-in-Err-Stopped-clause-moves : goal.returns-in-Err-Stopped-clause-moves
returns-in-Err-Stopped-clause-moves g c = λ come come' next told told' given.
    clock_begun (admission c.args.config.now c.args.rule.now.patterns) (record { seen = g.R.Rows.seen c.args.names.now.rows; held = g.K.Sink.held c.args.sink.now; queue = c.args.queue.now; waiting = c.args.session.now.replies; counts = c.args.session.now.counts }) told told' (moment_for c.args.call.now c.args.now) (Http c.args.call.now) (g.R.Rows.seen c.answer.new.names.rows) c.answer.new.queue answer.Stopped come come' given (call_begun (admission c.args.config.now c.args.rule.now.patterns) c.args.now c.args.call.now _ _ _ _ c.in-Err-Stopped.ensures.err) c.requires stop_breaks next

pub returns-then-closing-clause-moves : goal.returns-then-closing-clause-moves
returns-then-closing-clause-moves g c = λ come come' next told told' given.
    let held = g.K.Sink.held in
    let gave = subst (λ (xs : List ℕ). GivesLast (held c.args.sink.now) (held c.tell_last.new.sink) (c.args.session.now.replies ++ xs) answer.Closed c.tell_last.result) c.as_slice.ensures.value c.tell_last.ensures.gives in
    clock_last (admission c.args.config.now c.args.rule.now.patterns) (record { seen = g.R.Rows.seen c.args.names.now.rows; held = g.K.Sink.held c.args.sink.now; queue = c.args.queue.now; waiting = c.args.session.now.replies; counts = c.args.session.now.counts }) told told' (moment_for c.args.call.now c.args.now) (Http c.args.call.now) (g.R.Rows.seen c.answer.new.names.rows) (held c.tell_last.new.sink) c.answer.new.queue c.tell_last.new.replies c.args.session.now.counts
    c.in-Ok.reply.items counted.Other answer.Closed c.tell_last.result come come' given (call_replied (admission c.args.config.now c.args.rule.now.patterns) c.args.session.now.counts c.args.now c.args.call.now _ _ _ _ c.in-Ok.reply.items c.in-Ok.ensures.ok) gave (closes_with c.args.call.now (sym c.closing.ensures ∙ c.if-closing.true)) next

pub returns-then-closing-clause-causes : goal.returns-then-closing-clause-causes
returns-then-closing-clause-causes g c =
    let faults = g.K.Sink.faults in
    let stops = g.R.Rows.stops in
    causes_on (faults c.args.sink.now) (faults c.args.sink.now) (faults c.tell_last.new.sink) (stops c.args.names.now.rows) (stops c.answer.new.names.rows) (stops c.answer.new.names.rows) (Some c.tell_last.result)
    (record { later = omega arith; grows = c.in-Ok.ensures.stops.grows; cause = tt }) (c.tell_last.ensures.causes (stops c.answer.new.names.rows))

pub returns-in-Ok-tell-clause-moves : goal.returns-in-Ok-tell-clause-moves
returns-in-Ok-tell-clause-moves g c = λ come come' next told told' given.
    let held = g.K.Sink.held in
    let gave = subst (λ (xs : List ℕ). Gives (held c.args.sink.now) (held c.tell.new.sink) (c.args.session.now.replies ++ xs) c.tell.new.self.replies) c.as_slice-2.ensures.value c.in-Ok-tell.ensures.ok in
    clock_replied (admission c.args.config.now c.args.rule.now.patterns) (record { seen = g.R.Rows.seen c.args.names.now.rows; held = g.K.Sink.held c.args.sink.now; queue = c.args.queue.now; waiting = c.args.session.now.replies; counts = c.args.session.now.counts }) told told' (moment_for c.args.call.now c.args.now) (Http c.args.call.now) (g.R.Rows.seen c.answer.new.names.rows) (held c.tell.new.sink) c.answer.new.queue c.tell.new.self.replies c.tell.new.self.counts
    c.in-Ok.reply.items counted.Other None come come' given (call_replied (admission c.args.config.now c.args.rule.now.patterns) c.args.session.now.counts c.args.now c.args.call.now _ _ _ _ c.in-Ok.reply.items c.in-Ok.ensures.ok) gave c.tell.ensures.counts (stays_open c.args.call.now (sym c.closing.ensures ∙ c.if-closing.false)) next

pub returns-clause-moves : goal.returns-clause-moves
returns-clause-moves g c = λ come come' next told told' given.
    let held = g.K.Sink.held in
    let gave = subst (λ (xs : List ℕ). GivesSome (held c.args.sink.now) (held c.tell.new.sink) (c.args.session.now.replies ++ xs)) c.as_slice-2.ensures.value c.in-Err.ensures.err in
    clock_replied (admission c.args.config.now c.args.rule.now.patterns) (record { seen = g.R.Rows.seen c.args.names.now.rows; held = g.K.Sink.held c.args.sink.now; queue = c.args.queue.now; waiting = c.args.session.now.replies; counts = c.args.session.now.counts }) told told' (moment_for c.args.call.now c.args.now) (Http c.args.call.now) (g.R.Rows.seen c.answer.new.names.rows) (held c.tell.new.sink) c.answer.new.queue c.tell.new.self.replies c.tell.new.self.counts
    c.in-Ok.reply.items counted.Other (Some answer.WriteFault) come come' given (call_replied (admission c.args.config.now c.args.rule.now.patterns) c.args.session.now.counts c.args.now c.args.call.now _ _ _ _ c.in-Ok.reply.items c.in-Ok.ensures.ok) gave c.tell.ensures.counts (stays_open c.args.call.now (sym c.closing.ensures ∙ c.if-closing.false)) next

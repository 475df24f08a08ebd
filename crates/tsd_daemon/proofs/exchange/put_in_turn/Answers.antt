use Rattle.std.proofs.Common.{ℕ, List, ◌++◌, refl, subst}
use Rattle.std.specs.Prelude.{None, Some}
use Rattle.point_put.specs.Admissions.{admission}
use Rattle.tsd_daemon.specs.declared.served.Served.TheVariants as answer
use Rattle.tsd_daemon.specs.PutAnswers.{put_of}
use Rattle.tsd_daemon.specs.Talks.{Gives, GivesSome}
use Rattle.tsd_daemon.proofs.Moving.{request_begun, request_replied}
use Rattle.tsd_daemon.proofs.TalkLemmas.{memory_breaks, stop_breaks}
use Rattle.tsd_daemon.proofs.exchange.put_in_turn.Goals as goal

pub returns-in-Err-OutOfMemory-clause-moves : goal.returns-in-Err-OutOfMemory-clause-moves
returns-in-Err-OutOfMemory-clause-moves g c = λ come come' next.
    request_begun (admission c.args.config.now c.args.rule.now.patterns) (record { seen = g.R.Rows.seen c.args.names.now.rows; held = g.K.Sink.held c.args.sink.now; queue = c.args.queue.now; waiting = c.args.session.now.replies; counts = c.args.session.now.counts }) (put_of c.args.text.now) (g.R.Rows.seen c.answer_put.new.names.rows) c.answer_put.new.queue answer.OutOfMemory come come' c.in-Err-OutOfMemory.ensures.err c.requires memory_breaks next

pub returns-in-Err-Stopped-clause-moves : goal.returns-in-Err-Stopped-clause-moves
returns-in-Err-Stopped-clause-moves g c = λ come come' next.
    request_begun (admission c.args.config.now c.args.rule.now.patterns) (record { seen = g.R.Rows.seen c.args.names.now.rows; held = g.K.Sink.held c.args.sink.now; queue = c.args.queue.now; waiting = c.args.session.now.replies; counts = c.args.session.now.counts }) (put_of c.args.text.now) (g.R.Rows.seen c.answer_put.new.names.rows) c.answer_put.new.queue answer.Stopped come come' c.in-Err-Stopped.ensures.err c.requires stop_breaks next

pub returns-in-Ok-tell-clause-moves : goal.returns-in-Ok-tell-clause-moves
returns-in-Ok-tell-clause-moves g c = λ come come' next.
    let held = g.K.Sink.held in
    let gave = subst (λ (xs : List ℕ). Gives (held c.args.sink.now) (held c.tell.new.sink) (c.args.session.now.replies ++ xs) c.tell.new.self.replies) c.as_slice.ensures.value c.in-Ok-tell.ensures.ok in
    request_replied (admission c.args.config.now c.args.rule.now.patterns) (record { seen = g.R.Rows.seen c.args.names.now.rows; held = g.K.Sink.held c.args.sink.now; queue = c.args.queue.now; waiting = c.args.session.now.replies; counts = c.args.session.now.counts }) (put_of c.args.text.now) (g.R.Rows.seen c.answer_put.new.names.rows) (held c.tell.new.sink) c.answer_put.new.queue c.tell.new.self.replies c.tell.new.self.counts
    c.in-Ok.answer.reply.items c.in-Ok.answer.counted None come come' (c.in-Ok.ensures.ok c.args.session.now.counts) gave c.tell.ensures.counts refl next

pub returns-clause-moves : goal.returns-clause-moves
returns-clause-moves g c = λ come come' next.
    let held = g.K.Sink.held in
    let gave = subst (λ (xs : List ℕ). GivesSome (held c.args.sink.now) (held c.tell.new.sink) (c.args.session.now.replies ++ xs)) c.as_slice.ensures.value c.in-Err.ensures.err in
    request_replied (admission c.args.config.now c.args.rule.now.patterns) (record { seen = g.R.Rows.seen c.args.names.now.rows; held = g.K.Sink.held c.args.sink.now; queue = c.args.queue.now; waiting = c.args.session.now.replies; counts = c.args.session.now.counts }) (put_of c.args.text.now) (g.R.Rows.seen c.answer_put.new.names.rows) (held c.tell.new.sink) c.answer_put.new.queue c.tell.new.self.replies c.tell.new.self.counts
    c.in-Ok.answer.reply.items c.in-Ok.answer.counted (Some answer.WriteFault) come come' (c.in-Ok.ensures.ok c.args.session.now.counts) gave c.tell.ensures.counts refl next

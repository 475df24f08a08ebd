use Rattle.std.proofs.Common.{ℕ, List, [], ◌++◌, subst, sym}
use Rattle.tsd_daemon.specs.Talks.{Gives}
use Rattle.tsd_daemon.proofs.Giving.{at_err, gave_all, gave_front, on_err, on_ok, some_with, then_gave, then_some}
use Rattle.tsd_daemon.proofs.reply_buffer.ReplyBuffer.give_with.Goals as goal

pub returns-in_err-give-clause-err : goal.returns-in_err-give-clause-err
returns-in_err-give-clause-err g c = at_err c.from_residual.result (some_with _ _ c.args.self.now c.args.reply.now c.in_err-give.ensures.err)

pub returns-clause-ok : goal.returns-clause-ok
returns-clause-ok g c =
    let held = g.K.Sink.held in
    on_ok c.give_all.result (λ gave. subst (λ (rest : List ℕ). Gives (held c.args.sink.now) (held c.give_all.new.sink) (c.args.self.now ++ c.args.reply.now) rest) (sym c.in_ok-give.ensures.none)
    (then_gave (held c.args.sink.now) (held c.give.new.sink) (held c.give_all.new.sink) c.args.self.now c.args.reply.now [] c.in_ok-give.ensures.ok (gave_all (held c.give.new.sink) (held c.give_all.new.sink) c.args.reply.now gave))) c.give_all.ensures.ok

pub returns-clause-err : goal.returns-clause-err
returns-clause-err g c =
    let held = g.K.Sink.held in
    on_err c.give_all.result (λ gave. then_some (held c.args.sink.now) (held c.give.new.sink) (held c.give_all.new.sink) c.args.self.now c.args.reply.now c.in_ok-give.ensures.ok
    (gave_front (held c.give.new.sink) (held c.give_all.new.sink) c.args.reply.now gave)) c.give_all.ensures.err

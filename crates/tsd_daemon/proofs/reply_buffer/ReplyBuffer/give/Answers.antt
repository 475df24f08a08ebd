use Rattle.std.proofs.Common.{ℕ, List, subst, ◌∙◌}
use Rattle.tsd_daemon.specs.Talks.{GivesSome}
use Rattle.tsd_daemon.proofs.Giving.{at_err, gave_front}
use Rattle.tsd_daemon.proofs.reply_buffer.ReplyBuffer.give.Goals as goal

pub returns-in_err-give_all-clause-err : goal.returns-in_err-give_all-clause-err
returns-in_err-give_all-clause-err g c =
    let some = gave_front (g.K.Sink.held c.args.sink.now) (g.K.Sink.held c.give_all.new.sink) c.as_slice.result.now c.in_err-give_all.ensures.err in
    at_err c.from_residual.result (subst (λ (xs : List ℕ). GivesSome (g.K.Sink.held c.args.sink.now) (g.K.Sink.held c.give_all.new.sink) xs) (c.as_slice.ensures.value ∙ c.self.view_is) some)

use Rattle.std.proofs.Common.{subst}
use Rattle.listing_dump.specs.Gifts.{GivesSome}
use Rattle.listing_dump.proofs.Giving.{at_err, gave_front}
use Rattle.listing_dump.proofs.row_output.give_waiting.Goals as goal

pub returns-in_err-give_all-clause-err : goal.returns-in_err-give_all-clause-err
returns-in_err-give_all-clause-err g c =
    at_err c.from_residual.result
    (subst (GivesSome (g.K.Sink.held c.args.output.now) (g.K.Sink.held c.give_all.new.sink)) c.as_slice.ensures.value
    (gave_front (g.K.Sink.held c.args.output.now) (g.K.Sink.held c.give_all.new.sink) c.as_slice.result.now c.in_err-give_all.ensures.err))

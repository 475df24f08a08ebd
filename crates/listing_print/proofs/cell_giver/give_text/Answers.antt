use Rattle.listing_print.proofs.GivenCells.{is_taken}
use Rattle.listing_print.proofs.cell_giver.give_text.Goals as goal

pub returns-in-Err-clause-err : goal.returns-in-Err-clause-err
returns-in-Err-clause-err g c = is_taken (g.K.Sink.held c.args.sink.now) (g.K.Sink.held c.give_all.new.sink) c.args.text.now c.in-Err.ensures.err.0 c.in-Err.ensures.err.2

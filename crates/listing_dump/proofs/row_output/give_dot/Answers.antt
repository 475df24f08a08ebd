use Rattle.std.proofs.Common.{◌++◌}
use Rattle.listing_dump.specs.RowPoints.{dot_text}
use Rattle.listing_dump.proofs.Giving.{at_err, gave_none}
use Rattle.listing_dump.proofs.row_output.give_dot.Goals as goal

pub returns-in_err-push_dot-clause-err : goal.returns-in_err-push_dot-clause-err
returns-in_err-push_dot-clause-err g c =
    let all = c.args.waiting.now.items ++ dot_text c.args.metric.now c.args.base c.args.tail.now c.args.dot.now in
    at_err c.from_residual.result (all, gave_none (g.K.Sink.held c.args.output.now) all)

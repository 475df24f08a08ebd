use Rattle.std.proofs.Common.{◌++◌, arith}
use Rattle.listing_dump.specs.RowPoints.{row_text}
use Rattle.listing_dump.proofs.Giving.{at_err}
use Rattle.listing_dump.proofs.Turns.{dots_done, dots_more, dots_some}
use Rattle.listing_dump.proofs.row_output.give_row.Goals as goal

pub loop-dot-preserved : goal.loop-dot-preserved
loop-dot-preserved g c =
    let held = g.K.Sink.held in
    record {
      gave = dots_more c.args.metric.now c.args.base c.args.tail.now c.args.dots.now c.loop-dot.dot-index _ (held c.args.output.now) (held c.loop-dot.output) (held c.give_dot.new.output)
          (c.args.waiting.now.items ++ row_text c.args.metric.now c.args.base c.args.tail.now c.args.dots.now) c.loop-dot.waiting.items c.give_dot.new.waiting.items c.loop-dot-test.true c.loop-dot.invariant.gave c.in_ok-give_dot.ensures.ok;
      later = let a = c.loop-dot.invariant.later in let b = c.give_dot.ensures.caused.later in omega (arith, a, b);
    }

pub returns-in_err-give_dot-clause-err : goal.returns-in_err-give_dot-clause-err
returns-in_err-give_dot-clause-err g c =
    let held = g.K.Sink.held in
    at_err c.from_residual.result
    (dots_some c.args.metric.now c.args.base c.args.tail.now c.args.dots.now c.loop-dot.dot-index _ (held c.args.output.now) (held c.loop-dot.output) (held c.give_dot.new.output)
    (c.args.waiting.now.items ++ row_text c.args.metric.now c.args.base c.args.tail.now c.args.dots.now) c.loop-dot.waiting.items c.loop-dot-test.true c.loop-dot.invariant.gave c.in_err-give_dot.ensures.err)

pub returns-clause-ok : goal.returns-clause-ok
returns-clause-ok g c =
    let held = g.K.Sink.held in
    dots_done c.args.metric.now c.args.base c.args.tail.now c.args.dots.now c.loop-dot.dot-index (held c.args.output.now) (held c.loop-dot.output)
    (c.args.waiting.now.items ++ row_text c.args.metric.now c.args.base c.args.tail.now c.args.dots.now) c.loop-dot.waiting.items c.loop-dot-test.false c.loop-dot.invariant.gave

use Rattle.std.proofs.Common.{arith}
use Rattle.metric_scan.specs.declared.fault.AskFault.TheVariants.{OutOfMemory}
use Rattle.query_run.specs.Collection.{TakesRow}
use Rattle.metric_scan.proofs.NameReads.{passed_on}
use Rattle.query_run.proofs.RowsTaken.{dots_failed, row_taken, may_add}
use Rattle.query_run.proofs.collection.take_row.Goals as goal

pub row_dots-requires-clause-from_on : goal.row_dots-requires-clause-from_on
row_dots-requires-clause-from_on c = let low = c.requires.from_on in omega (arith, low)

pub row_dots-requires-clause-up_to : goal.row_dots-requires-clause-up_to
row_dots-requires-clause-up_to c = let high = c.requires.up_to in omega (arith, high)

pub returns-in_err-dots : goal.returns-in_err-dots
returns-in_err-dots c = λ series keeps behind.
    passed_on (λ r. TakesRow c.args.how c.args.key.now c.args.cells.now c.args.start c.args.end series r c.args.spans.now) c.in_err-dots.field-0.0 c.from_residual.result c.from_residual.ensures.1
    (dots_failed c.args.how c.args.key.now c.args.cells.now c.args.start c.args.end series c.args.spans.now c.in_err-dots.field-0.0 c.in_err-dots.ensures)

pub add_dots-requires : goal.add_dots-requires
add_dots-requires c =
    let m = c.requires.behind in
    record {
      later = record { spans = m.spans; keeps = m.keeps; above = may_add c.args.key.now c.args.cells.now c.args.start c.args.end c.as_slice.result.now m.spans c.in_ok-dots.dots m.behind c.as_slice.ensures.value c.in_ok-dots.ensures };
    }

pub returns-in_err-add_dots : goal.returns-in_err-add_dots
returns-in_err-add_dots c = λ series keeps behind.
    passed_on (λ r. TakesRow c.args.how c.args.key.now c.args.cells.now c.args.start c.args.end series r c.add_dots.new.spans) OutOfMemory c.from_residual-in_err-add_dots.result c.from_residual-in_err-add_dots.ensures.1 tt

pub returns : goal.returns
returns c = λ series keeps behind.
    let above = may_add c.args.key.now c.args.cells.now c.args.start c.args.end c.as_slice.result.now series c.in_ok-dots.dots behind c.as_slice.ensures.value c.in_ok-dots.ensures in
    row_taken c.args.how c.args.key.now c.args.cells.now c.args.start c.args.end c.as_slice.result.now c.in_ok-dots.dots series c.add_dots.new.spans c.as_slice.ensures.value c.in_ok-dots.ensures (c.in_ok-add_dots.ensures series keeps above)

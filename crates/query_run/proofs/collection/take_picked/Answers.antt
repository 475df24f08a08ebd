use Rattle.std.proofs.Common.{sym, ap, ◌∙◌, length, rules}
use Rattle.metric_scan.specs.declared.fault.AskFault.TheVariants.{OutOfMemory}
use Rattle.query_run.specs.Collection.{TakesPicked}
use Rattle.metric_scan.proofs.NameReads.{passed_on}
use Rattle.query_run.proofs.PickedRows.{values_lent, picked_left, picked_took}
use Rattle.query_run.proofs.collection.take_picked.Goals as goal

pub suits-requires-clause-as_many : goal.suits-requires-clause-as_many
suits-requires-clause-as_many c = c.requires.as_many ∙ sym (ap length c.filters.ensures)

pub suits-requires-clause-named : goal.suits-requires-clause-named
suits-requires-clause-named c = values_lent c.args.rows.now c.names.result.now c.args.key.pairs.items c.as_slice.result.now c.names.ensures c.as_slice.ensures.value c.requires.named

pub returns-in_err-suits : goal.returns-in_err-suits
returns-in_err-suits c =
    passed_on (λ r. TakesPicked c.args.rows.now c.args.judges.now.items c.args.how c.args.key c.args.found.cells c.args.start c.args.end r c.suits.new.judges.items c.args.spans.now c.args.spans.now) OutOfMemory c.from_residual.result c.from_residual.ensures.1 tt

pub returns-then-not-branch : goal.returns-then-not-branch
returns-then-not-branch c =
    picked_left c.args.rows.now c.args.judges.now.items c.suits.new.judges.items c.args.how c.args.key c.args.found.cells c.args.start c.args.end c.names.result.now c.filters.result.now c.as_slice.result.now c.in_ok-suits.field-0 c.names.ensures c.filters.ensures c.as_slice.ensures.value c.in_ok-suits.ensures
    (search rules) c.args.spans.now

pub returns : goal.returns
returns c =
    picked_took c.args.rows.now c.args.judges.now.items c.suits.new.judges.items c.args.how c.args.key c.args.found.cells c.args.start c.args.end c.names.result.now c.filters.result.now c.as_slice.result.now c.in_ok-suits.field-0 c.names.ensures c.filters.ensures c.as_slice.ensures.value c.in_ok-suits.ensures
    (search rules) c.take_row.result c.args.spans.now c.take_row.new.spans c.take_row.ensures

use Rattle.std.proofs.Common.{◌≡◌, ℕ, List, ap, ◌∙◌, arith}
use Rattle.std.specs.FinMap.{len}
use Rattle.packed_cells.specs.Keyed.{without}
use Rattle.map_body.specs.TableRows.{left}
use Rattle.map_body.proofs.CellLemmas.{gone_and_left, drop_starts, drop_goes_on, drop_ends}
use Rattle.map_body.proofs.table_rows.drop_from.Goals as goal

pub loop-qual-init : goal.loop-qual-init
loop-qual-init c = record { going = drop_starts c.args.cells.now c.args.which.now; before = c.len-before.ensures }

pub loop-qual-preserved : goal.loop-qual-preserved
loop-qual-preserved c = record {
  going = drop_goes_on c.args.cells.now c.loop-qual.cells c.remove.new.self c.args.which.now c.loop-qual.qual-index c.loop-qual-item.result c.loop-qual.invariant.going c.loop-qual-test.true c.loop-qual-item.is
      (c.remove.ensures.rest ∙ ap (λ (q : List ℕ). without c.loop-qual.cells q c.loop-qual-item.result.1) c.list.ensures);
  before = c.loop-qual.invariant.before;
}

pub overflow_sub-result : goal.overflow_sub-result
overflow_sub-result c =
    let end = drop_ends c.args.cells.now c.loop-qual.cells c.args.which.now c.loop-qual.qual-index c.loop-qual.invariant.going c.loop-qual-test.false in
    let all = gone_and_left c.args.cells.now c.args.which.now in
    let rest : len c.loop-qual.cells ≡ len (left c.args.cells.now c.args.which.now) = ap len end in
    omega (arith, all, rest, c.len.ensures, c.loop-qual.invariant.before)

pub returns-clause-count : goal.returns-clause-count
returns-clause-count c =
    let end = drop_ends c.args.cells.now c.loop-qual.cells c.args.which.now c.loop-qual.qual-index c.loop-qual.invariant.going c.loop-qual-test.false in
    let all = gone_and_left c.args.cells.now c.args.which.now in
    let rest : len c.loop-qual.cells ≡ len (left c.args.cells.now c.args.which.now) = ap len end in
    omega (arith, all, rest, c.len.ensures, c.loop-qual.invariant.before)

pub returns-clause-rest : goal.returns-clause-rest
returns-clause-rest c = drop_ends c.args.cells.now c.loop-qual.cells c.args.which.now c.loop-qual.qual-index c.loop-qual.invariant.going c.loop-qual-test.false

pub returns-clause-fewer : goal.returns-clause-fewer
returns-clause-fewer c =
    let end = drop_ends c.args.cells.now c.loop-qual.cells c.args.which.now c.loop-qual.qual-index c.loop-qual.invariant.going c.loop-qual-test.false in
    let all = gone_and_left c.args.cells.now c.args.which.now in
    let rest : len c.loop-qual.cells ≡ len (left c.args.cells.now c.args.which.now) = ap len end in
    omega (arith, all, rest, c.len.ensures, c.loop-qual.invariant.before)

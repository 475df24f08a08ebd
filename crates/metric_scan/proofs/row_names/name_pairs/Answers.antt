use Rattle.std.proofs.Common.{arith}
use Rattle.metric_scan.specs.RowNames.{NamesAsked, ids_of, known}
use Rattle.metric_scan.proofs.NameReads.{passed_on, read_nothing, pairs_known, pairs_cut, pairs_more, pairs_all}
use Rattle.metric_scan.proofs.row_names.name_pairs.Goals as goal

pub name_pair-requires-clause-knows : goal.name_pair-requires-clause-knows
name_pair-requires-clause-knows g c = pairs_known _ _ _ _ _ c.args.pairs.now c.loop-pair.pair-index c.loop-pair.invariant.read c.loop-pair-test.true c.requires.knows

pub returns-in_err-name_pair-clause-asked : goal.returns-in_err-name_pair-clause-asked
returns-in_err-name_pair-clause-asked g c =
    passed_on (λ r. NamesAsked (g.R.Rows.seen c.args.names.now.rows) (known c.args.list.now) (ids_of c.args.pairs.now) r (known c.name_pair.new.list) (g.R.Rows.seen c.name_pair.new.names.rows)) c.in_err-name_pair.field-0.0 c.from_residual.result c.from_residual.ensures.1
    (pairs_cut _ _ _ _ _ c.args.pairs.now c.loop-pair.pair-index c.loop-pair-test.true c.loop-pair.invariant.read c.in_err-name_pair.ensures.asked)

pub loop-pair-init : goal.loop-pair-init
loop-pair-init g c = record { read = read_nothing _ _; possible = c.requires.possible; grows = omega arith }

pub loop-pair-preserved : goal.loop-pair-preserved
loop-pair-preserved g c = record {
  read = pairs_more _ _ _ _ _ _ c.args.pairs.now c.loop-pair.pair-index c.loop-pair-test.true c.loop-pair.invariant.read c.in_ok-name_pair.ensures.asked;
  possible = c.in_ok-name_pair.ensures.leaves.possible;
  grows = let a = c.loop-pair.invariant.grows in let b = c.in_ok-name_pair.ensures.leaves.grows in omega (arith, a, b);
}

pub returns-clause-asked : goal.returns-clause-asked
returns-clause-asked g c = pairs_all _ _ _ _ c.args.pairs.now c.loop-pair.pair-index c.loop-pair-test.false c.loop-pair.invariant.read

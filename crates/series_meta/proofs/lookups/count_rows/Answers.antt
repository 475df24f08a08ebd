use Rattle.std.proofs.Common.{Ok, rules, sym, subst, arith}
use Rattle.metric_scan.specs.declared.row_turn.RowTurn.{RowTurn}
use Rattle.metric_scan.specs.declared.fault.AskFault.TheVariants.{OutOfMemory}
use Rattle.metric_scan.specs.AskFaults.{ask_fault}
use Rattle.metric_scan.specs.Walks.{names_of, picks_of}
use Rattle.metric_scan.specs.RowTurns.{TurnSays}
use Rattle.query_run.proofs.WalkLemmas.{passed_on}
use Rattle.series_meta.specs.SeriesTimes.{CountSays}
use Rattle.series_meta.specs.declared.series_counts.SeriesCounts.{SeriesCounts}
use Rattle.series_meta.proofs.CountLoop.{Counting, counting_begins, counting_under_way, counted_all, counted_past, count_cut, count_given_up, picked, counted_more, count_lost}
use Rattle.series_meta.proofs.lookups.count_rows.Goals as goal
use Rattle.series_meta.proofs.lookups.count_rows.Goals.{in-Passed, in-Picked+in_ok-count_row-in-Picked}

pub loop-init : goal.loop-init
loop-init g c = record { counting = λ r walked. counting_begins r c.args.rows.now _ _ walked (λ q. search rules); possible = c.requires.possible; grows = omega arith }

pub turn-requires-clause-under_way : goal.turn-requires-clause-under_way
turn-requires-clause-under_way g c = counting_under_way _ _ _ _ _ (c.loop.invariant.counting c.requires.begun.0 c.requires.begun.1)

pub returns-in_err-turn-clause-says : goal.returns-in_err-turn-clause-says
returns-in_err-turn-clause-says g c = λ r walked.
    passed_on (λ o. CountSays r (picks_of c.args.rows.now) o (names_of c.turn.new.self) (g.R.Rows.seen c.turn.new.names.rows)) (ask_fault c.in_err-turn.field-0.0) c.from_residual.result c.from_residual.ensures.1
    (count_cut _ _ _ _ _ (c.loop.invariant.counting r walked) c.in_err-turn.field-0.0 c.turn.new.self _ c.in_err-turn.ensures.says)

pub returns-in-End-clause-says : goal.returns-in-End-clause-says
returns-in-End-clause-says g c = λ r walked.
    let says = subst (λ (t : RowTurn). TurnSays c.loop.rows (g.R.Rows.seen c.loop.names.rows) (Ok t) c.turn.new.self (g.R.Rows.seen c.turn.new.names.rows)) c.in-End.is c.in_ok-turn.ensures.says in
    counted_all _ _ _ _ _ (c.loop.invariant.counting r walked) c.turn.new.self _ says

pub count_row-requires : goal.count_row-requires
count_row-requires g c =
    let says = subst (λ (t : RowTurn). TurnSays c.loop.rows (g.R.Rows.seen c.loop.names.rows) (Ok t) c.turn.new.self (g.R.Rows.seen c.turn.new.names.rows)) c.in-Picked.is c.in_ok-turn.ensures.says in
    (picked _ _ _ _ _ (c.loop.invariant.counting c.requires.begun.0 c.requires.begun.1) c.in-Picked.key c.in-Picked.found c.turn.new.self _ says).cells_read

pub returns-in_err-count_row-in-Picked-clause-says : goal.returns-in_err-count_row-in-Picked-clause-says
returns-in_err-count_row-in-Picked-clause-says g c = λ r walked.
    let says = subst (λ (t : RowTurn). TurnSays c.loop.rows (g.R.Rows.seen c.loop.names.rows) (Ok t) c.turn.new.self (g.R.Rows.seen c.turn.new.names.rows)) c.in-Picked.is c.in_ok-turn.ensures.says in
    passed_on (λ o. CountSays r (picks_of c.args.rows.now) o (names_of c.turn.new.self) (g.R.Rows.seen c.turn.new.names.rows)) OutOfMemory c.from_residual-in_err-count_row-in-Picked.result c.from_residual-in_err-count_row-in-Picked.ensures.1
    (count_lost _ _ _ _ _ (c.loop.invariant.counting r walked) c.in-Picked.key c.in-Picked.found c.turn.new.self _ says)

pub returns-clause-says : goal.returns-clause-says
returns-clause-says g c = λ r walked. count_given_up _ _ _ _ _ (c.loop.invariant.counting r walked)

pub loop-preserved : goal.loop-preserved
loop-preserved g c =
    let a = c.loop.invariant.grows in
    let b = c.in_ok-turn.ensures.leaves.grows in
    record {
      counting = λ r walked.
          let so = c.loop.invariant.counting r walked in
          elim c.match-branch-2.branch [
            | in-Passed w ↦
                let says = subst (λ (t : RowTurn). TurnSays c.loop.rows (g.R.Rows.seen c.loop.names.rows) (Ok t) c.turn.new.self (g.R.Rows.seen c.turn.new.names.rows)) w.in-Passed.is c.in_ok-turn.ensures.says in
                subst (λ (s : SeriesCounts). Counting r (picks_of c.args.rows.now) c.turn.new.self s (g.R.Rows.seen c.turn.new.names.rows)) (sym w.series-is) (counted_past _ _ _ _ _ so c.turn.new.self _ says)
            | in-Picked+in_ok-count_row-in-Picked w ↦
                let says = subst (λ (t : RowTurn). TurnSays c.loop.rows (g.R.Rows.seen c.loop.names.rows) (Ok t) c.turn.new.self (g.R.Rows.seen c.turn.new.names.rows)) w.in-Picked.is c.in_ok-turn.ensures.says in
                subst (λ (s : SeriesCounts). Counting r (picks_of c.args.rows.now) c.turn.new.self s (g.R.Rows.seen c.turn.new.names.rows)) (sym w.series-is)
                (counted_more _ _ _ _ _ so w.in-Picked.key w.in-Picked.found c.turn.new.self _ says w.count_row.new.series w.in_ok-count_row-in-Picked.ensures)
          ];
      possible = c.in_ok-turn.ensures.leaves.possible;
      grows = omega (arith, a, b);
    }

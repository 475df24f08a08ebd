use Rattle.std.proofs.Common.{◌≡◌, List, Vec, Global, Ok, length, sym, subst, ◌∙◌, arith}
use Rattle.std.proofs.lemmas.List.{length-map}
use Rattle.cell_model.specs.Calls.{Leaves}
use Rattle.span_merge.specs.Spans.{KeptSpan}
use Rattle.metric_scan.specs.declared.row_turn.RowTurn.{RowTurn}
use Rattle.query_run.specs.declared.value_judges.ValueJudge.{ValueJudge}
use Rattle.metric_scan.specs.AskFaults.{ask_fault, is_stop}
use Rattle.query_run.specs.ValueJudges.{filters_of}
use Rattle.metric_scan.specs.Walks.{row_range}
use Rattle.metric_scan.specs.RowTurns.{TurnSays}
use Rattle.query_run.specs.Collection.{LeftSays}
use Rattle.metric_scan.proofs.NameReads.{passed_on}
use Rattle.query_run.proofs.CollectLoop.{Collecting, Judging, collect_begins, collect_under_way, collected_all, collected_past, collect_cut, collect_given_up, picked_can, picked_next, picked_judging, picked_refused, no_stop_taken, judging_begins, judging_past}
use Rattle.query_run.proofs.collection.collect_left.Goals as goal
use Rattle.query_run.proofs.collection.collect_left.Goals.{in-Passed, in-Picked+in_ok-take_picked-in-Picked}

pub loop-init : goal.loop-init
loop-init g c = record {
  collecting = λ id walked. collect_begins (row_range id c.args.start c.args.end (g.R.Rows.seen c.args.names.now.rows)) (filters_of c.args.judges.now.items) c.args.how c.args.rows.now _ c.requires.none walked;
  judging = judging_begins c.args.rows.now c.args.judges.now.items c.requires.fresh.0 _ c.requires.fresh.1;
  possible = c.requires.possible;
  grows = omega arith;
}

pub turn-requires-clause-under_way : goal.turn-requires-clause-under_way
turn-requires-clause-under_way g c = collect_under_way _ _ _ _ _ _ _ (c.loop.invariant.collecting c.requires.begun.0 c.requires.begun.1)

pub returns-in_err-turn-clause-says : goal.returns-in_err-turn-clause-says
returns-in_err-turn-clause-says g c = λ id walked.
    passed_on (λ r. LeftSays (row_range id c.args.start c.args.end (g.R.Rows.seen c.args.names.now.rows)) c.args.rows.now.filters.items (filters_of c.args.judges.now.items) c.args.how r c.turn.new.self c.loop.spans (g.R.Rows.seen c.turn.new.names.rows)) (ask_fault c.in_err-turn.field-0.0) c.from_residual.result c.from_residual.ensures.1
    (collect_cut _ _ _ _ _ _ _ (c.loop.invariant.collecting id walked) c.in_err-turn.field-0.0 c.turn.new.self _ c.in_err-turn.ensures.says)

pub returns-in-End-clause-says : goal.returns-in-End-clause-says
returns-in-End-clause-says g c = λ id walked.
    let says = subst (λ (t : RowTurn). TurnSays c.loop.rows (g.R.Rows.seen c.loop.names.rows) (Ok t) c.turn.new.self (g.R.Rows.seen c.turn.new.names.rows)) c.in-End.is c.in_ok-turn.ensures.says in
    collected_all _ _ _ _ _ _ _ (c.loop.invariant.collecting id walked) c.turn.new.self _ says

pub take_picked-requires : goal.take_picked-requires
take_picked-requires g c =
    let says = subst (λ (t : RowTurn). TurnSays c.loop.rows (g.R.Rows.seen c.loop.names.rows) (Ok t) c.turn.new.self (g.R.Rows.seen c.turn.new.names.rows)) c.in-Picked.is c.in_ok-turn.ensures.says in
    let same : length (filters_of c.args.judges.now.items) ≡ length c.args.rows.now.filters.items = length-map c.args.judges.now.items (λ (j : ValueJudge). j.judge) ∙ c.requires.as_many in
    picked_can _ _ _ _ _ _ _ (c.loop.invariant.collecting c.requires.begun.0 c.requires.begun.1) c.in-Picked.key c.in-Picked.found c.turn.new.self _ says c.loop.judges.items c.loop.invariant.judging c.loop.invariant.possible same

pub returns-in_err-take_picked-in-Picked-clause-says : goal.returns-in_err-take_picked-in-Picked-clause-says
returns-in_err-take_picked-in-Picked-clause-says g c = λ id walked.
    let says = subst (λ (t : RowTurn). TurnSays c.loop.rows (g.R.Rows.seen c.loop.names.rows) (Ok t) c.turn.new.self (g.R.Rows.seen c.turn.new.names.rows)) c.in-Picked.is c.in_ok-turn.ensures.says in
    passed_on (λ r. LeftSays (row_range id c.args.start c.args.end (g.R.Rows.seen c.args.names.now.rows)) c.args.rows.now.filters.items (filters_of c.args.judges.now.items) c.args.how r c.turn.new.self c.take_picked.new.spans (g.R.Rows.seen c.turn.new.names.rows)) c.in_err-take_picked-in-Picked.field-0.0 c.from_residual-in_err-take_picked-in-Picked.result
    c.from_residual-in_err-take_picked-in-Picked.ensures.1
    (picked_refused _ _ _ _ _ _ _ (c.loop.invariant.collecting id walked) c.in-Picked.key c.in-Picked.found c.turn.new.self _ says c.loop.judges.items c.loop.invariant.judging c.loop.invariant.possible c.take_picked.new.judges.items c.take_picked.new.spans c.in_err-take_picked-in-Picked.field-0.0 c.in_err-take_picked-in-Picked.ensures)

pub returns-in_err-take_picked-in-Picked-clause-leaves : goal.returns-in_err-take_picked-in-Picked-clause-leaves
returns-in_err-take_picked-in-Picked-clause-leaves g c =
    let says = subst (λ (t : RowTurn). TurnSays c.loop.rows (g.R.Rows.seen c.loop.names.rows) (Ok t) c.turn.new.self (g.R.Rows.seen c.turn.new.names.rows)) c.in-Picked.is c.in_ok-turn.ensures.says in
    let a = c.loop.invariant.grows in
    let b = c.in_ok-turn.ensures.leaves.grows in
    passed_on (λ r. Leaves is_stop r (g.R.Rows.seen c.turn.new.names.rows) (g.R.Rows.stops c.args.names.now.rows) (g.R.Rows.stops c.turn.new.names.rows)) c.in_err-take_picked-in-Picked.field-0.0 c.from_residual-in_err-take_picked-in-Picked.result c.from_residual-in_err-take_picked-in-Picked.ensures.1
    (no_stop_taken _ _ _ _ _ c.turn.new.self _ _ c.loop.judges.items _ _ _ c.in-Picked.key c.in-Picked.found (c.loop.invariant.collecting c.requires.begun.0 c.requires.begun.1) says c.loop.invariant.possible c.in_err-take_picked-in-Picked.field-0.0 _ _ c.in_err-take_picked-in-Picked.ensures (omega (arith, a, b)))

pub returns-clause-says : goal.returns-clause-says
returns-clause-says g c = λ id walked. collect_given_up _ _ _ _ _ _ _ (c.loop.invariant.collecting id walked)

pub loop-preserved : goal.loop-preserved
loop-preserved g c =
    let a = c.loop.invariant.grows in
    let b = c.in_ok-turn.ensures.leaves.grows in
    record {
      collecting = λ id walked.
          let so = c.loop.invariant.collecting id walked in
          elim c.match-branch-2.branch [
            | in-Passed w ↦
                let says = subst (λ (t : RowTurn). TurnSays c.loop.rows (g.R.Rows.seen c.loop.names.rows) (Ok t) c.turn.new.self (g.R.Rows.seen c.turn.new.names.rows)) w.in-Passed.is c.in_ok-turn.ensures.says in
                subst (λ (l : List KeptSpan). Collecting (row_range id c.args.start c.args.end (g.R.Rows.seen c.args.names.now.rows)) c.args.rows.now.filters.items (filters_of c.args.judges.now.items) c.args.how c.turn.new.self l (g.R.Rows.seen c.turn.new.names.rows)) (sym w.spans-is) (collected_past _ _ _ _ _ _ _ so c.turn.new.self _ says)
            | in-Picked+in_ok-take_picked-in-Picked w ↦
                let says = subst (λ (t : RowTurn). TurnSays c.loop.rows (g.R.Rows.seen c.loop.names.rows) (Ok t) c.turn.new.self (g.R.Rows.seen c.turn.new.names.rows)) w.in-Picked.is c.in_ok-turn.ensures.says in
                subst (λ (l : List KeptSpan). Collecting (row_range id c.args.start c.args.end (g.R.Rows.seen c.args.names.now.rows)) c.args.rows.now.filters.items (filters_of c.args.judges.now.items) c.args.how c.turn.new.self l (g.R.Rows.seen c.turn.new.names.rows)) (sym w.spans-is)
                (picked_next _ _ _ _ _ _ _ so w.in-Picked.key w.in-Picked.found c.turn.new.self _ says c.loop.judges.items c.loop.invariant.judging c.loop.invariant.possible w.take_picked.new.judges.items w.take_picked.new.spans w.in_ok-take_picked-in-Picked.ensures)
          ];
      judging = elim c.match-branch-2.branch [
        | in-Passed w ↦
            let says = subst (λ (t : RowTurn). TurnSays c.loop.rows (g.R.Rows.seen c.loop.names.rows) (Ok t) c.turn.new.self (g.R.Rows.seen c.turn.new.names.rows)) w.in-Passed.is c.in_ok-turn.ensures.says in
            subst (λ (l : Vec ValueJudge Global). Judging c.args.rows.now.filters.items (filters_of c.args.judges.now.items) c.turn.new.self l.items (g.R.Rows.seen c.turn.new.names.rows)) (sym w.judges-is) (judging_past _ _ _ _ _ c.loop.invariant.judging _ c.turn.new.self _ says)
        | in-Picked+in_ok-take_picked-in-Picked w ↦
            let says = subst (λ (t : RowTurn). TurnSays c.loop.rows (g.R.Rows.seen c.loop.names.rows) (Ok t) c.turn.new.self (g.R.Rows.seen c.turn.new.names.rows)) w.in-Picked.is c.in_ok-turn.ensures.says in
            subst (λ (l : Vec ValueJudge Global). Judging c.args.rows.now.filters.items (filters_of c.args.judges.now.items) c.turn.new.self l.items (g.R.Rows.seen c.turn.new.names.rows)) (sym w.judges-is)
            (picked_judging _ _ _ _ _ _ _ (c.loop.invariant.collecting c.requires.begun.0 c.requires.begun.1) w.in-Picked.key w.in-Picked.found c.turn.new.self _ says c.loop.judges.items c.loop.invariant.judging c.loop.invariant.possible w.take_picked.new.judges.items w.take_picked.new.spans w.in_ok-take_picked-in-Picked.ensures)
      ];
      possible = c.in_ok-turn.ensures.leaves.possible;
      grows = omega (arith, a, b);
    }

use Rattle.std.proofs.Common.{ℕ, ◌∙◌, ◌++◌, List, [], map, refl, sym, subst, arith, ap}
use Rattle.std.specs.Prelude.{Some}
use Rattle.point_put.specs.Admissions.{admission}
use Rattle.tsd_daemon.specs.declared.counts.Counts.{Counts}
use Rattle.tsd_daemon.specs.ConnReplies.{no_counts}
use Rattle.tsd_daemon.specs.ConnRequests.{telnet_asks}
use Rattle.tsd_daemon.specs.ConnRequests.ConnRequest.{Telnet}
use Rattle.tsd_daemon.specs.Talks.{Taken, Talks, telnet_to_come}
use Rattle.tsd_daemon.proofs.Pieces.{clock_causes, conn_causes, fed_come, later_causes, talk_no_piece, talk_piece}
use Rattle.tsd_daemon.proofs.Serving.{not_end}
use Rattle.tsd_daemon.proofs.Talking.{talk_come, talk_memory}
use Rattle.tsd_daemon.proofs.telnet_session.serve_telnet.Goals as goal

pub returns-in-Err-clause-served : goal.returns-in-Err-clause-served
returns-in-Err-clause-served g c = λ clock from k.
    let l = c.loop-session in
    talk_memory (admission c.args.config.now c.args.rule.now.patterns) from _ (record { seen = g.R.Rows.seen l.names.rows; held = g.K.Sink.held l.sink; queue = l.queue; waiting = l.session.replies; counts = l.session.counts }) (λ more. telnet_to_come l.lines (l.input.piece ++ more))
    l.invariant.most (l.invariant.talks clock from k) l.invariant.quiet

pub returns-in-Some-clause-served : goal.returns-in-Some-clause-served
returns-in-Some-clause-served g c = λ clock from k.
    let l = c.loop-session in
    let fed = talk_come (admission c.args.config.now c.args.rule.now.patterns) from _ (record { seen = g.R.Rows.seen l.names.rows; held = g.K.Sink.held l.sink; queue = l.queue; waiting = l.session.replies; counts = l.session.counts })
    (λ more. telnet_to_come l.lines (l.input.piece ++ more)) (telnet_to_come c.feed.new.self) (l.invariant.talks clock from k) (fed_come l.lines c.feed.new.self c.piece.result.now l.input.piece c.piece.ensures c.in-Ok.ensures.ok) in
    c.in-Some.ensures.moves from _ l.invariant.most fed

pub returns-in-Some-clause-end : goal.returns-in-Some-clause-end
returns-in-Some-clause-end g c = λ same. not_end _ _ _ _ c.in-Some.end c.in-Some.ensures.causes.cause same

pub returns-in-Some-clause-causes : goal.returns-in-Some-clause-causes
returns-in-Some-clause-causes g c = λ ticks.
    let l = c.loop-session in
    conn_causes _ _ _ _ ticks c.in-Some.end l.invariant.reads l.invariant.writes l.invariant.stops (omega arith) (clock_causes _ _ _ _ ticks ticks (Some c.in-Some.end) (omega arith) c.in-Some.ensures.causes)

pub loop-session-init : goal.loop-session-init
loop-session-init g c = record {
  talks = λ clock from k.
      let seen = g.R.Rows.seen c.args.names.now.rows in
      let held = g.K.Sink.held c.args.sink.now in
      let t : Taken = record { source = record { taken = g.S.Source.taken c.args.source.now; left = g.S.Source.left c.args.source.now; last = g.S.Source.last c.args.source.now }; clock = clock; size = c.args.input.now.taken } in
      let come = talk_come (admission c.args.config.now c.args.rule.now.patterns) from t (record { seen = seen; held = held; queue = c.args.queue.now; waiting = []; counts = no_counts })
      (λ more. telnet_asks (c.args.input.now.piece ++ more)) (λ more. telnet_to_come c.make-lines.result (c.args.input.now.piece ++ more)) k (λ more. ap (map Telnet) (c.make-lines.ensures (c.args.input.now.piece ++ more))) in
      subst (λ (n : Counts). Talks (admission c.args.config.now c.args.rule.now.patterns) from t (record { seen = seen; held = held; queue = c.args.queue.now; waiting = c.make-session.result.replies; counts = n }) (λ more. telnet_to_come c.make-lines.result (c.args.input.now.piece ++ more))) (sym c.make-session.ensures.counts)
      (subst (λ (w : List ℕ). Talks (admission c.args.config.now c.args.rule.now.patterns) from t (record { seen = seen; held = held; queue = c.args.queue.now; waiting = w; counts = no_counts }) (λ more. telnet_to_come c.make-lines.result (c.args.input.now.piece ++ more))) (sym c.make-session.ensures.replies) come);
  quiet = c.make-session.ensures.replies;
  most = c.requires;
  reads = omega arith;
  writes = omega arith;
  stops = omega arith;
  source = refl;
  sink = refl;
}

pub returns-in-Err-next_piece-clause-served : goal.returns-in-Err-next_piece-clause-served
returns-in-Err-next_piece-clause-served g c = λ clock from k.
    let l = c.loop-session in
    let seen = g.R.Rows.seen in
    let held = g.K.Sink.held in
    let s = g.S.Source in
    let fed = talk_come (admission c.args.config.now c.args.rule.now.patterns) from _ (record { seen = seen l.names.rows; held = held l.sink; queue = l.queue; waiting = l.session.replies; counts = l.session.counts })
    (λ more. telnet_to_come l.lines (l.input.piece ++ more)) (telnet_to_come c.feed.new.self) (l.invariant.talks clock from k) (fed_come l.lines c.feed.new.self c.piece.result.now l.input.piece c.piece.ensures c.in-Ok.ensures.ok) in
    talk_no_piece (admission c.args.config.now c.args.rule.now.patterns) from (record { taken = s.taken l.source; left = s.left l.source; last = s.last l.source }) (record { taken = s.taken c.next_piece.new.source; left = s.left c.next_piece.new.source; last = s.last c.next_piece.new.source }) clock
    (record { seen = seen c.answer_all.new.names.rows; held = held c.answer_all.new.sink; queue = c.answer_all.new.queue; waiting = c.answer_all.new.session.replies; counts = c.answer_all.new.session.counts })
    (held c.next_piece.new.sink) l.input c.next_piece.new.input c.in-Err-next_piece.end (telnet_to_come c.answer_all.new.lines) l.invariant.most (c.in_default.ensures.moves from _ l.invariant.most fed) (c.in_default.ensures.none refl) c.in-Err-next_piece.ensures.moves

pub returns-in-Err-next_piece-clause-causes : goal.returns-in-Err-next_piece-clause-causes
returns-in-Err-next_piece-clause-causes g c = λ ticks.
    let l = c.loop-session in
    let stops = g.R.Rows.stops in
    later_causes _ _ _ c.in-Err-next_piece.end l.invariant.reads (let a = l.invariant.writes in let b = c.in_default.ensures.causes.later in omega (arith, a, b))
    (let a = l.invariant.stops in let b = c.in_default.ensures.causes.grows in omega (arith, a, b)) (omega arith) (c.in-Err-next_piece.ensures.causes (stops c.answer_all.new.names.rows) ticks)

pub loop-session-preserved : goal.loop-session-preserved
loop-session-preserved g c =
    let l = c.loop-session in
    let i = l.invariant in
    let seen = g.R.Rows.seen in
    let held = g.K.Sink.held in
    let s = g.S.Source in
    let asked = c.in_default.ensures in
    let piece = c.in-Ok-next_piece.ensures in
    record {
      talks = λ clock from k.
          let fed = talk_come (admission c.args.config.now c.args.rule.now.patterns) from _ (record { seen = seen l.names.rows; held = held l.sink; queue = l.queue; waiting = l.session.replies; counts = l.session.counts })
          (λ more. telnet_to_come l.lines (l.input.piece ++ more)) (telnet_to_come c.feed.new.self) (i.talks clock from k) (fed_come l.lines c.feed.new.self c.piece.result.now l.input.piece c.piece.ensures c.in-Ok.ensures.ok) in
          let talked = talk_piece (admission c.args.config.now c.args.rule.now.patterns) from (record { taken = s.taken l.source; left = s.left l.source; last = s.last l.source }) (record { taken = s.taken c.next_piece.new.source; left = s.left c.next_piece.new.source; last = s.last c.next_piece.new.source }) clock
          (record { seen = seen c.answer_all.new.names.rows; held = held c.answer_all.new.sink; queue = c.answer_all.new.queue; waiting = c.answer_all.new.session.replies; counts = c.answer_all.new.session.counts })
          (held c.next_piece.new.sink) l.input c.next_piece.new.input (telnet_to_come c.answer_all.new.lines) (asked.moves from _ i.most fed) (asked.none refl) piece.moves in
          subst (λ (w : List ℕ). Talks (admission c.args.config.now c.args.rule.now.patterns) from (record { source = record { taken = s.taken c.next_piece.new.source; left = s.left c.next_piece.new.source; last = s.last c.next_piece.new.source }; clock = clock; size = c.next_piece.new.input.taken })
          (record { seen = seen c.answer_all.new.names.rows; held = held c.next_piece.new.sink; queue = c.answer_all.new.queue; waiting = w; counts = c.answer_all.new.session.counts }) (λ more. telnet_to_come c.answer_all.new.lines (c.next_piece.new.input.piece ++ more)))
          (sym piece.none) talked;
      quiet = piece.none;
      most = piece.moves.1.most;
      reads = let a = i.reads in let b = piece.later.0 in omega (arith, a, b);
      writes = let a = i.writes in let b = piece.later.1 in let d = asked.causes.later in omega (arith, a, b, d);
      stops = let a = i.stops in let b = asked.causes.grows in omega (arith, a, b);
      source = piece.source ∙ i.source;
      sink = piece.sink ∙ asked.number ∙ i.sink;
    }

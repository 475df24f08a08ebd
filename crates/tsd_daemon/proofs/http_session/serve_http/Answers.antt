use Rattle.std.proofs.Common.{ℕ, ◌∙◌, ◌++◌, List, [], map, refl, sym, subst, arith, ap}
use Rattle.point_put.specs.Admissions.{admission}
use Rattle.tsd_daemon.specs.declared.counts.Counts.{Counts}
use Rattle.tsd_daemon.specs.ConnReplies.{no_counts}
use Rattle.tsd_daemon.specs.ConnRequests.{http_asks}
use Rattle.tsd_daemon.specs.ConnRequests.ConnRequest.{Http}
use Rattle.tsd_daemon.specs.Talks.{Taken, Talks, http_to_come}
use Rattle.tsd_daemon.proofs.Calls.{fed_calls}
use Rattle.tsd_daemon.proofs.Pieces.{conn_causes, later_causes, talk_no_piece, talk_piece}
use Rattle.tsd_daemon.proofs.Serving.{not_clock_end}
use Rattle.tsd_daemon.proofs.Talking.{talk_come, talk_memory}
use Rattle.tsd_daemon.proofs.http_session.serve_http.Goals as goal

pub returns-in_default-clause-served : goal.returns-in_default-clause-served
returns-in_default-clause-served g c = λ from k.
    talk_memory (admission c.args.config.now c.args.rule.now.patterns) from _ (record { seen = g.R.Rows.seen c.args.names.now.rows; held = g.K.Sink.held c.args.sink.now; queue = c.args.queue.now; waiting = []; counts = no_counts }) (λ more. http_asks (c.args.input.now.piece ++ more)) c.requires k refl

pub returns-in-Err-clause-served : goal.returns-in-Err-clause-served
returns-in-Err-clause-served g c = λ from k.
    let l = c.loop-session in
    talk_memory (admission c.args.config.now c.args.rule.now.patterns) from _ (record { seen = g.R.Rows.seen l.names.rows; held = g.K.Sink.held l.sink; queue = l.queue; waiting = l.session.replies; counts = l.session.counts }) (λ more. http_to_come l.calls (l.input.piece ++ more))
    l.invariant.most (l.invariant.talks from k) l.invariant.quiet

pub returns-in-Some-clause-served : goal.returns-in-Some-clause-served
returns-in-Some-clause-served g c = λ from k.
    let l = c.loop-session in
    let fed = talk_come (admission c.args.config.now c.args.rule.now.patterns) from _ (record { seen = g.R.Rows.seen l.names.rows; held = g.K.Sink.held l.sink; queue = l.queue; waiting = l.session.replies; counts = l.session.counts })
    (λ more. http_to_come l.calls (l.input.piece ++ more)) (http_to_come c.feed.new.self) (l.invariant.talks from k) (fed_calls l.calls c.feed.new.self c.piece.result.now l.input.piece c.piece.ensures c.in-Ok-feed.ensures.ok) in
    c.in-Some.ensures.moves from (record { source = record { taken = g.S.Source.taken l.source; left = g.S.Source.left l.source; last = g.S.Source.last l.source }; clock = record { moments = g.C.Clock.moments l.clock; calls = g.C.Clock.calls l.clock }; size = l.input.taken }) l.invariant.most fed

pub returns-in-Some-clause-end : goal.returns-in-Some-clause-end
returns-in-Some-clause-end g c = λ same. not_clock_end _ _ _ _ _ _ c.in-Some.end c.in-Some.ensures.causes.cause same

pub returns-in-Some-clause-causes : goal.returns-in-Some-clause-causes
returns-in-Some-clause-causes g c =
    let l = c.loop-session in
    conn_causes _ _ _ _ _ c.in-Some.end l.invariant.reads l.invariant.writes l.invariant.stops l.invariant.ticks c.in-Some.ensures.causes

pub loop-session-init : goal.loop-session-init
loop-session-init g c = record {
  talks = λ from k.
      let seen = g.R.Rows.seen c.args.names.now.rows in
      let held = g.K.Sink.held c.args.sink.now in
      let t : Taken = record { source = record { taken = g.S.Source.taken c.args.source.now; left = g.S.Source.left c.args.source.now; last = g.S.Source.last c.args.source.now }; clock = record { moments = g.C.Clock.moments c.args.clock.now; calls = g.C.Clock.calls c.args.clock.now }; size = c.args.input.now.taken } in
      let come = talk_come (admission c.args.config.now c.args.rule.now.patterns) from t (record { seen = seen; held = held; queue = c.args.queue.now; waiting = []; counts = no_counts })
      (λ more. http_asks (c.args.input.now.piece ++ more)) (λ more. http_to_come c.make-calls.result (c.args.input.now.piece ++ more)) k (λ more. ap (map Http) (c.make-calls.ensures (c.args.input.now.piece ++ more))) in
      subst (λ (n : Counts). Talks (admission c.args.config.now c.args.rule.now.patterns) from t (record { seen = seen; held = held; queue = c.args.queue.now; waiting = c.make-session.result.replies; counts = n }) (λ more. http_to_come c.make-calls.result (c.args.input.now.piece ++ more))) (sym c.make-session.ensures.counts)
      (subst (λ (w : List ℕ). Talks (admission c.args.config.now c.args.rule.now.patterns) from t (record { seen = seen; held = held; queue = c.args.queue.now; waiting = w; counts = no_counts }) (λ more. http_to_come c.make-calls.result (c.args.input.now.piece ++ more))) (sym c.make-session.ensures.replies) come);
  quiet = c.make-session.ensures.replies;
  most = c.requires;
  reads = omega arith;
  writes = omega arith;
  stops = omega arith;
  ticks = omega arith;
  source = refl;
  sink = refl;
}

pub returns-in-Err-next_piece-clause-served : goal.returns-in-Err-next_piece-clause-served
returns-in-Err-next_piece-clause-served g c = λ from k.
    let l = c.loop-session in
    let seen = g.R.Rows.seen in
    let held = g.K.Sink.held in
    let s = g.S.Source in
    let fed = talk_come (admission c.args.config.now c.args.rule.now.patterns) from _ (record { seen = seen l.names.rows; held = held l.sink; queue = l.queue; waiting = l.session.replies; counts = l.session.counts })
    (λ more. http_to_come l.calls (l.input.piece ++ more)) (http_to_come c.feed.new.self) (l.invariant.talks from k) (fed_calls l.calls c.feed.new.self c.piece.result.now l.input.piece c.piece.ensures c.in-Ok-feed.ensures.ok) in
    talk_no_piece (admission c.args.config.now c.args.rule.now.patterns) from (record { taken = s.taken l.source; left = s.left l.source; last = s.last l.source }) (record { taken = s.taken c.next_piece.new.source; left = s.left c.next_piece.new.source; last = s.last c.next_piece.new.source }) (record { moments = g.C.Clock.moments c.answer_calls.new.clock; calls = g.C.Clock.calls c.answer_calls.new.clock })
    (record { seen = seen c.answer_calls.new.names.rows; held = held c.answer_calls.new.sink; queue = c.answer_calls.new.queue; waiting = c.answer_calls.new.session.replies; counts = c.answer_calls.new.session.counts })
    (held c.next_piece.new.sink) l.input c.next_piece.new.input c.in-Err-next_piece.end (http_to_come c.answer_calls.new.calls) l.invariant.most (c.in_default-answer_calls.ensures.moves from (record { source = record { taken = s.taken l.source; left = s.left l.source; last = s.last l.source }; clock = record { moments = g.C.Clock.moments l.clock; calls = g.C.Clock.calls l.clock }; size = l.input.taken }) l.invariant.most fed) (c.in_default-answer_calls.ensures.none refl) c.in-Err-next_piece.ensures.moves

pub returns-in-Err-next_piece-clause-causes : goal.returns-in-Err-next_piece-clause-causes
returns-in-Err-next_piece-clause-causes g c =
    let l = c.loop-session in
    let stops = g.R.Rows.stops in
    later_causes _ (record { reads = g.S.Source.faults l.source; writes = g.K.Sink.faults c.answer_calls.new.sink; stops = stops c.answer_calls.new.names.rows; ticks = g.C.Clock.faults c.answer_calls.new.clock }) _ c.in-Err-next_piece.end l.invariant.reads (let a = l.invariant.writes in let b = c.in_default-answer_calls.ensures.causes.later in omega (arith, a, b))
    (let a = l.invariant.stops in let b = c.in_default-answer_calls.ensures.causes.grows in omega (arith, a, b)) (let a = l.invariant.ticks in let b = c.in_default-answer_calls.ensures.causes.asked in omega (arith, a, b))
    (c.in-Err-next_piece.ensures.causes (stops c.answer_calls.new.names.rows) (g.C.Clock.faults c.answer_calls.new.clock))

pub loop-session-preserved : goal.loop-session-preserved
loop-session-preserved g c =
    let l = c.loop-session in
    let i = l.invariant in
    let seen = g.R.Rows.seen in
    let held = g.K.Sink.held in
    let s = g.S.Source in
    let asked = c.in_default-answer_calls.ensures in
    let piece = c.in-Ok-next_piece.ensures in
    record {
      talks = λ from k.
          let fed = talk_come (admission c.args.config.now c.args.rule.now.patterns) from _ (record { seen = seen l.names.rows; held = held l.sink; queue = l.queue; waiting = l.session.replies; counts = l.session.counts })
          (λ more. http_to_come l.calls (l.input.piece ++ more)) (http_to_come c.feed.new.self) (i.talks from k) (fed_calls l.calls c.feed.new.self c.piece.result.now l.input.piece c.piece.ensures c.in-Ok-feed.ensures.ok) in
          let talked = talk_piece (admission c.args.config.now c.args.rule.now.patterns) from (record { taken = s.taken l.source; left = s.left l.source; last = s.last l.source }) (record { taken = s.taken c.next_piece.new.source; left = s.left c.next_piece.new.source; last = s.last c.next_piece.new.source }) (record { moments = g.C.Clock.moments c.answer_calls.new.clock; calls = g.C.Clock.calls c.answer_calls.new.clock })
          (record { seen = seen c.answer_calls.new.names.rows; held = held c.answer_calls.new.sink; queue = c.answer_calls.new.queue; waiting = c.answer_calls.new.session.replies; counts = c.answer_calls.new.session.counts })
          (held c.next_piece.new.sink) l.input c.next_piece.new.input (http_to_come c.answer_calls.new.calls) (asked.moves from (record { source = record { taken = s.taken l.source; left = s.left l.source; last = s.last l.source }; clock = record { moments = g.C.Clock.moments l.clock; calls = g.C.Clock.calls l.clock }; size = l.input.taken }) i.most fed) (asked.none refl) piece.moves in
          subst (λ (w : List ℕ). Talks (admission c.args.config.now c.args.rule.now.patterns) from (record { source = record { taken = s.taken c.next_piece.new.source; left = s.left c.next_piece.new.source; last = s.last c.next_piece.new.source }; clock = record { moments = g.C.Clock.moments c.answer_calls.new.clock; calls = g.C.Clock.calls c.answer_calls.new.clock }; size = c.next_piece.new.input.taken })
          (record { seen = seen c.answer_calls.new.names.rows; held = held c.next_piece.new.sink; queue = c.answer_calls.new.queue; waiting = w; counts = c.answer_calls.new.session.counts }) (λ more. http_to_come c.answer_calls.new.calls (c.next_piece.new.input.piece ++ more)))
          (sym piece.none) talked;
      quiet = piece.none;
      most = piece.moves.1.most;
      reads = let a = i.reads in let b = piece.later.0 in omega (arith, a, b);
      writes = let a = i.writes in let b = piece.later.1 in let d = asked.causes.later in omega (arith, a, b, d);
      stops = let a = i.stops in let b = asked.causes.grows in omega (arith, a, b);
      ticks = let a = i.ticks in let b = asked.causes.asked in omega (arith, a, b);
      source = piece.source ∙ i.source;
      sink = piece.sink ∙ asked.number ∙ i.sink;
    }

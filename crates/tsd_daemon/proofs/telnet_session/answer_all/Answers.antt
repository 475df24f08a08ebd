use Rattle.std.proofs.Common.{◌∙◌, refl, arith}
use Rattle.std.specs.Prelude.{None, Some}
use Rattle.point_put.specs.Admissions.{admission}
use Rattle.tsd_daemon.specs.Talks.{telnet_to_come}
use Rattle.tsd_daemon.proofs.Moving.{moves_on, moves_same}
use Rattle.tsd_daemon.proofs.Pieces.{causes_on, none_come, same_come}
use Rattle.tsd_daemon.proofs.telnet_session.answer_all.Goals as goal

pub loop-end-init : goal.loop-end-init
loop-end-init g c = record { moves = λ from t le k. k; causes = record { later = omega arith; grows = omega arith; cause = tt }; number = refl }

pub loop-end-preserved : goal.loop-end-preserved
loop-end-preserved g c = record {
  moves = moves_on (admission c.args.config.now c.args.rule.now.patterns) (record { seen = g.R.Rows.seen c.args.names.now.rows; held = g.K.Sink.held c.args.sink.now; queue = c.args.queue.now; waiting = c.args.session.now.replies; counts = c.args.session.now.counts }) (record { seen = g.R.Rows.seen c.loop-end.names.rows; held = g.K.Sink.held c.loop-end.sink; queue = c.loop-end.queue; waiting = c.loop-end.session.replies; counts = c.loop-end.session.counts }) (record { seen = g.R.Rows.seen c.answer_next.new.names.rows; held = g.K.Sink.held c.answer_next.new.sink; queue = c.answer_next.new.queue; waiting = c.answer_next.new.session.replies; counts = c.answer_next.new.session.counts }) (telnet_to_come c.args.lines.now) (telnet_to_come c.find.new.self) (telnet_to_come c.answer_next.new.lines) None
      (moves_on (admission c.args.config.now c.args.rule.now.patterns) (record { seen = g.R.Rows.seen c.args.names.now.rows; held = g.K.Sink.held c.args.sink.now; queue = c.args.queue.now; waiting = c.args.session.now.replies; counts = c.args.session.now.counts }) (record { seen = g.R.Rows.seen c.loop-end.names.rows; held = g.K.Sink.held c.loop-end.sink; queue = c.loop-end.queue; waiting = c.loop-end.session.replies; counts = c.loop-end.session.counts }) (record { seen = g.R.Rows.seen c.loop-end.names.rows; held = g.K.Sink.held c.loop-end.sink; queue = c.loop-end.queue; waiting = c.loop-end.session.replies; counts = c.loop-end.session.counts }) (telnet_to_come c.args.lines.now) (telnet_to_come c.loop-end.lines) (telnet_to_come c.find.new.self) None c.loop-end.invariant.moves (moves_same (admission c.args.config.now c.args.rule.now.patterns) (record { seen = g.R.Rows.seen c.loop-end.names.rows; held = g.K.Sink.held c.loop-end.sink; queue = c.loop-end.queue; waiting = c.loop-end.session.replies; counts = c.loop-end.session.counts }) (telnet_to_come c.loop-end.lines) (telnet_to_come c.find.new.self) (same_come c.loop-end.lines c.find.new.self c.in-Some.ensures.0)))
      c.in_default-answer_next.ensures.moves;
  causes = causes_on (g.K.Sink.faults c.args.sink.now) (g.K.Sink.faults c.loop-end.sink) (g.K.Sink.faults c.answer_next.new.sink) (g.R.Rows.stops c.args.names.now.rows) (g.R.Rows.stops c.loop-end.names.rows) (g.R.Rows.stops c.answer_next.new.names.rows) None c.loop-end.invariant.causes c.in_default-answer_next.ensures.causes;
  number = c.in_default-answer_next.ensures.number ∙ c.loop-end.invariant.number;
}

pub returns-in-Some-answer_next-clause-moves : goal.returns-in-Some-answer_next-clause-moves
returns-in-Some-answer_next-clause-moves g c =
    moves_on (admission c.args.config.now c.args.rule.now.patterns) (record { seen = g.R.Rows.seen c.args.names.now.rows; held = g.K.Sink.held c.args.sink.now; queue = c.args.queue.now; waiting = c.args.session.now.replies; counts = c.args.session.now.counts }) (record { seen = g.R.Rows.seen c.loop-end.names.rows; held = g.K.Sink.held c.loop-end.sink; queue = c.loop-end.queue; waiting = c.loop-end.session.replies; counts = c.loop-end.session.counts }) (record { seen = g.R.Rows.seen c.answer_next.new.names.rows; held = g.K.Sink.held c.answer_next.new.sink; queue = c.answer_next.new.queue; waiting = c.answer_next.new.session.replies; counts = c.answer_next.new.session.counts }) (telnet_to_come c.args.lines.now) (telnet_to_come c.find.new.self) (telnet_to_come c.answer_next.new.lines) (Some c.in-Some-answer_next.ended)
    (moves_on (admission c.args.config.now c.args.rule.now.patterns) (record { seen = g.R.Rows.seen c.args.names.now.rows; held = g.K.Sink.held c.args.sink.now; queue = c.args.queue.now; waiting = c.args.session.now.replies; counts = c.args.session.now.counts }) (record { seen = g.R.Rows.seen c.loop-end.names.rows; held = g.K.Sink.held c.loop-end.sink; queue = c.loop-end.queue; waiting = c.loop-end.session.replies; counts = c.loop-end.session.counts }) (record { seen = g.R.Rows.seen c.loop-end.names.rows; held = g.K.Sink.held c.loop-end.sink; queue = c.loop-end.queue; waiting = c.loop-end.session.replies; counts = c.loop-end.session.counts }) (telnet_to_come c.args.lines.now) (telnet_to_come c.loop-end.lines) (telnet_to_come c.find.new.self) None c.loop-end.invariant.moves (moves_same (admission c.args.config.now c.args.rule.now.patterns) (record { seen = g.R.Rows.seen c.loop-end.names.rows; held = g.K.Sink.held c.loop-end.sink; queue = c.loop-end.queue; waiting = c.loop-end.session.replies; counts = c.loop-end.session.counts }) (telnet_to_come c.loop-end.lines) (telnet_to_come c.find.new.self) (same_come c.loop-end.lines c.find.new.self c.in-Some.ensures.0)))
    c.in-Some-answer_next.ensures.moves

pub returns-clause-moves : goal.returns-clause-moves
returns-clause-moves g c =
    (moves_on (admission c.args.config.now c.args.rule.now.patterns) (record { seen = g.R.Rows.seen c.args.names.now.rows; held = g.K.Sink.held c.args.sink.now; queue = c.args.queue.now; waiting = c.args.session.now.replies; counts = c.args.session.now.counts }) (record { seen = g.R.Rows.seen c.loop-end.names.rows; held = g.K.Sink.held c.loop-end.sink; queue = c.loop-end.queue; waiting = c.loop-end.session.replies; counts = c.loop-end.session.counts }) (record { seen = g.R.Rows.seen c.loop-end.names.rows; held = g.K.Sink.held c.loop-end.sink; queue = c.loop-end.queue; waiting = c.loop-end.session.replies; counts = c.loop-end.session.counts }) (telnet_to_come c.args.lines.now) (telnet_to_come c.loop-end.lines) (telnet_to_come c.find.new.self) None c.loop-end.invariant.moves (moves_same (admission c.args.config.now c.args.rule.now.patterns) (record { seen = g.R.Rows.seen c.loop-end.names.rows; held = g.K.Sink.held c.loop-end.sink; queue = c.loop-end.queue; waiting = c.loop-end.session.replies; counts = c.loop-end.session.counts }) (telnet_to_come c.loop-end.lines) (telnet_to_come c.find.new.self) (same_come c.loop-end.lines c.find.new.self c.in_default.ensures.same)))

pub returns-clause-none : goal.returns-clause-none
returns-clause-none g c = λ same. none_come c.loop-end.lines c.find.new.self c.in_default.ensures

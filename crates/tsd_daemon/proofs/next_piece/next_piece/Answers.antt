use Rattle.tsd_daemon.proofs.Pieces.{piece_moved, taken_causes}
use Rattle.tsd_daemon.proofs.next_piece.next_piece.Goals as goal

pub returns-in-Ok-clause-moves : goal.returns-in-Ok-clause-moves
returns-in-Ok-clause-moves g c =
    let s = g.S.Source in
    let held = g.K.Sink.held in
    piece_moved (record { taken = s.taken c.args.source.now; left = s.left c.args.source.now; last = s.last c.args.source.now }) (record { taken = s.taken c.take.new.source; left = s.left c.take.new.source; last = s.last c.take.new.source }) (held c.args.sink.now) (held c.give.new.sink) c.args.replies.now c.args.input.now c.take.new.self c.take.result c.in-Ok.ensures.ok c.take.ensures.takes

pub returns-in-Ok-clause-causes : goal.returns-in-Ok-clause-causes
returns-in-Ok-clause-causes g c =
    let s = g.S.Source in
    taken_causes (record { taken = s.taken c.args.source.now; left = s.left c.args.source.now; last = s.last c.args.source.now }) (record { taken = s.taken c.take.new.source; left = s.left c.take.new.source; last = s.last c.take.new.source }) c.args.input.now c.take.new.self (s.faults c.args.source.now) (s.faults c.take.new.source) (g.K.Sink.faults c.args.sink.now) (g.K.Sink.faults c.give.new.sink) c.take.result
    c.take.ensures.takes c.take.ensures.later c.in-Ok.ensures.cause.later c.take.ensures.failed

use Rattle.std.proofs.Common.{[], ◌++◌}
use Rattle.tsd_daemon.proofs.Giving.{gave_on, on_err, on_ok, some_on}
use Rattle.tsd_daemon.proofs.reply_buffer.ReplyBuffer.add_last.Goals as goal

pub returns-clause-ok : goal.returns-clause-ok
returns-clause-ok g c =
    let held = g.K.Sink.held in
    on_ok c.give.result (gave_on (held c.args.sink.now) (held c.add.new.sink) (held c.give.new.sink) (c.args.self.now ++ c.args.reply.now) c.add.new.self [] c.in_ok-add.ensures.ok) c.give.ensures.ok

pub returns-clause-err : goal.returns-clause-err
returns-clause-err g c =
    let held = g.K.Sink.held in
    on_err c.give.result (some_on (held c.args.sink.now) (held c.add.new.sink) (held c.give.new.sink) (c.args.self.now ++ c.args.reply.now) c.add.new.self c.in_ok-add.ensures.ok) c.give.ensures.err

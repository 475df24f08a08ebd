use Rattle.telnet_put.specs.TelnetCommands.{request_of}
use Rattle.tsd_daemon.specs.Talks.{telnet_to_come}
use Rattle.tsd_daemon.proofs.Pieces.{next_of}
use Rattle.tsd_daemon.proofs.telnet_session.answer_next.Goals as goal

pub returns-clause-moves : goal.returns-clause-moves
returns-clause-moves g c =
    let request = request_of c.command-command.result in
    c.exchange-ended.ensures.moves (telnet_to_come c.args.lines.now) (telnet_to_come c.skip.new.self) (next_of c.args.lines.now c.skip.new.self request (c.skip.ensures request c.command-command.ensures c.closes-closing.ensures))

pub returns-clause-used : goal.returns-clause-used
returns-clause-used g c =
    let request = request_of c.command-command.result in
    (request, c.skip.ensures request c.command-command.ensures c.closes-closing.ensures)

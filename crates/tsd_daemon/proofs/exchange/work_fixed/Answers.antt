use Rattle.std.proofs.Common.{Bool, [], ap, ◌∙◌, sym}
use Rattle.telnet_put.specs.TelnetCommands.{request_of}
use Rattle.tsd_daemon.specs.ConnRequests.ConnRequest.{Telnet}
use Rattle.tsd_daemon.specs.ConnReplies.{counts_with}
use Rattle.tsd_daemon.specs.Talks.{counted_if}
use Rattle.tsd_daemon.proofs.Moving.{fixed_broken, fixed_last, fixed_told, unasked}
use Rattle.tsd_daemon.proofs.exchange.work_fixed.Goals as goal

pub returns-in_default-clause-moves : goal.returns-in_default-clause-moves
returns-in_default-clause-moves g c =
    let held = g.K.Sink.held in
    fixed_broken (Telnet (request_of c.args.command.now)) (held c.args.sink.now) (held c.break_off.new.sink) c.args.session.now.replies c.break_off.new.replies c.args.session.now.counts c.args.session.now.counts c.break_off.result c.break_off.ensures.gives

pub returns-in-Some-clause-moves : goal.returns-in-Some-clause-moves
returns-in-Some-clause-moves g c =
    let held = g.K.Sink.held in
    fixed_last (request_of c.args.command.now) (held c.args.sink.now) (held c.tell_last.new.sink) c.args.session.now.replies c.tell_last.new.replies c.args.session.now.counts c.args.session.now.counts c.as_slice.result.now c.in-Some.end c.tell_last.result
    (unasked (request_of c.args.command.now) c.requires) (c.as_slice.ensures.value ∙ c.in-Ok.ensures) (sym c.in-Some.ensures) c.tell_last.ensures.gives

pub returns-clause-moves : goal.returns-clause-moves
returns-clause-moves g c =
    let held = g.K.Sink.held in
    fixed_told (request_of c.args.command.now) (held c.args.sink.now) (held c.tell_fixed.new.sink) c.args.session.now.replies c.tell_fixed.new.session.replies c.args.session.now.counts c.tell_fixed.new.session.counts c.as_slice-in-None.result.now c.tell_fixed.result
    (unasked (request_of c.args.command.now) c.requires) (c.as_slice-in-None.ensures.value ∙ c.in-Ok.ensures) (sym c.in-None.ensures) c.tell_fixed.ensures.some (c.tell_fixed.ensures.counts ∙ ap (λ (t : Bool). counts_with c.args.session.now.counts (counted_if t [])) (sym c.requires))

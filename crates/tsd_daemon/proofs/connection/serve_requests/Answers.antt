use Rattle.std.proofs.Common.{◌∙◌, true, false, sym, ap}
use Rattle.point_put.specs.Admissions.{admission}
use Rattle.tsd_daemon.specs.ConnRequests.{begins_http}
use Rattle.tsd_daemon.proofs.Serving.{begins, no_causes, no_piece_taken, none_taken, reads_later}
use Rattle.tsd_daemon.proofs.connection.serve_requests.Goals as goal

pub returns-in_default-clause-served : goal.returns-in_default-clause-served
returns-in_default-clause-served g c = none_taken (admission c.args.config.now c.args.rule.now.patterns) _

pub returns-in_default-clause-causes : goal.returns-in_default-clause-causes
returns-in_default-clause-causes g c = no_causes _

pub returns-in-Err-clause-served : goal.returns-in-Err-clause-served
returns-in-Err-clause-served g c = no_piece_taken (admission c.args.config.now c.args.rule.now.patterns) _ _ c.in-Ok.input c.take.new.self c.in-Err.end c.in-Ok.ensures c.in-Err.ensures.takes

pub returns-then-begins_http-clause-served : goal.returns-then-begins_http-clause-served
returns-then-begins_http-clause-served g c =
    let is = sym (ap begins_http c.piece.ensures) ∙ sym c.begins_http.ensures ∙ c.if-begins_http.true in
    c.serve_http.ensures.served _ (begins (admission c.args.config.now c.args.rule.now.patterns) _ _ c.in-Ok.input c.take.new.self true c.in-Ok.ensures c.in-Ok-take.ensures.takes is)

pub returns-then-begins_http-clause-causes : goal.returns-then-begins_http-clause-causes
returns-then-begins_http-clause-causes g c = reads_later _ _ _ c.serve_http.result c.in-Ok-take.ensures.later c.serve_http.ensures.causes

pub returns-clause-served : goal.returns-clause-served
returns-clause-served g c =
    let is = sym (ap begins_http c.piece.ensures) ∙ sym c.begins_http.ensures ∙ c.if-begins_http.false in
    c.serve_telnet.ensures.served (record { moments = g.C.Clock.moments c.args.clock.now; calls = g.C.Clock.calls c.args.clock.now }) _ (begins (admission c.args.config.now c.args.rule.now.patterns) _ _ c.in-Ok.input c.take.new.self false c.in-Ok.ensures c.in-Ok-take.ensures.takes is)

pub returns-clause-causes : goal.returns-clause-causes
returns-clause-causes g c = reads_later _ _ _ c.serve_telnet.result c.in-Ok-take.ensures.later (c.serve_telnet.ensures.causes (g.C.Clock.faults c.args.clock.now))

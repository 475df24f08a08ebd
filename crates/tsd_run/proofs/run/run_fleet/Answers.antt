use Rattle.std.proofs.Common.{◌≡◌, ap, ◌∙◌, rules}
use Rattle.std.specs.Prelude.{Err}
use Rattle.conn_workers.specs.ServedLinks.{AllTell}
use Rattle.command_words.specs.PlainAsked.{plain_patterns, plain_serve}
use Rattle.tsd_run.proofs.FleetLemmas.{ran_served, ran_without, starved}
use Rattle.tsd_run.proofs.StdioLemmas.{admitted}
use Rattle.tsd_run.proofs.run.run_fleet.Goals as goal

pub returns-in_default-clause-ran : goal.returns-in_default-clause-ran
returns-in_default-clause-ran g c =
    starved (plain_serve c.args.asked.now) (AllTell g.D.Inlet.Source.taken) (AllTell g.D.Outlet.Sink.held) _ _ _ _ _ _ c.no_memory.result.status c.no_memory.ensures.status (ap g.H.Halt.stops c.no_memory.ensures.halt)

pub returns-in_default-again-clause-ran : goal.returns-in_default-again-clause-ran
returns-in_default-again-clause-ran g c =
    let none = c.no_memory-in_default-again in
    starved (plain_serve c.args.asked.now) (AllTell g.D.Inlet.Source.taken) (AllTell g.D.Outlet.Sink.held) _ _ _ _ _ _ none.result.status none.ensures.status (ap g.H.Halt.stops none.ensures.halt)

pub returns-in_default-new-clause-ran : goal.returns-in_default-new-clause-ran
returns-in_default-new-clause-ran g c =
    let none = c.no_memory-in_default-new in
    starved (plain_serve c.args.asked.now) (AllTell g.D.Inlet.Source.taken) (AllTell g.D.Outlet.Sink.held) _ _ _ _ _ _ none.result.status none.ensures.status (ap g.H.Halt.stops none.ensures.halt)

pub returns-in-Err-clause-ran : goal.returns-in-Err-clause-ran
returns-in-Err-clause-ran g c =
    let first = c.first_store.ensures in
    let is = c.in-Err.is in
    ran_without (plain_serve c.args.asked.now) (AllTell g.D.Inlet.Source.taken) (AllTell g.D.Outlet.Sink.held) _ _ _ _ _ _ _ c.in-Err.status c.in-Err.ensures.lacks first.reads_later first.writes_later
    (λ e. first.read_fault (is ∙ ap Err e)) (λ e. first.write_fault (is ∙ ap Err e)) (λ e. first.not_done (is ∙ ap Err e)) (λ e. first.no_clock (is ∙ ap Err e)) (λ e. first.no_stop (is ∙ ap Err e)) (λ e. first.no_door (is ∙ ap Err e))

pub returns-clause-ran : goal.returns-clause-ran
returns-clause-ran g c =
    let k = g.K.Sink in
    let names = plain_serve c.args.asked.now in
    let first = c.in-Ok-first_store.ensures in
    let told = c.status_of-status.ensures in
    let rule : c.keep-rule.result.patterns ≡ plain_patterns c.args.asked.now.names.patterns = search rules in
    ran_served names (AllTell g.D.Inlet.Source.taken) (AllTell g.D.Outlet.Sink.held) _ _ _ _ _ _ _ _ _ _ _ c.in-Ok-first_store.base.content _ _ c.serve_fleet-end.result.end c.serve_fleet-end.result.refused c.status_of-status.result
    (λ j. record { held = k.held (first.silent j); faults = k.faults (first.silent j) }) first.begins c.first_store.ensures.reads_later c.fleet_of-fleet.ensures.port
    (admitted names.names names.appends c.config_of-config.result c.keep-rule.result.patterns c.config_of-config.ensures rule)
    (record { is = told.status; done = told.done; stopped = told.stopped; door_fault = told.door_fault; write_fault = told.write_fault; no_read = told.no_read; no_clock = told.no_clock }) c.serve_fleet-end.ensures.runs c.serve_fleet-end.ensures.causes

use Rattle.std.proofs.Common.{◌≡◌, ap, map, subst, ◌∙◌}
use Rattle.std.specs.Prelude.{string_bytes, Option}
use Rattle.conn_workers.specs.ServedLinks.{AllTell}
use Rattle.command_words.specs.CommandWords.{asked_of, fleet_asked}
use Rattle.command_words.specs.PlainAsked.{plain_serve, serve_of}
use Rattle.command_words.specs.declared.asked.Serve.{Serve}
use Rattle.tsd_run.proofs.FleetLemmas.{alone_asks, ran_fleet, unread}
use Rattle.tsd_run.proofs.RunHeadlineLemmas.{run_headline}
use Rattle.tsd_run.proofs.run.run.Goals as goal

pub returns-in-Ok-Some-clause-headline : goal.returns-in-Ok-Some-clause-headline
returns-in-Ok-Some-clause-headline g c =
    let asked = asked_of (map string_bytes c.args.words.now) in
    let inlets = AllTell g.D.Inlet.Source.taken in
    let outlets = AllTell g.D.Outlet.Sink.held in
    let is = subst (λ (o : Option Serve). serve_of o ≡ fleet_asked asked) c.in-Ok-Some.field-0-is c.in-Ok-Some.ensures.asked in
    run_headline asked inlets outlets _ _ c.run_fleet.result.status (ran_fleet asked inlets outlets _ _ c.run_fleet.result.status (plain_serve c.in-Ok-Some.serve) is c.run_fleet.ensures.ran).runs

pub returns-in-Ok-None-clause-clock : goal.returns-in-Ok-None-clause-clock
returns-in-Ok-None-clause-clock g c =
    let asked = asked_of (map string_bytes c.args.words.now) in
    let is = subst (λ (o : Option Serve). serve_of o ≡ fleet_asked asked) c.in-Ok-None.field-0-is c.in-Ok-None.ensures.asked in
    λ no. c.run_alone.ensures.clock (alone_asks asked is ∙ no)

pub returns-in-Err-clause-ran : goal.returns-in-Err-clause-ran
returns-in-Err-clause-ran g c =
    unread (asked_of (map string_bytes c.args.words.now)) (AllTell g.D.Inlet.Source.taken) (AllTell g.D.Outlet.Sink.held) _ _ _ _ _ _ c.no_memory.result.status c.no_memory.ensures.status (ap g.H.Halt.stops c.no_memory.ensures.halt)

pub returns-in-Err-clause-headline : goal.returns-in-Err-clause-headline
returns-in-Err-clause-headline g c =
    run_headline (asked_of (map string_bytes c.args.words.now)) (AllTell g.D.Inlet.Source.taken) (AllTell g.D.Outlet.Sink.held) _ _ c.no_memory.result.status (returns-in-Err-clause-ran g c).runs

use Rattle.std.proofs.Common.{rules, sym, subst, ◌-◌}
use Rattle.link_acceptor.specs.Accepting.{AsksEach}
use Rattle.link_acceptor.proofs.AcceptLemmas.{asked_to_end, one_more_ask}
use Rattle.link_acceptor.proofs.CallerLemmas.{none_asked}
use Rattle.link_acceptor.proofs.accept_loop.accept_until_end.Goals as goal

pub loop-init : goal.loop-init
loop-init g c = record {
  parts = search rules;
  adds_up = search rules;
  links = search rules;
  tells = search rules;
  back = search rules;
  asked = none_asked g.H.Halt.answers (g.D.Doors.counts c.args.doors.now).out c.args.halt.now;
  stops = search rules;
  faults = search rules;
}

pub returns-in-Err-clause-asked : goal.returns-in-Err-clause-asked
returns-in-Err-clause-asked g c =
    subst (λ end. AsksEach g.H.Halt.answers end ((g.D.Doors.counts c.accept_link.new.doors).out - (g.D.Doors.counts c.args.doors.now).out) c.args.halt.now c.accept_link.new.halt)
    (sym c.after_links.ensures.end)
    (asked_to_end g.H.Halt.answers (g.D.Doors.counts c.args.doors.now).out (g.D.Doors.counts c.loop.doors).out (g.D.Doors.counts c.accept_link.new.doors).out
    c.args.halt.now c.loop.halt c.accept_link.new.halt c.loop.invariant.adds_up.more c.loop.invariant.asked c.in-Err.end c.in-Err.ensures.one c.in-Err.ensures.asked)

pub loop-preserved : goal.loop-preserved
loop-preserved g c = record {
  parts = search rules;
  adds_up = search rules;
  links = search rules;
  tells = search rules;
  back = search rules;
  asked = one_more_ask g.H.Halt.answers (g.D.Doors.counts c.args.doors.now).out (g.D.Doors.counts c.loop.doors).out (g.D.Doors.counts c.accept_link.new.doors).out
      c.args.halt.now c.loop.halt c.accept_link.new.halt c.loop.invariant.adds_up.more c.loop.invariant.asked c.in_default.ensures.one c.in_default.ensures.asked;
  stops = search rules;
  faults = search rules;
}

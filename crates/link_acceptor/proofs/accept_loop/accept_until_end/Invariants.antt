use Rattle.std.specs.Prelude.{◌≡◌, ◌≤◌, ◌-◌}
use Rattle.link_acceptor.specs.Accepting.{AddsUp, Allows, links_between, StillTells}
use Rattle.link_acceptor.proofs.accept_loop.accept_until_end.Given as goal

abbrev pub invariant-loop : goal.invariant-loop
invariant-loop g l = record {
  parts : l.share.parts ≡ l.fn.share.parts;
  adds_up : AddsUp 0 (g.D.Doors.counts l.fn.doors) (g.D.Doors.counts l.doors) l.fn.share.amount l.share.amount;
  links : l.links ≡ links_between (g.D.Doors.counts l.fn.doors) (g.D.Doors.counts l.doors);
  tells : StillTells (g.D.Doors.waiting l.fn.doors) (g.D.Doors.waiting l.doors);
  back : g.D.Doors.back l.doors ≡ g.D.Doors.back l.fn.doors;
  asked : Allows g.H.Halt.answers ((g.D.Doors.counts l.doors).out - (g.D.Doors.counts l.fn.doors).out) l.fn.halt l.halt;
  stops : g.H.Halt.stops l.halt ≡ g.H.Halt.stops l.fn.halt;
  faults : g.D.Doors.faults l.fn.doors ≤ g.D.Doors.faults l.doors;
}

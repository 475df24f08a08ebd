use Rattle.std.proofs.Common.{rules, ◌≡◌, ◌∙◌, ap, refl, arith}
use Rattle.std.specs.Prelude.{Err}
use Rattle.step_count.specs.CounterRule.{store_in}
use Rattle.step_count.specs.FirstViews.{named}
use Rattle.step_count.proofs.CallerLemmas.{store_told}
use Rattle.tsd_fleet.proofs.FleetLines.{begins_still, keeps_links, keeps_none, keeps_starved, listens_still}
use Rattle.tsd_fleet.proofs.fleet.serve_from.Goals as goal

pub returns-in-Err : goal.returns-in-Err
returns-in-Err g c =
    let l = c.in-Err.ensures in let t = c.tally-tally.ensures in let n = c.none_served.ensures in
    record {
      keeps = keeps_none g.H.Halt.answers _ _ _ _ _ _ c.in-Err.end c.tally-tally.result _ _ _ n.outcome n.rows c.unless_memory.ensures c.requires.base (record { ids = t.ids; rows = t.rows; cells = t.cells })
          l.back l.returned l.out refl n.halt (ap g.H.Halt.stops n.halt) l.writes_later l.later l.begins l.failed (λ is. l.silent (ap Err is));
    }

pub returns-in_default : goal.returns-in_default
returns-in_default g c =
    let l = c.listen.ensures in let t = c.tally-tally.ensures in let n = c.none_served-in_default.ensures in
    record {
      keeps = keeps_starved g.H.Halt.answers _ _ _ _ _ _ c.tally-tally.result _ _ n.outcome n.rows c.requires.base (record { ids = t.ids; rows = t.rows; cells = t.cells })
          l.back l.returned l.out refl n.halt (ap g.H.Halt.stops n.halt) l.writes_later l.later l.begins;
    }

pub returns-in-Err-serve_parts : goal.returns-in-Err-serve_parts
returns-in-Err-serve_parts g c =
    let l = c.listen.ensures in let t = c.tally-tally.ensures in let n = c.none_served-in-Err-serve_parts.ensures in let e = c.in-Err-serve_parts.ensures in
    let counts = g.D.Doors.counts in let halt = n.halt ∙ e.halt in
    record {
      keeps = keeps_starved g.H.Halt.answers _ _ _ _ _ _ c.tally-tally.result _ _ n.outcome n.rows c.requires.base (record { ids = t.ids; rows = t.rows; cells = t.cells })
          (ap g.D.Doors.back e.doors ∙ l.back) (ap (λ d. (counts d).returned) e.doors ∙ l.returned) (ap (λ d. (counts d).out) e.doors ∙ l.out) (ap g.C.Clock.faults e.clock) halt (ap g.H.Halt.stops halt) l.writes_later
          (let a = l.later in let b = e.doors_later in omega (arith, a, b)) (begins_still _ _ _ (counts c.listen.new.doors) (counts c.serve_parts.new.doors) (ap (λ d. (counts d).port) e.doors) l.begins);
    }

pub returns-in-Ok-serve_parts : goal.returns-in-Ok-serve_parts
returns-in-Ok-serve_parts g c =
    let l = c.listen.ensures in let e = c.in-Ok-serve_parts.ensures in
    let counts = g.D.Doors.counts in
    let name : c.in-Ok-make.parts.name ≡ named c.args.base.content c.args.base.data_regions = search rules in
    record {
      keeps = keeps_links g.H.Halt.answers _ (store_in c.in-Ok-make.parts.name) _ _
          (record { waiting = g.D.Doors.waiting c.listen.new.doors; back = g.D.Doors.back c.listen.new.doors; counts = counts c.listen.new.doors; faults = g.D.Doors.faults c.listen.new.doors })
          _ _ _ _ _ _ (ap store_in name ∙ store_told _) (ap (λ x. x.data_regions) name) l.waiting l.back l.returned l.out l.later
          (listens_still _ _ _ (counts c.listen.new.doors) (counts c.serve_parts.new.doors) e.port c.in-Ok.ensures.ok)
          (record { writes = l.writes_later; clock = e.clock_later; doors = (let a = l.later in let b = e.doors_later in omega (arith, a, b)); stops = e.stops_later })
          (e.served _ _);
    }

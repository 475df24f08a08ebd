use Rattle.std.proofs.Common.{◌≡◌, subst, sym, arith}
use Rattle.tsd_base.specs.Points.{data_point}
use Rattle.cell_model.specs.Seen.{Waited, IsPossible, RoseIfStopped}
use Rattle.cell_solo.specs.Turns.{sight}
use Rattle.test_rows.specs.Sharing.{Scene}
use Rattle.test_rows.proofs.Passing.{wait_step, waits_join, first_kept, stands_too, put_waits}
use Rattle.cell_solo.proofs.CallerLemmas.{stayed, lives_on, on_ok, if_err}
use Rattle.test_rows.proofs.scripted.ScriptedRows.put_point.Goals as goal

pub put_point-requires : goal.put_point-requires
put_point-requires c = record {
  knows = put_waits (sight c.args.self.now.shared.solo) (sight c.self.inside.shared.solo) (data_point c.args.point.now) c.args.row.now c.args.qual.now c.args.value.now
      (subst (λ (v : Scene). Waited (sight c.args.self.now.shared.solo) (sight v.shared.solo)) (sym c.self.view_is) c.let_others.ensures.waits) c.requires.knows;
}

pub invariant_of-self : goal.invariant_of-self
invariant_of-self c = record { first = first_kept c.self.inside.shared.solo c.put_point.new.self.solo _ _ c.put_point.result c.put_point.ensures.steps c.put_point.ensures.stays c.self.invariant.first }

pub returns-clause-ok : goal.returns-clause-ok
returns-clause-ok c = on_ok c.put_point.result
    (λ steps. wait_step _ _ _ _ _ (subst (λ (v : Scene). Waited (sight c.args.self.now.shared.solo) (sight v.shared.solo)) (sym c.self.view_is) c.let_others.ensures.waits) steps.stepped)
    c.put_point.ensures.steps

pub returns-clause-err : goal.returns-clause-err
returns-clause-err c = if_err c.put_point.result
    (λ e stays. waits_join (sight c.args.self.now.shared.solo) (sight c.self.inside.shared.solo) (sight c.put_point.new.self.solo)
    (subst (λ (v : Scene). Waited (sight c.args.self.now.shared.solo) (sight v.shared.solo)) (sym c.self.view_is) c.let_others.ensures.waits) (stayed c.self.inside.shared.solo c.put_point.new.self.solo stays))
    c.put_point.ensures.stays

pub returns-clause-possible : goal.returns-clause-possible
returns-clause-possible c = on_ok c.put_point.result (λ steps. steps.possible) c.put_point.ensures.steps

pub returns-clause-lives : goal.returns-clause-lives
returns-clause-lives c = if_err c.put_point.result
    (λ e stays was. lives_on c.self.inside.shared.solo c.put_point.new.self.solo stays (subst (λ (v : Scene). IsPossible (sight v.shared.solo)) (sym c.self.view_is) c.let_others.ensures.possible)) c.put_point.ensures.stays

pub returns-clause-stopped : goal.returns-clause-stopped
returns-clause-stopped c = if_err c.put_point.result (λ e is. subst (RoseIfStopped c.args.self.now.stops c.self.inside.stops) (sym is) tt) c.put_point.ensures.memory

pub returns-clause-stands : goal.returns-clause-stands
returns-clause-stands c = stands_too c.args.self.now.stops c.self.inside.stops c.put_point.result
    (subst (λ (v : Scene). v.stops ≡ c.args.self.now.stops) (sym c.self.view_is) c.let_others.ensures.stops) c.put_point.ensures.memory

pub returns-clause-spare : goal.returns-clause-spare
returns-clause-spare c = on_ok c.put_point.result (λ steps. omega arith) c.put_point.ensures.steps

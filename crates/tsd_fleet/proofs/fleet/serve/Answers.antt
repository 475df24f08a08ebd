use Rattle.std.proofs.Common.{rules, ◌≡◌, ◌∙◌, ap, refl, sym, subst}
use Rattle.row_key.specs.Made.{three}
use Rattle.row_key.proofs.CallerLemmas.{has_three}
use Rattle.cell_model.specs.Sound.{IsBase}
use Rattle.cell_model.specs.Store.{no_cells}
use Rattle.cell_laws.proofs.CallerLemmas.{empty_base}
use Rattle.tsd_fleet.proofs.FleetLines.{begins_nothing, does_from, keeps_starved}
use Rattle.tsd_fleet.proofs.fleet.serve.Goals as goal

pub serve_from-kept-requires-clause-base : goal.serve_from-kept-requires-clause-base
serve_from-kept-requires-clause-base g c κs within =
    let none : c.in-Ok.base.content ≡ no_cells c.three.result = search rules in
    subst IsBase (sym none) (empty_base c.three.result)

pub returns-in_default : goal.returns-in_default
returns-in_default g c =
    let n = c.none_served-kept.ensures in
    record { does = (keeps_starved g.H.Halt.answers _ _ _ _ _ _ c.no_tally.result 0 _ n.outcome n.rows (empty_base three) c.no_tally.ensures refl refl refl refl n.halt (ap g.H.Halt.stops n.halt) (search rules) (search rules) (begins_nothing _ _ (g.D.Doors.counts c.args.doors.now))).does }

pub returns : goal.returns
returns g c =
    let none : c.in-Ok.base.content ≡ no_cells c.three.result = search rules in
    record { does = does_from g.H.Halt.answers _ c.in-Ok.base.content _ _ _ _ _ (none ∙ ap no_cells (has_three c.three.result c.three.ensures)) c.serve_from-kept.ensures.keeps.does }

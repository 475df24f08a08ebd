use Rattle.std.proofs.Common.{sym, ap, subst, ◌∙◌, add-zero}
use Rattle.std.specs.Prelude.{Some}
use Rattle.cell_model.specs.Seen.{Seen}
use Rattle.cell_solo.specs.Turns.{sight}
use Rattle.lone_store.specs.LoneStores.{IsFresh}
use Rattle.point_put.specs.Admissions.{admission}
use Rattle.stdio_job.proofs.Alone.{none_alone, passes_published, stops_as}
use Rattle.stdio_job.proofs.published_connection.serve_selected.Goals as goal

pub returns-in-Ok-clause-served : goal.returns-in-Ok-clause-served
returns-in-Ok-clause-served g c =
    let fresh = subst (λ (s : Seen). IsFresh c.args.widths s) (λ j. sight ((sym c.part.ensures) j).rows) c.in-Ok.ensures.fresh in
    passes_published c.args.widths (admission c.args.config.now c.args.rule.now.patterns) c.args.selects.prefix (sight c.part.result.rows) _ _ _ c.serve_feeding-served.result.0 fresh c.serve_feeding-served.ensures.served

pub returns-in-Ok-clause-causes : goal.returns-in-Ok-clause-causes
returns-in-Ok-clause-causes g c =
    let stops = g.H.Halt.stops in
    stops_as _ _ _ _ _ (add-zero (stops c.part.result.halt) ∙ ap stops ((λ j. (c.part.ensures j).halt) ∙ c.in-Ok.ensures.halt))
    (add-zero (stops c.serve_feeding-served.result.1.halt) ∙ ap stops (λ j. ((sym c.part-rows.ensures) j).1)) c.serve_feeding-served.ensures.causes

pub returns-in-Err-clause-served : goal.returns-in-Err-clause-served
returns-in-Err-clause-served g c = none_alone c.args.widths (admission c.args.config.now c.args.rule.now.patterns) (Some c.args.selects.prefix) _ _ c.no_memory.ensures.served

use Rattle.std.proofs.Common.{refl, w64, FitsSigned, rules}
use Rattle.std.proofs.lemmas.Int.{to_z-of_z}
use Rattle.tsd_base.specs.Points.{data_point}
use Rattle.point_put.specs.TextPuts.{point_at}
use Rattle.point_put.proofs.PlacedPuts.{refilled, refilled_as, next_says, next_placed, one_made, none_made, not_refilled}
use Rattle.point_put.proofs.placed_put.put_next.Goals as goal

pub returns-in_default-clause-says : goal.returns-in_default-clause-says
returns-in_default-clause-says g c adm same = not_refilled adm (g.R.Rows.seen c.args.names.now.rows) c.args.placed.now (point_at (data_point c.args.placed.now.point) c.args.time c.args.fine c.args.value) refl c.requires.placed

pub returns-in_default-clause-few : goal.returns-in_default-clause-few
returns-in_default-clause-few g c = none_made _

pub store_placed-requires : goal.store_placed-requires
store_placed-requires g c =
    let fits : FitsSigned w64 c.args.value = search rules in
    refilled (g.R.Rows.seen c.args.names.now.rows) c.args.placed.now c.refill.new.self c.args.time c.args.fine c.args.value c.requires.timed (refilled_as c.args.placed.now c.refill.new.self c.args.time c.args.fine c.args.value _ (to_z-of_z w64 c.args.value fits) c.in-Ok.ensures.ok) c.requires.placed

pub returns-clause-says : goal.returns-clause-says
returns-clause-says g c adm same =
    let fits : FitsSigned w64 c.args.value = search rules in
    next_says adm c.args.config.now.appends _ _ c.args.placed.now c.refill.new.self c.args.time c.args.fine c.args.value c.store_placed.result same c.requires.timed (refilled_as c.args.placed.now c.refill.new.self c.args.time c.args.fine c.args.value _ (to_z-of_z w64 c.args.value fits) c.in-Ok.ensures.ok) c.requires.placed
    c.store_placed.ensures.made

pub returns-clause-placed : goal.returns-clause-placed
returns-clause-placed g c =
    let fits : FitsSigned w64 c.args.value = search rules in
    next_placed c.args.config.now.appends _ _ c.args.placed.now c.refill.new.self c.args.time c.args.fine c.args.value c.store_placed.result c.requires.timed (refilled_as c.args.placed.now c.refill.new.self c.args.time c.args.fine c.args.value _ (to_z-of_z w64 c.args.value fits) c.in-Ok.ensures.ok) c.requires.placed
    c.store_placed.ensures.made

pub returns-clause-few : goal.returns-clause-few
returns-clause-few g c = one_made c.args.config.now.appends (data_point c.refill.new.self.point) _ _ _ c.store_placed.ensures.made

use Rattle.std.proofs.Common.{◌≡◌, ◌∙◌, ◌+◌, ◌*◌, [], ◌∷◌, ◌++◌, FitsSigned, w64, rules, refl, sym, arith}
use Rattle.std.proofs.Math.Seq.{take-length}
use Rattle.std.proofs.lemmas.Bool.{eqb-true}
use Rattle.std.proofs.lemmas.Int.{to_z-of_z}
use Rattle.lerp_aggregate.proofs.Filled.{filled_all, filling_more, filling_none, limited, of_no_filled, some_series, time_above, time_low, too_large}
use Rattle.lerp_aggregate.specs.FilledGroups.{times_from}
use Rattle.lerp_aggregate.proofs.filled_groups.aggregate_filled.Goals as goal

pub returns-then-is_empty : goal.returns-then-is_empty
returns-then-is_empty c = of_no_filled c.args.how (times_from c.args.interval c.args.first c.args.count) c.args.list.now c.make.result (eqb-true _ _ (sym c.if-is_empty.ensures)) c.make.ensures

pub loop-place-init : goal.loop-place-init
loop-place-init c =
    filling_none c.args.how c.args.list.now c.args.interval c.args.first c.args.count (some_series c.args.list.now (sym c.if-is_empty.ensures)) c.requires.interval c.requires.on c.in_ok-walk.walk c.in_ok-dots.dots
    (c.in_ok-walk.ensures.walked ∙ take-length c.args.list.now) c.in_ok-walk.ensures.stand c.in_ok-dots.ensures

pub overflow_mul-time : goal.overflow_mul-time
overflow_mul-time c = omega (arith, time_low c.args.interval c.args.first c.args.count c.loop-place.place c.requires.times c.loop-place-test.true)

pub overflow_add-time : goal.overflow_add-time
overflow_add-time c = omega (arith, time_low c.args.interval c.args.first c.args.count c.loop-place.place c.requires.times c.loop-place-test.true)

pub value_filled-requires-clause-limit : goal.value_filled-requires-clause-limit
value_filled-requires-clause-limit c = limited (times_from c.args.interval c.args.first c.args.count) c.args.list.now c.requires.times c.requires.on

pub returns-in_default : goal.returns-in_default
returns-in_default c =
    too_large c.args.how c.args.list.now c.args.interval c.args.first c.args.count (some_series c.args.list.now (sym c.if-is_empty.ensures)) c.requires.interval c.requires.on c.loop-place.place c.loop-place.walk c.loop-place.dots c.loop-place.invariant
    c.loop-place-test.true (c.args.first + c.loop-place.place * c.args.interval) refl (sym c.in_default.ensures.value)

pub push-requires : goal.push-requires
push-requires c =
    time_above c.args.how c.args.list.now c.args.interval c.args.first c.args.count (some_series c.args.list.now (sym c.if-is_empty.ensures)) c.requires.interval c.requires.on c.loop-place.place c.loop-place.walk c.loop-place.dots c.loop-place.invariant
    c.loop-place-test.true (c.args.first + c.loop-place.place * c.args.interval) refl

pub loop-place-preserved : goal.loop-place-preserved
loop-place-preserved c =
    let time = c.args.first + c.loop-place.place * c.args.interval in
    let fit : FitsSigned w64 c.in-Some.value = search rules in
    let pushed : c.push.new.self ≡ c.loop-place.dots ++ (time, c.in-Some.value) ∷ [] = simp to_z-of_z at c.in_ok-push.ensures.ok in
    filling_more c.args.how c.args.list.now c.args.interval c.args.first c.args.count (some_series c.args.list.now (sym c.if-is_empty.ensures)) c.requires.interval c.requires.on c.loop-place.place c.loop-place.walk c.loop-place.dots c.loop-place.invariant
    c.loop-place-test.true time refl c.in-Some.value c.value_filled.new.walk c.push.new.self (sym c.in-Some.ensures.value) c.in-Some.ensures.all c.in-Some.ensures.stand pushed

pub returns : goal.returns
returns c =
    filled_all c.args.how c.args.list.now c.args.interval c.args.first c.args.count (some_series c.args.list.now (sym c.if-is_empty.ensures)) c.requires.interval c.requires.on c.loop-place.place c.loop-place.walk c.loop-place.dots c.loop-place.invariant
    (omega (arith, c.loop-place-test.false, c.loop-place.auto.place-end))

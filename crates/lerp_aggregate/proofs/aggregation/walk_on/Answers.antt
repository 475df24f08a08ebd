use Rattle.std.proofs.Common.{◌≡◌, ◌<◌, ◌+◌, [], ◌∷◌, ◌++◌, sym, subst, FitsSigned, w64, rules, arith}
use Rattle.std.proofs.lemmas.Int.{to_z-of_z}
use Rattle.std.proofs.lemmas.List.Elements.{recursion_from_All}
use Rattle.lerp_aggregate.specs.Walks.{next_of}
use Rattle.lerp_aggregate.proofs.Finding.{Found, at_end, stand_here, is_limited, counts, counts_some, has_room, too_large, more_found, on_or_after, left_of, left_of-later}
use Rattle.lerp_aggregate.proofs.Walking.{late}
use Rattle.lerp_aggregate.proofs.aggregation.walk_on.Goals as goal

pub turn-requires-clause-stand : goal.turn-requires-clause-stand
turn-requires-clause-stand c = let found = c.loop-time.invariant in stand_here c.args.how c.args.list.now c.loop-time.walk c.loop-time.dots found.0 found.1 c.in-Some.time (sym c.in-Some.ensures)

pub value-requires-clause-some : goal.value-requires-clause-some
value-requires-clause-some c =
    let found = c.loop-time.invariant in
    counts_some c.args.how c.args.list.now c.loop-time.walk c.loop-time.dots found.0 found.1 c.in-Some.time (sym c.in-Some.ensures) c.new-tally.result c.turn.new.tally c.interpolates-between.result c.interpolates-between.ensures c.new-tally.ensures.counts c.turn.ensures.adds (search rules)

pub value-requires-clause-room : goal.value-requires-clause-room
value-requires-clause-room c =
    let found = c.loop-time.invariant in
    has_room c.args.how c.args.list.now c.loop-time.walk c.loop-time.dots found.0 found.1 c.in-Some.time (sym c.in-Some.ensures) c.new-tally.result c.turn.new.tally c.interpolates-between.result c.interpolates-between.ensures c.new-tally.ensures.counts c.turn.ensures.adds (search rules)

pub returns-in_default-value : goal.returns-in_default-value
returns-in_default-value c =
    let found = c.loop-time.invariant in
    let next = sym c.in-Some.ensures in
    let counted = counts c.args.how c.args.list.now c.loop-time.walk c.loop-time.dots found.0 found.1 c.in-Some.time next c.new-tally.result c.turn.new.tally c.interpolates-between.result c.interpolates-between.ensures c.new-tally.ensures.counts c.turn.ensures.adds (search rules) in
    too_large c.args.how c.args.list.now c.loop-time.walk c.loop-time.dots found.0 found.1 c.in-Some.time next c.new-tally.result c.turn.new.tally c.interpolates-between.result c.interpolates-between.ensures c.new-tally.ensures.counts c.turn.ensures.adds (search rules) (sym (c.in_default-value.ensures _ counted))

pub push-requires : goal.push-requires
push-requires c =
    let found = c.loop-time.invariant in
    let on = on_or_after c.args.how c.args.list.now c.loop-time.walk c.loop-time.dots found.0 found.1 c.in-Some.time (sym c.in-Some.ensures) in
    recursion_from_All (λ d. d.0 < c.in-Some.time) c.loop-time.dots (λ k d inside. let early = found.1.early k d inside in omega (arith, early, on))

pub loop-time-smaller : goal.loop-time-smaller
loop-time-smaller c =
    let found = c.loop-time.invariant in
    let next = sym c.in-Some.ensures in
    let limited = is_limited c.args.how c.args.list.now c.loop-time.walk c.loop-time.dots found.0 found.1 c.in-Some.time next c.requires.limit in
    let smaller : left_of (next_of c.turn.new.self) < left_of (next_of c.loop-time.walk) =
    left_of-later c.in-Some.time (next_of c.loop-time.walk) (next_of c.turn.new.self) limited next (late c.args.list.now (c.in-Some.time + 1) c.turn.new.self c.turn.ensures.stand) in
    smaller

pub loop-time-preserved : goal.loop-time-preserved
loop-time-preserved c =
    let found = c.loop-time.invariant in
    let next = sym c.in-Some.ensures in
    let counted = counts c.args.how c.args.list.now c.loop-time.walk c.loop-time.dots found.0 found.1 c.in-Some.time next c.new-tally.result c.turn.new.tally c.interpolates-between.result c.interpolates-between.ensures c.new-tally.ensures.counts c.turn.ensures.adds (search rules) in
    let fit : FitsSigned w64 c.in-Some-value.value = search rules in
    let pushed : c.push.new.self ≡ c.loop-time.dots ++ (c.in-Some.time, c.in-Some-value.value) ∷ [] = simp to_z-of_z at c.in_ok-push.ensures.ok in (
      c.in-Some.time + 1,
      subst (λ dots. Found c.args.how c.args.list.now c.turn.new.self dots (c.in-Some.time + 1)) (sym pushed)
          (more_found c.args.how c.args.list.now c.loop-time.walk c.loop-time.dots found.0 found.1 c.in-Some.time next c.in-Some-value.value c.turn.new.self c.turn.ensures.walked c.turn.ensures.stand (sym (c.in-Some-value.ensures _ counted))),
    )

pub returns : goal.returns
returns c = let found = c.loop-time.invariant in at_end c.args.how c.args.list.now c.loop-time.walk c.loop-time.dots found.0 found.1 (sym c.in_default.ensures)

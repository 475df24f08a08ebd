use Rattle.std.proofs.Common.{◌≡◌, ◌++◌, ◌∷◌, pos, [], get_or, FitsSigned, w64, rules, refl, sym, arith}
use Rattle.std.proofs.lemmas.Int.{to_z-of_z}
use Rattle.lerp_aggregate.proofs.Placing.{placed_all, placed_above, counts, counts_some, has_room, placed_more}
use Rattle.lerp_aggregate.proofs.equal_times.points_by_place.Goals as goal

pub tally_at-requires-clause-inside : goal.tally_at-requires-clause-inside
tally_at-requires-clause-inside c = λ k d inside. let count = c.requires.lengths k d inside in omega (arith, count, c.loop-place-test.true)

pub value-requires-clause-some : goal.value-requires-clause-some
value-requires-clause-some c =
    counts_some c.args.how c.args.list.now c.args.first.now c.loop-place.dots c.loop-place.place c.loop-place.invariant c.requires.some c.requires.first c.requires.rising (0, pos 0) c.loop-place-test.true
    (get_or c.args.first.now c.loop-place.place (0, pos 0)).0 c.new-tally.result c.tally_at.new.tally refl c.new-tally.ensures.counts c.if-not-tally_at.ensures.adds

pub value-requires-clause-room : goal.value-requires-clause-room
value-requires-clause-room c =
    has_room c.args.how c.args.list.now c.args.first.now c.loop-place.dots c.loop-place.place c.loop-place.invariant c.requires.some c.requires.first c.requires.rising (0, pos 0) c.loop-place-test.true
    (get_or c.args.first.now c.loop-place.place (0, pos 0)).0 c.new-tally.result c.tally_at.new.tally refl c.new-tally.ensures.counts c.if-not-tally_at.ensures.adds (search rules)

pub push-requires : goal.push-requires
push-requires c =
    placed_above c.args.how c.args.list.now c.args.first.now c.loop-place.dots c.loop-place.place c.loop-place.invariant c.requires.some c.requires.first c.requires.rising (0, pos 0) c.loop-place-test.true
    (get_or c.args.first.now c.loop-place.place (0, pos 0)).0 refl

pub loop-place-preserved : goal.loop-place-preserved
loop-place-preserved c =
    let time = (get_or c.args.first.now c.loop-place.place (0, pos 0)).0 in
    let counted = counts c.args.how c.args.list.now c.args.first.now c.loop-place.dots c.loop-place.place c.loop-place.invariant c.requires.some c.requires.first c.requires.rising (0, pos 0) c.loop-place-test.true
    time c.new-tally.result c.tally_at.new.tally refl c.new-tally.ensures.counts c.if-not-tally_at.ensures.adds in
    let fit : FitsSigned w64 c.in-Some.value = search rules in
    let pushed : c.push.new.self ≡ c.loop-place.dots ++ (time, c.in-Some.value) ∷ [] = simp to_z-of_z at c.in_ok-push.ensures.ok in
    placed_more c.args.how c.args.list.now c.args.first.now c.loop-place.dots c.loop-place.place c.loop-place.invariant c.requires.some c.requires.first c.requires.rising (0, pos 0) c.loop-place-test.true
    time c.in-Some.value c.push.new.self refl c.if-not-tally_at.ensures.have (sym (c.in-Some.ensures _ counted)) pushed

pub returns : goal.returns
returns c =
    placed_all c.args.how c.args.list.now c.args.first.now c.loop-place.dots c.loop-place.place c.loop-place.invariant c.requires.some c.requires.first c.requires.rising (omega (arith, c.loop-place-test.false)) c.requires.lengths

use Rattle.std.proofs.Common.{◌≡◌, ◌∙◌, ℕ, ℤ, List, pos, get_or, length, ap, sym, subst, ◌<◌, FitsSigned, w64, rules, arith}
use Rattle.std.proofs.lemmas.Int.{to_z-of_z}
use Rattle.tsd_base.specs.Dots.{IsRising}
use Rattle.lerp_aggregate.proofs.Placing.{counted_none, counted_room, counted_more, counted_all}
use Rattle.lerp_aggregate.proofs.equal_times.tally_at.Goals as goal

pub loop-dots-init : goal.loop-dots-init
loop-dots-init c = counted_none c.args.list.now c.args.place c.args.time c.args.tally.now

pub add-requires : goal.add-requires
add-requires c = record { room = counted_room c.args.list.now c.args.place c.args.time c.args.tally.now c.loop-dots.dots-index c.loop-dots.tally c.loop-dots.invariant c.requires.room c.loop-dots-test.true }

pub loop-dots-preserved : goal.loop-dots-preserved
loop-dots-preserved c =
    let fit : FitsSigned w64 (get_or c.list.result.now c.args.place (0, pos 0)).1 = search rules in
    let item = c.dots-item.result in
    let is : c.list.result.now ≡ get_or c.args.list.now c.loop-dots.dots-index item = c.list.ensures.list ∙ c.dots-item.is in
    let rising : IsRising (get_or c.args.list.now c.loop-dots.dots-index item) = subst IsRising c.dots-item.is c.list.ensures.rising in
    let inside : c.args.place < length (get_or c.args.list.now c.loop-dots.dots-index item) = c.requires.inside c.loop-dots.dots-index item c.loop-dots-test.true in
    let time : (get_or c.list.result.now c.args.place (0, pos 0)).0 ≡ c.args.time = omega (arith, c.if-point-time.false) in
    counted_more c.args.list.now c.args.place c.args.time c.args.tally.now c.loop-dots.dots-index c.loop-dots.tally c.loop-dots.invariant item (0, pos 0) _ c.add.new.self c.loop-dots-test.true rising inside
    (sym (ap (λ (l : List (ℕ × ℤ)). (get_or l c.args.place (0, pos 0)).0) is) ∙ time) (to_z-of_z w64 _ fit ∙ ap (λ (l : List (ℕ × ℤ)). (get_or l c.args.place (0, pos 0)).1) is) c.add.ensures.adds

pub returns-clause-adds : goal.returns-clause-adds
returns-clause-adds c = (counted_all c.args.list.now c.args.place c.args.time c.args.tally.now c.loop-dots.dots-index c.loop-dots.tally c.loop-dots.invariant (omega (arith, c.loop-dots-test.false))).0

pub returns-clause-have : goal.returns-clause-have
returns-clause-have c = (counted_all c.args.list.now c.args.place c.args.time c.args.tally.now c.loop-dots.dots-index c.loop-dots.tally c.loop-dots.invariant (omega (arith, c.loop-dots-test.false))).1

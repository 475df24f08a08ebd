use Rattle.std.proofs.Common.{◌∙◌, ◌&&◌, pos, sym, ap, subst, Some, FitsSigned, w64, rules, arith}
use Rattle.std.proofs.lemmas.Int.{to_z-of_z}
use Rattle.lerp_aggregate.specs.Aggregation.{value_or_between, given_at}
use Rattle.lerp_aggregate.specs.Walks.{is_inside}
use Rattle.lerp_aggregate.proofs.Standing.{Late, Skips}
use Rattle.lerp_aggregate.proofs.Walking.{cursor_skips, cursor_here, cursor_passes, cursor_between, cursor_late}
use Rattle.lerp_aggregate.proofs.cursors.Cursor.turn.Goals as goal

pub returns-in-None-clause-gives : goal.returns-in-None-clause-gives
returns-in-None-clause-gives c = sym (cursor_skips c.args.series.now c.args.self.now c.args.between c.args.time c.requires.stands (subst (Skips (c.args.between && is_inside c.args.self.now) c.args.time) (sym c.in-None.is) tt)).0

pub returns-in-None-clause-stands : goal.returns-in-None-clause-stands
returns-in-None-clause-stands c = (cursor_skips c.args.series.now c.args.self.now c.args.between c.args.time c.requires.stands (subst (Skips (c.args.between && is_inside c.args.self.now) c.args.time) (sym c.in-None.is) tt)).1

pub returns-then-next-time-clause-gives : goal.returns-then-next-time-clause-gives
returns-then-next-time-clause-gives c =
    let fit : FitsSigned w64 c.pass.result = search rules in
    ap Some (to_z-of_z w64 c.pass.result fit ∙ c.pass.ensures.value (0, pos 0)) ∙ sym (cursor_here c.args.series.now c.args.self.now c.args.between c.args.time (0, pos 0) c.requires.stands (c.in-Some.is ∙ ap Some c.if-next-time.true))

pub returns-then-next-time-clause-stands : goal.returns-then-next-time-clause-stands
returns-then-next-time-clause-stands c = cursor_passes c.args.series.now c.args.self.now c.pass.new.self c.args.time c.requires.stands (c.in-Some.is ∙ ap Some c.if-next-time.true) c.pass.ensures.place c.pass.ensures.next

pub value_between-requires-clause-stands : goal.value_between-requires-clause-stands
value_between-requires-clause-stands c =
    let late = subst (Late c.args.time) c.in-Some.is (cursor_late c.args.series.now c.args.self.now c.args.time c.requires.stands) in
    let apart = c.if-next-time.false in
    (cursor_between c.args.series.now c.args.self.now c.args.time c.in-Some.next c.requires.stands c.in-Some.is (omega (arith, late, apart))).1

pub returns-then-between-clause-gives : goal.returns-then-between-clause-gives
returns-then-between-clause-gives c =
    let late = subst (Late c.args.time) c.in-Some.is (cursor_late c.args.series.now c.args.self.now c.args.time c.requires.stands) in
    let apart = c.if-next-time.false in
    let both = cursor_between c.args.series.now c.args.self.now c.args.time c.in-Some.next c.requires.stands c.in-Some.is (omega (arith, late, apart)) in
    c.value_between.ensures ∙ sym (ap (λ o. value_or_between o c.args.series.now c.args.time) both.0) ∙ ap (λ b. given_at b c.args.series.now c.args.time) (sym c.if-between.true)

pub returns-then-between-clause-stands : goal.returns-then-between-clause-stands
returns-then-between-clause-stands c =
    let late = subst (Late c.args.time) c.in-Some.is (cursor_late c.args.series.now c.args.self.now c.args.time c.requires.stands) in
    let apart = c.if-next-time.false in
    (cursor_between c.args.series.now c.args.self.now c.args.time c.in-Some.next c.requires.stands c.in-Some.is (omega (arith, late, apart))).1

pub returns-else-between-clause-gives : goal.returns-else-between-clause-gives
returns-else-between-clause-gives c =
    let late = subst (Late c.args.time) c.in-Some.is (cursor_late c.args.series.now c.args.self.now c.args.time c.requires.stands) in
    let apart = c.if-next-time.false in
    let both = cursor_between c.args.series.now c.args.self.now c.args.time c.in-Some.next c.requires.stands c.in-Some.is (omega (arith, late, apart)) in
    sym both.0 ∙ ap (λ b. given_at b c.args.series.now c.args.time) (sym c.if-between.false)

pub returns-else-between-clause-stands : goal.returns-else-between-clause-stands
returns-else-between-clause-stands c =
    let late = subst (Late c.args.time) c.in-Some.is (cursor_late c.args.series.now c.args.self.now c.args.time c.requires.stands) in
    let apart = c.if-next-time.false in
    (cursor_between c.args.series.now c.args.self.now c.args.time c.in-Some.next c.requires.stands c.in-Some.is (omega (arith, late, apart))).1

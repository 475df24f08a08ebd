use Rattle.std.proofs.Common.{◌<◌, ◌-◌, ◌∙◌, ℕ, ℤ, get_or, sym, ap, pos, FitsSigned, w64, rules, arith}
use Rattle.std.specs.Prelude.{Some}
use Rattle.std.proofs.lemmas.Int.{to_z-of_z}
use Rattle.lerp_aggregate.specs.Interpolation.{between, lerp, nearest_after}
use Rattle.lerp_aggregate.proofs.Standing.{none_before, last_before, first_after}
use Rattle.lerp_aggregate.proofs.cursors.Cursor.value_between.Goals as goal

pub returns-then-self-eq0 : goal.returns-then-self-eq0
returns-then-self-eq0 c =
    let series = c.args.series.now in
    let time = c.args.time in
    let stands = c.requires.stands in
    ap (λ o. between o (nearest_after series time) time) (sym (none_before series c.args.self.now.place stands.rising time c.requires.missing stands.after c.if-self-eq0.true))

pub returns : goal.returns
returns c =
    let series = c.args.series.now in
    let n = c.args.self.now.place in
    let time = c.args.time in
    let stands = c.requires.stands in
    let d : ℕ × ℤ = (0, pos 0) in
    let p = get_or series (n - 1) d in
    let q = get_or series n d in
    let some : 0 < n = (let apart = c.if-self-eq0.false in omega (arith, apart)) in
    let fit : FitsSigned w64 c.lerp_at.result = search rules in
    let first : FitsSigned w64 p.1 = search rules in
    let second : FitsSigned w64 q.1 = search rules in
    ap Some (to_z-of_z w64 c.lerp_at.result fit ∙ c.lerp_at.ensures ∙ (λ i. lerp (p.0, to_z-of_z w64 p.1 first i) (q.0, to_z-of_z w64 q.1 second i) time))
    ∙ sym (λ i. between (last_before series n stands.rising time c.requires.missing stands.after d some stands.place i) (first_after series n stands.rising time c.requires.missing stands.after d c.requires.left i) time)

use Rattle.std.proofs.Common.{◌≡◌, ◌∙◌, ap, sym, rules, cond, take, get_or, arith, FitsSigned, w64}
use Rattle.std.specs.Prelude.{ℕ, ℤ, pos, Some}
use Rattle.std.specs.BTreeMap.{get}
use Rattle.std.specs.Cmp.{unsigned_tied}
use Rattle.std.specs.Ordering.{nat_cmp, eq_by_cmp}
use Rattle.std.proofs.lemmas.Int.{to_z-of_z}
use Rattle.std.proofs.lemmas.List.{take_all}
use Rattle.std.proofs.lemmas.Result.{IfOk-weaker}
use Rattle.lerp_aggregate.specs.Aggregation.{value_at}
use Rattle.batch_job.specs.LastValues.{last_at}
use Rattle.batch_job.proofs.SettleLemmas.{last_at-more, value_at-get, take_next}
use Rattle.batch_job.proofs.last_values.put_in_order.Goals as goal

pub loop-value-preserved : goal.loop-value-preserved
loop-value-preserved c = λ time.
    let values = c.args.values.now in
    let i = c.loop-value.value-index in
    let x : ℕ × ℤ = get_or values i (0, pos 0) in
    let fits : FitsSigned w64 x.1 = search rules in
    c.in_ok-insert.ensures.updates.0 time ∙ ap (λ z. cond (eq_by_cmp nat_cmp x.0 time) (Some z) (get nat_cmp c.loop-value.map time)) (to_z-of_z w64 x.1 fits)
    ∙ ap (λ o. cond (eq_by_cmp nat_cmp x.0 time) (Some x.1) o) (c.loop-value.invariant time)
    ∙ ap (λ b. cond b (Some x.1) (last_at (take i values) time)) (unsigned_tied x.0 time)
    ∙ sym (last_at-more (take i values) x time) ∙ ap (λ ds. last_at ds time) (sym (take_next values i (0, pos 0) c.loop-value-test.true))

pub returns : goal.returns
returns c =
    let all : take c.loop-value.value-index c.args.values.now ≡ c.args.values.now = take_all c.loop-value.value-index c.args.values.now (let end = c.loop-value-test.false in omega (arith, end)) in
    IfOk-weaker c.dots_of.result (λ dots. dots ≡ c.loop-value.map.entries) (λ dots. (time : ℕ) → value_at dots time ≡ last_at c.args.values.now time)
    (λ dots is time. ap (λ ds. value_at ds time) is ∙ value_at-get c.loop-value.map time ∙ c.loop-value.invariant time ∙ ap (λ ds. last_at ds time) all) c.dots_of.ensures

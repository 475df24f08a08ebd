use Rattle.std.proofs.Common.{◌≡◌, sym, subst, rules, arith, true, get_or, take}
use Rattle.std.specs.Prelude.{ℕ, ℤ, pos, Some}
use Rattle.std.proofs.lemmas.List.{take_all}
use Rattle.tsd_base.specs.Dots.{IsRising}
use Rattle.batch_job.specs.LastValues.{is_later}
use Rattle.batch_job.proofs.SettleLemmas.{IsUpTo, above, rising_more, take_next, up_to_more}
use Rattle.batch_job.proofs.last_values.is_rising.Goals as goal

pub loop-value-preserved : goal.loop-value-preserved
loop-value-preserved c =
    let values = c.args.values.now in
    let i = c.loop-value.value-index in
    let x : ℕ × ℤ = get_or values i (0, pos 0) in
    let later : is_later x.0 c.loop-value.latest ≡ true = search rules in
    let next = sym (take_next values i (0, pos 0) c.loop-value-test.true) in
    record {
      rising = subst IsRising next (rising_more (take i values) x c.loop-value.invariant.rising (above c.loop-value.latest (take i values) x.0 c.loop-value.invariant.latest later));
      latest = subst (IsUpTo (Some x.0)) next (up_to_more c.loop-value.latest (take i values) x.0 x.1 c.loop-value.invariant.latest later);
    }

pub returns : goal.returns
returns c same =
    subst IsRising (take_all c.loop-value.value-index c.args.values.now (let end = c.loop-value-test.false in omega (arith, end))) c.loop-value.invariant.rising

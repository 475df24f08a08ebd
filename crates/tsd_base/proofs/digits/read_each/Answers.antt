use Rattle.std.proofs.Common.{arith}
use Rattle.std.proofs.lemmas.Int.Digits.{digits_value_more}
use Rattle.std.proofs.lemmas.Str.{digit_value_digit}
use Rattle.std.proofs.lemmas.List.Folds.{list_all_more}
use Rattle.std.proofs.lemmas.Grind.{common_steps}
use Rattle.tsd_base.proofs.DigitRuns.{one_more, room}
use Rattle.tsd_base.proofs.digits.read_each.Goals as goal

pub overflow_mul-n : goal.overflow_mul-n
overflow_mul-n c =
    let below = room c.args.number c.loop-b.n c.args.text.now c.loop-b.b-index c.requires.0 c.requires.1 c.loop-b-test.true c.loop-b.invariant.value c.loop-b.invariant.digits in
    omega (arith, below)

pub overflow_add-n : goal.overflow_add-n
overflow_add-n c =
    let below = room c.args.number c.loop-b.n c.args.text.now c.loop-b.b-index c.requires.0 c.requires.1 c.loop-b-test.true c.loop-b.invariant.value c.loop-b.invariant.digits in
    omega (arith, below, c.from.ensures, c.if-not-is_ascii_digit.ensures.cases)

pub loop-b-preserved : goal.loop-b-preserved
loop-b-preserved c = record {
  value = omega (arith, one_more c.args.number c.loop-b.b-index, c.loop-b.invariant.value, c.from.ensures, c.if-not-is_ascii_digit.ensures.cases, digits_value_more, digit_value_digit);
  digits = grind (arith, common_steps, list_all_more);
}

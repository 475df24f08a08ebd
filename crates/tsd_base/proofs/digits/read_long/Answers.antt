use Rattle.std.proofs.Common.{arith}
use Rattle.std.proofs.lemmas.Int.Digits.{digits_value_more}
use Rattle.std.proofs.lemmas.Str.{digit_value_digit}
use Rattle.std.proofs.lemmas.List.Folds.{list_all_more}
use Rattle.std.proofs.lemmas.Grind.{common_steps}
use Rattle.tsd_base.proofs.digits.read_long.Goals as goal

pub loop-b-preserved : goal.loop-b-preserved
loop-b-preserved c = record {
  value = omega (arith, c.with_digit-n.ensures, c.if-not-is_ascii_digit.ensures.cases, digits_value_more, digit_value_digit);
  digits = grind (arith, common_steps, list_all_more);
}

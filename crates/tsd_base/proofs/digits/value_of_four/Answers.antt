use Rattle.std.proofs.Common.{◌∙◌}
use Rattle.tsd_base.proofs.DigitRuns.{value_of_four}
use Rattle.tsd_base.proofs.digits.value_of_four.Goals as goal

pub returns : goal.returns
returns c = c.from.ensures ∙ value_of_four c.args.text.now c.from_le_bytes-digits.result c.told-text c.requires c.from_le_bytes-digits.ensures

use Rattle.tsd_base.proofs.DigitRuns.{value_of_eight}
use Rattle.tsd_base.proofs.digits.value_of_eight.Goals as goal

pub returns : goal.returns
returns c = value_of_eight c.args.text.now c.from_le_bytes-digits.result c.told-text c.requires c.from_le_bytes-digits.ensures

use Rattle.row_key.proofs.Once.{unique_keys}
use Rattle.row_key.proofs.laws.keys_are_unique.Goals as goal

pub returns : goal.returns
returns c = unique_keys

use Rattle.row_key.proofs.Comparing.{keys_compare}
use Rattle.row_key.proofs.laws.rows_follow_keys.Goals as goal

pub returns : goal.returns
returns c = keys_compare

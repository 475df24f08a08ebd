use Rattle.std.proofs.lemmas.List.{take_rest}
use Rattle.row_key.proofs.keys.behind_pair.Goals as goal

pub returns : goal.returns
returns c = take_rest c.args.bytes.now _

use Rattle.row_key.proofs.Homes.{last_at}
use Rattle.row_key.proofs.regions.last_byte.Goals as goal

pub returns-in-len1-up : goal.returns-in-len1-up
returns-in-len1-up c = last_at c.args.row.now c.in-len1-up.len_at_least

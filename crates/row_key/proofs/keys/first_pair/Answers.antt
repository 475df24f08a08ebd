use Rattle.row_key.proofs.Once.{first_two}
use Rattle.row_key.proofs.keys.first_pair.Goals as goal

pub returns-clause-bytes : goal.returns-clause-bytes
returns-clause-bytes c = first_two c.args.widths c.args.bytes.now _ _ c.id_of.ensures.bytes c.id_of-2.ensures.bytes

use Rattle.cell_laws.proofs.Parts.{reply-part}
use Rattle.cell_laws.proofs.part_laws.replies_apart.Goals as goal

pub returns : goal.returns
returns c = reply-part

use Rattle.cell_listing.proofs.Printed.{lines_read_back}
use Rattle.cell_listing.proofs.laws.lines_read_back.Goals as goal

pub returns : goal.returns
returns c = lines_read_back
